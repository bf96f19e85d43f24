-- A table of a hall: its seats, its match, and what it tells the lines of the hall.
pub mod TableHearing
pub mod internal
pub mod TableLaws
pub mod TableLimits
pub mod Tables
pub mod Tellings
pub mod Undoing
-- Tables with a log.
pub mod Kept
pub mod LogLaws
pub mod LogLedgers
-- A whole hall: its lines and its tables, and what each line may have.
pub mod Allowed
pub mod Apart
pub mod Due
pub mod Failing
pub mod Halls
pub mod Hearing
pub mod Laws
pub mod Ledgers
pub mod Limits
pub mod Lines
pub mod Openings
pub mod Own
pub mod Requests
pub mod Serving
pub mod Wholes
