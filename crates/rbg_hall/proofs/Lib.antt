-- What the proofs of this crate share.
pub mod TableCommon
pub mod Alike
mod Emptying
pub mod Holding
mod Phases
pub mod Places
mod Between
mod Seated
mod Sitting
pub mod Seats
pub mod Telling
pub mod Failing
pub mod Keeping
pub mod LogSending
pub mod Common
mod Apart
pub mod Beginnings
mod Counts
pub mod Dues
mod Early
mod Growing
mod Halls
mod Logs
mod Openings
mod Owning
mod Permitted
mod Pieces
mod Requesting
pub mod HallRunning
mod Same
mod Sending
pub mod Served
mod Silence
mod Taking
mod Ticking
pub mod Wholes
