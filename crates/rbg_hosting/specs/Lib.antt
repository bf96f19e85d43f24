-- Matches that outlive the process that served them.
pub mod Played
pub mod Runs
pub mod Answers
pub mod Archives
pub mod Errors
pub mod Halls
pub mod Laws
pub mod Moments
pub mod Pasts
pub mod Printed
pub mod Records
pub mod Served
pub mod Tables
pub mod internal
