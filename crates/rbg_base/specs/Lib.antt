-- What every layer shares.
pub mod Names
pub mod Decimals
pub mod Move
pub mod List
