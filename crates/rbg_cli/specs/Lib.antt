pub mod Served
pub mod Runs
pub mod Wishes
pub mod Words
