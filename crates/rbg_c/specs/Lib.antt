-- What a state of a game is, and where moves lead it.
pub mod States
pub mod Codes
pub mod Stepping
-- What C holds, and what the calls from C do.
pub mod Results
pub mod Held
pub mod Calls
pub mod Opening
pub mod Faults
pub mod Filling
pub mod Listing
pub mod Names
pub mod Shapes
pub mod Playouts
pub mod internal
