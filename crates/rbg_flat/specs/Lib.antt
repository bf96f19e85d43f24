-- What is found from one place with no modifier before it.
pub mod Candidates
pub mod Ways
pub mod Chains
pub mod Found
pub mod Met
pub mod Ending
pub mod Onward
pub mod Order
pub mod Followers
pub mod Paths
pub mod internal
