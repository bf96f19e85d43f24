-- Lines over connections.
pub mod Archives
pub mod GameFiles
pub mod Moments
pub mod Passing
pub mod Laws
