pub mod Graph
pub mod Compiled
pub mod Reduced
pub mod Laws
pub mod Numbering
