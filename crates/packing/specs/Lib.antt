pub mod Distinct
pub mod Packing
pub mod Problem
pub mod Given
pub mod Laws
