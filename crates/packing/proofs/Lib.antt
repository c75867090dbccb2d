pub mod Options
pub mod Distinct
pub mod Patterns
pub mod Orders
