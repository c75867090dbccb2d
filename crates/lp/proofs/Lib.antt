pub mod Entries
pub mod Items
pub mod Linking
pub mod Rows
pub mod ReadsBack
pub mod Bounds
