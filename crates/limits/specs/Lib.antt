pub mod Meaning
pub mod Numbers
pub mod Colours
pub mod Counted
pub mod ColourRules
pub mod ColourBits
pub mod CountRules
pub mod NumberRules
