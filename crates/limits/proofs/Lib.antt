pub mod ColourBits
