pub mod Sinks
pub mod SinkLaws
pub mod Writing
pub mod Samples
pub mod Reading
pub mod Links
pub mod Incoming
