pub mod Standing
pub mod View
pub mod Sound
pub mod Contract
pub mod Changes
pub mod Building
