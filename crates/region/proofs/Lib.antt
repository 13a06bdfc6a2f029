pub mod Writes
pub mod Copies
pub mod Parts
