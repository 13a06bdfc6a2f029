pub mod Blocks
pub mod Lone
pub mod Laws
