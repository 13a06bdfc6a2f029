pub mod Fitting
pub mod Tables
pub mod Placings
pub mod Models
pub mod Rules
pub mod Laws
pub mod Blocks
pub mod Grants
