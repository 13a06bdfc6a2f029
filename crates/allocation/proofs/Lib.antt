pub mod Rounding
pub mod Tables
