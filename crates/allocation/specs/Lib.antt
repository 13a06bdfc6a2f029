pub mod Alignments
pub mod Refusals
pub mod Meaning
pub mod Faults
pub mod Asked
pub mod Outcomes
