mod InWords
pub mod Own
