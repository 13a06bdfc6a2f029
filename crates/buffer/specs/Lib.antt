pub mod Answered
pub mod Handles
pub mod Makings
pub mod Typed
pub mod Verdicts
pub mod View
