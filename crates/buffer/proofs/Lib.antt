pub mod Makings
mod Typed
