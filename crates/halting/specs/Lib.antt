pub mod Halting
pub mod HaltingLaws
