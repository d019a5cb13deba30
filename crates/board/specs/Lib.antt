pub mod Board
pub mod BoardUnique
pub mod Setters
pub mod RegisterBits
pub mod State
