pub mod Levels
pub mod Fired
pub mod LaneFiringLaws
