pub mod Firing
pub mod Breakpoint
