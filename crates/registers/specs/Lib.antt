pub mod Registers
pub mod ChangeLaws
