pub mod Fault
pub mod FaultLaws
