-- The laws of the definitions.
pub mod EveryWaitLaws
pub mod EveryWaitRunLaws
