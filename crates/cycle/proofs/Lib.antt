-- The laws of the definitions.
pub mod CycleExampleLaws
pub mod CycleLaws
