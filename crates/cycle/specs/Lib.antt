pub mod Cycle
pub mod CycleItems
pub mod CycleCountLaws
pub mod MarkerLaws
pub mod CycleExamples
