pub mod WalkStep
pub mod WalkStepLaws
pub mod WalkStepUnique
