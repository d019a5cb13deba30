pub mod Step
pub mod StepMirror
pub mod StepMirrorLaws
pub mod StepFaultLaws
