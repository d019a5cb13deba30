pub mod EveryWait
pub mod EveryWaitRun
pub mod SettledLaws
pub mod OneRequestLaws
pub mod EveryWaitExamples
