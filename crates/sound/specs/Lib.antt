pub mod Sound
pub mod SoundPlanLaws
pub mod SoundWorkLaws
pub mod SoundLaws
