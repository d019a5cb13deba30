pub mod Unmending
pub mod UnmendingLaws
pub mod UnmendingUnique
