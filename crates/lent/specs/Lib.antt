pub mod Lent
pub mod LentLaws
