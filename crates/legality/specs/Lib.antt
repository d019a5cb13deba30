pub mod Legality
pub mod LegalityLaws
