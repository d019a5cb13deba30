-- The laws of the definitions.
pub mod StartsLaws
pub mod TallyLaws
