-- The laws of the definitions.
pub mod WalkLaws
pub mod WalkListingLaws
pub mod WalkUnique
