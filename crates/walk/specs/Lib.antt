pub mod Walk
pub mod WalkListing
pub mod WalkRestLaws
