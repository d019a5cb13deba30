pub mod Listing
pub mod ListingLaws
pub mod ListingUnique
pub mod ListingExamples
