pub mod Text
pub mod NumberText
pub mod ListingText
pub mod TextLaws
pub mod TextPartLaws
