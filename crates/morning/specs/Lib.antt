pub mod Morning
pub mod MorningLaws
