pub mod Listed
pub mod ListedLaws
pub mod ListedExamples
