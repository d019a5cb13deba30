pub mod RequestWords
pub mod Building
pub mod RequestWordLaws
