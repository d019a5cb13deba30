pub mod RequestText
pub mod RequestTextLaws
