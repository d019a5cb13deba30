pub mod UnmendText
pub mod UnmendTextLaws
