pub mod MendText
pub mod MendTextLaws
