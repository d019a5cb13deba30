pub mod StateText
pub mod StateTextMirror
pub mod StateTextLaws
