pub mod ReplyText
pub mod ReplyTextLaws
