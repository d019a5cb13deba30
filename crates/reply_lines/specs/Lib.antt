pub mod ReplyLines
pub mod ReplyLinesUnique
pub mod ReplyLineExamples
