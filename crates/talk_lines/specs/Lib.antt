pub mod TalkLines
pub mod TalkLineLaws
pub mod TalkLinesUnique
pub mod TalkLineExamples
