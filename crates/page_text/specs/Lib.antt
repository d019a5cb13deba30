pub mod PageText
pub mod PageTextLaws
pub mod PageRoomLaws
pub mod PageTextExamples
