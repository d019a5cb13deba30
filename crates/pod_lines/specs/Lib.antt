pub mod Taking
pub mod PodLines
pub mod PodLinesMirror
pub mod TakingLaws
pub mod PodLineLaws
pub mod PodLinesUnique
pub mod ReplyRoomLaws
pub mod PodLineExamples
