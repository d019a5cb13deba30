pub mod Asked
pub mod AskedLaws
pub mod AskedExamples
pub mod ListerLines
pub mod ListerPartsMirror
pub mod ListerGatheringLaws
pub mod ListerPartsLaws
pub mod RestPartsLaws
