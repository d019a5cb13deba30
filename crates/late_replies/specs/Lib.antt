pub mod LateReplies
pub mod NopReplyLaws
pub mod MarkerReplyLaws
pub mod LaggedVisitLaws
pub mod LateRepliesLaws
pub mod InTimeLaws
pub mod LateExamples
