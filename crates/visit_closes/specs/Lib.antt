pub mod NotedReplies
pub mod FoundByVisitLaws
pub mod NotedRepliesLaws
pub mod RequestPhasesLaws
pub mod RequestUnderWayLaws
pub mod TrailStepsLaws
pub mod VisitStagesLaws
pub mod VisitTrailLaws
