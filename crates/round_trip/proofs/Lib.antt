-- The laws of the definitions.
pub mod BroughtToRestLaws
pub mod EveryFaultLaws
pub mod EveryWLaws
pub mod IllegalTripLaws
pub mod MeaningExamples
pub mod MeaningLaws
pub mod MeantWorkLaws
pub mod NextRequestLaws
pub mod RoundTripLaws
pub mod TalkLaws
pub mod UnderwayLaws
pub mod WholeRunLaws
pub mod WriteReadLaws
