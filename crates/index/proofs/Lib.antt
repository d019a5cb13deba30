-- The laws of the definitions.
pub mod EntryExamples
pub mod EntryLaws
pub mod EntryWordLaws
pub mod IndexLaws
