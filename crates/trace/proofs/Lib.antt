-- The laws of the definitions.
pub mod TraceReadableLaws
pub mod TraceReadingLaws
pub mod TraceStartLaws
