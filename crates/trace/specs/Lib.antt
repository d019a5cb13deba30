pub mod Items
pub mod TraceReading
pub mod ItemLaws
pub mod ItemsFromLaws
pub mod TraceReadingUnique
