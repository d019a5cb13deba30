pub mod WaitsLines
pub mod WaitsLinesLaws
pub mod WaitsLinesUnique
