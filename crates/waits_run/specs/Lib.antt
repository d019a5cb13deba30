pub mod WaitsRun
pub mod WaitsRunLaws
pub mod WaitsRunUnique
