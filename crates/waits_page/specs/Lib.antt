pub mod WaitsPage
pub mod WaitsPageLaws
pub mod WaitsPageUnique
