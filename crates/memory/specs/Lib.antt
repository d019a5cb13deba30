pub mod Memory
pub mod MemoryLaws
pub mod MemoryUnique
