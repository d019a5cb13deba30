pub mod Bench
pub mod Said
pub mod BenchLaws
pub mod SaidLaws
