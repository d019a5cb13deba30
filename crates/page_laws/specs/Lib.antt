pub mod OrderLaws
pub mod SumLaws
pub mod PageRateLaws
pub mod PageRestLaws
pub mod PageToldLaws
pub mod PageExamples
