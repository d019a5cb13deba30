pub mod Rate
pub mod RateLaws
pub mod RateExamples
