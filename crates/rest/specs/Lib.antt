pub mod ToGoLaws
pub mod NopLaws
