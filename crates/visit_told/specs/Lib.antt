pub mod VisitTold
pub mod VisitToldLaws
