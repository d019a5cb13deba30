pub mod VisitLines
pub mod VisitPartsMirror
pub mod VisitLineLaws
