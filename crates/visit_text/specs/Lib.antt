pub mod VisitText
