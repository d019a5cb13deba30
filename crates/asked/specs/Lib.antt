pub mod VisitRequests
pub mod Marker
pub mod RequestAtLaws
