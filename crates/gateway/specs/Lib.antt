pub mod Visiting
pub mod VisitingLaws
pub mod Gateway
pub mod GatewayMirror
pub mod GatewayLaws
