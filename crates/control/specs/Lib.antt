pub mod Control
pub mod ControlLaws
