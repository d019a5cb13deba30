pub mod PortBeforeLaws
pub mod ForgottenLaws
pub mod KeptNumberLaws
pub mod KeptAtRestLaws
