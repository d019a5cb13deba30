pub mod HelpText
pub mod Heard
