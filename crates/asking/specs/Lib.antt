pub mod Asking
pub mod AskingLaws
