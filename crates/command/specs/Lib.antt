pub mod Command
pub mod CommandLaws
pub mod TableMirror
pub mod Reply
