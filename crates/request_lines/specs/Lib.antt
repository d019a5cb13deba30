pub mod RequestLines
pub mod RequestLineLaws
