pub mod ListLines
pub mod ListLinesLaws
pub mod ListInLaws
