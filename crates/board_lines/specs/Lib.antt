pub mod EventLines
pub mod EventLineLaws
pub mod BoardLines
pub mod BoardLinesUnique
pub mod BoardLineExamples
