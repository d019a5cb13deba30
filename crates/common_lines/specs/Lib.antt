pub mod CommonLines
pub mod CommonLinesUnique
pub mod CommonLineExamples
