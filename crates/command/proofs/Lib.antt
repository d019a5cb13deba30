-- The laws of the definitions.
pub mod CommandWordLaws
pub mod TableLaws
