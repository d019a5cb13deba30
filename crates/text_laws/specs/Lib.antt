pub mod ReadBackLaws
pub mod NumberUnique
pub mod ToldBackLaws
pub mod ToldUnique
pub mod TextExamples
pub mod TextUnique
