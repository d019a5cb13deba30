pub mod Page
pub mod TallyMirror
pub mod NotingLaws
pub mod PassLaws
pub mod PageLaws
pub mod PageUnique
