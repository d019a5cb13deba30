pub mod SameList
pub mod SameListLaws
