pub mod Entry
pub mod Index
pub mod RangeLaws
pub mod EntryUnique
