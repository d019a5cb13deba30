pub mod RetoldLaws
pub mod MendedReadableLaws
pub mod MendedOnceLaws
pub mod ChangeListLaws
pub mod ChangeNeededLaws
pub mod PutBackLaws
pub mod MendRoomLaws
pub mod ListBackLaws
