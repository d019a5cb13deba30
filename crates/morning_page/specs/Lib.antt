pub mod MorningPage
pub mod MorningRoomLaws
