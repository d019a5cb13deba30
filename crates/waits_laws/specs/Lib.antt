pub mod FileSameLaws
pub mod WaitsSameLaws
pub mod WaitsRoomLaws
pub mod WaitsCountLaws
