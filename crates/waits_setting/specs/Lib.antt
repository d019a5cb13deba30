pub mod WaitsSetting
pub mod WaitsSettingLaws
pub mod WaitsSettingUnique
