-- The laws of the definitions.
pub mod ByEyeLaws
pub mod CodeStepsLaws
pub mod Demand3Laws
pub mod HeldRegisterLaws
pub mod HistoryLaws
pub mod IdleLaws
pub mod PlaceClosingLaws
pub mod PlaceRestLaws
pub mod PlaceTellsLaws
pub mod RefutedLaws
pub mod RunHistoryLaws
pub mod SameNopLaws
pub mod SettingLaws
pub mod TightExamples
