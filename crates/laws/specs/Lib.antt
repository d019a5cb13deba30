pub mod Ascii
pub mod TestLaws
pub mod PlaceLaws
pub mod StoreLaws
pub mod StoredMirror
