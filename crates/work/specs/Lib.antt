pub mod Work
pub mod WorkLaws
pub mod WorkMirror
pub mod FaultApartLaws
