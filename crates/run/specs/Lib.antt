pub mod Run
pub mod RunUnique
pub mod RunMirror
pub mod RunLaws
pub mod ShortWayLaws
pub mod PacketExamples
