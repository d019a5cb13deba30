pub mod Meaning
pub mod RoundTrip
pub mod BroughtToRest
pub mod TalkMirror
pub mod PacketTakenLaws
pub mod ClosesLaws
