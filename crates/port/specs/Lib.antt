pub mod Packet
pub mod PacketUnique
pub mod PacketLaws
