pub mod Streams
pub mod RoomSeen
pub mod StreamedSeen
pub mod ReadFaults
