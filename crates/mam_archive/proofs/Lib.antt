pub mod LastLemmas
pub mod ListLemmas
pub mod PickedLemmas
pub mod RoomLemmas
pub mod SoundLemmas
