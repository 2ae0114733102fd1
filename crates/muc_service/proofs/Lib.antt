mod CastLemmas
mod PlaceLemmas
pub mod RoomLemmas
