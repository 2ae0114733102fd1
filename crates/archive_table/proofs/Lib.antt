pub mod EntryLemmas
pub mod GrowLemmas
pub mod RoomLemmas
pub mod ShownLemmas
pub mod TableLemmas
pub mod TextLemmas
pub mod UserLemmas
