pub mod AddLemmas
pub mod KeyLemmas
pub mod KnownLemmas
pub mod NameLemmas
pub mod OrderLemmas
pub mod RoomLemmas
pub mod ShortLemmas
pub mod TextsLemmas
