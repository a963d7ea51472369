-- The theorems of this room.
pub mod Round
