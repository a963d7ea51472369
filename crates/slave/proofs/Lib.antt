-- The theorems of this room.
pub mod Keeps
pub mod Slots
pub mod Blank
pub mod Numbers
pub mod LosesNothing
