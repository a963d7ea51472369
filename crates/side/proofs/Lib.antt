-- Laws that the rooms above may cite, and the theorems of this room.
pub mod Parts
pub mod Calls
pub mod Keeps
pub mod Slots
pub mod Whole
pub mod Numbers
pub mod LosesNothing
