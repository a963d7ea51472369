-- Laws that the rooms above may cite, and the theorems of this room.
pub mod BitLaws
pub mod Insertion
pub mod Checking
pub mod Counting
