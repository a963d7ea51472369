-- Laws of this room, and its theorems.
pub mod Levels
pub mod Laid
pub mod Kept
