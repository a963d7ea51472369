-- Laws of this room, and its theorems.
pub mod BitAt
pub mod Placing
pub mod Windows
pub mod Seeking
pub mod Keeping
pub mod Judging
pub mod Answers
pub mod Enclosed
