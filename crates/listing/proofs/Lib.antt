-- Laws of decimal numbers, texts and lines, and the theorems of this room.
pub mod AnExample
pub mod Digits
pub mod Putting
pub mod Lines
pub mod Numbers
pub mod LosesNothing
pub mod Bound
pub mod Least
pub mod Listings
