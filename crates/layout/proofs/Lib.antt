-- What the library says of bytes in the words of this room, the parts of an end, and the theorems of this room.
pub mod Conversions
pub mod Laying
pub mod ReadBack
pub mod Every
pub mod Crossing
