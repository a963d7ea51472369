-- The definitions that the promises of this room and of the rooms above cite.
pub mod Bits
pub mod Flag
pub mod Insert
pub mod Insertion
pub mod Check
pub mod Packed
pub mod Count
