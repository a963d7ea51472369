-- The definitions that the contracts of this program cite.
pub mod Streams
