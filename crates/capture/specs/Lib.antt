-- The definitions that the promises of this room cite.
pub mod Record
pub mod Promises
