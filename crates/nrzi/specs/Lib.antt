-- The definitions that the promises of this room cite.
pub mod Nrzi
pub mod Promises
