-- The definitions that the promises of this room cite.
pub mod Sink
pub mod Stuff
pub mod Write
pub mod Content
pub mod Promises
