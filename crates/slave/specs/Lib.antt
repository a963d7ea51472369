-- The definitions that the promises of this room cite.
pub mod Slave
pub mod Step
pub mod Promises
