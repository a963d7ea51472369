-- The definitions that the promises of this room cite.
pub mod Master
pub mod Order
pub mod Response
pub mod Promises
