-- The definitions that the promises of this room cite.
pub mod Bytes
pub mod Pick
pub mod Answer
pub mod Control
pub mod Carried
pub mod Message
pub mod Refusal
pub mod Promises
