-- The definitions that the promises of this room cite.
pub mod Flags
pub mod Places
pub mod Search
pub mod Extract
pub mod Read
pub mod Promises
