-- The definitions that the promises of this room cite.
pub mod Given
pub mod Side
pub mod Right
pub mod Slot
pub mod Rule
pub mod Say
pub mod Promises
