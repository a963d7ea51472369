-- The definitions that the promises of this room cite.
pub mod Text
pub mod Decimal
pub mod Listing
pub mod Put
pub mod Promises
