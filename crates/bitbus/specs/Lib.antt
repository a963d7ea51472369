-- The definitions that the promises of this room cite.
pub mod Call
pub mod SlaveCalls
pub mod MasterCalls
pub mod Wire
pub mod Captures
pub mod Promises
