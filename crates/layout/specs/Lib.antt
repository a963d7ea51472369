-- The definitions that the promises of this room cite.
pub mod Layout
pub mod Control
pub mod SlaveLayout
pub mod MasterLayout
pub mod Promises
