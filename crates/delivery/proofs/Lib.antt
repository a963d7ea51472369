-- The proofs of the four promises and of the whole demand, and what each rests on.
pub mod Way
pub mod Safe
pub mod Honest
pub mod Stages
pub mod Down
pub mod Up
pub mod Live
pub mod Sync
pub mod Demand
pub mod Simulate
pub mod Examples
