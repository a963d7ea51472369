-- Demand 3 over lists: one link and its runs, the four promises, and the whole demand.
pub mod Link
pub mod Runs
pub mod Exchanges
pub mod Synchronising
pub mod Safety
pub mod Honesty
pub mod Liveness
pub mod LivenessInWords
pub mod Demand
