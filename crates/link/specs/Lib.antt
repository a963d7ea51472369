-- Demand 3 for the code: how the ends are seen over lists, runs of their calls, the four promises and the whole demand.
pub mod Ends
pub mod Runs
pub mod Exchanges
pub mod Start
pub mod Synchronising
pub mod Safety
pub mod Honesty
pub mod Liveness
pub mod LivenessInWords
pub mod Through
pub mod Demand
