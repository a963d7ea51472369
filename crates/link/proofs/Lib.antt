-- The proofs of demand 3 for the code, and what each rests on.
pub mod Sides
pub mod Slaves
pub mod Masters
pub mod Does
pub mod Owners
pub mod Lines
pub mod Worlds
pub mod Slots
pub mod Simulation
pub mod Starts
pub mod Made
pub mod Promises
pub mod Passes
pub mod Through
pub mod Fresh
pub mod Examples
