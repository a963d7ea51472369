-- The lemmas of this program's proofs.
pub mod Known
pub mod Whole
