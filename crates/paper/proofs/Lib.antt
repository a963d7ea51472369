-- The proofs of what document 01 lists.
pub mod Points
pub mod Worked
pub mod Outcome
pub mod FrameOutcomes
pub mod LineOutcomes
pub mod SideOutcomes
pub mod SlaveOutcomes
pub mod MasterOutcomes
pub mod CaptureOutcomes
pub mod LayoutOutcomes
pub mod BitbusOutcomes
pub mod Outcomes
pub mod Numbers
pub mod Witnesses
pub mod Fit
pub mod OverBits
