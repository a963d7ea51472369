-- Laws that every room above may cite, and the theorems of this room.
pub mod Tests
pub mod Laws
pub mod Bytes
pub mod Computed
pub mod Decoding
pub mod ControlBytes
pub mod Messages
pub mod Numbers
pub mod LosesNothing
