-- Laws of records, and the theorems of this room.
pub mod AnExample
pub mod Forms
pub mod Standing
pub mod Numbers
pub mod LosesNothing
