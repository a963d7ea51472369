-- What each call keeps, and the theorems of this room.
pub mod Keeps
pub mod Said
pub mod Numbers
pub mod Results
