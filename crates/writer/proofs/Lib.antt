-- Laws of this room, and its theorems.
pub mod Filling
pub mod Stuffing
pub mod Laying
pub mod Lining
pub mod Answering
pub mod Writing
