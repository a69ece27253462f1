-- The cells and the shape of a memory and of an image, and a write to lent bytes.
pub mod Memory
pub mod Image
pub mod Lent
