-- The registers, the cells and the shape of a probe bank.
pub mod Bank
