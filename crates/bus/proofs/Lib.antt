mod Addresses
pub mod Meaning
