pub mod Silence
pub mod Own
