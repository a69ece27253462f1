pub mod Below
pub mod Compose
