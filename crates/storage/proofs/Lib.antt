pub mod Lender
mod Determined
