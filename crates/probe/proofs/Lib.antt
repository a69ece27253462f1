pub mod Banks
mod Determined
