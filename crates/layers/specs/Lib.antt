-- In reading order: the cells and the shape of each layer, what a layer tells of the buses below it, and how layers compose.
pub mod Join
pub mod Shift
pub mod Hush
pub mod Below
pub mod Laws
