-- In reading order: what the lines are made of, a read or a write, the work of a tower, a setting, and the closing line.
pub mod Words
pub mod Access
pub mod Tower
pub mod Setting
pub mod Total
