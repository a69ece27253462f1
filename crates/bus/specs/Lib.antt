-- In reading order: addresses, refusals, their words, what one cell answers, what a bus owes, what its calls tell of it, and a stretch of cells in it.
pub mod Address
pub mod Refusal
pub mod Text
pub mod Cell
pub mod Contract
pub mod Meaning
pub mod Extent
