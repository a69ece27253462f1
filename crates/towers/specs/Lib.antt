-- In reading order: where a tower has its cells, its control, and one hour of its work.
pub mod Tower
pub mod Control
pub mod Work
