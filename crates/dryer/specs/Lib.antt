-- In reading order: the plant, its control, the log of the readings, the count of calls, and one hour of them all.
pub mod Plant
pub mod Control
pub mod Log
pub mod Tally
pub mod Work
