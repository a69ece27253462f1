-- In reading order: the board, and what the host sets on it.
pub mod Board
pub mod Hour
