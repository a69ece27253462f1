-- In reading order: spans and their rule, and how they are held.
pub mod Span
pub mod Held
