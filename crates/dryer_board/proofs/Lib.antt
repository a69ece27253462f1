mod Apart
mod Built
