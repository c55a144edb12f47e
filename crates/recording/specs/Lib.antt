pub mod Cells
pub mod Pieces
pub mod Checks
pub mod Marks
pub mod Losses
pub mod Refusals
