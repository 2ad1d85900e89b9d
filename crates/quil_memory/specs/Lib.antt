pub mod CellTypes
pub mod Cells
pub mod Layout
pub mod EighthsText
pub mod Packed
