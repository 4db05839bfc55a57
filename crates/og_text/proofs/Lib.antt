pub mod Values
pub mod Pieces
pub mod Cuts
pub mod Found
pub mod Symbols
pub mod Starts
pub mod OneCut
