pub mod Edits
pub mod Inferred
pub mod Printed
