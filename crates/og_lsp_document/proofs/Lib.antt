mod Counting
mod Given
mod Stepped
mod Verdicts
