pub mod Json
pub mod Lines
pub mod Places
pub mod Report
pub mod Runs
pub mod Observations
pub mod RunDiagnosis
