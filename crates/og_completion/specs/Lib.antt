pub mod Completes
