pub mod Chosen
pub mod Listings
pub mod Script
pub mod Triples
