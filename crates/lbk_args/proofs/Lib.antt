pub mod Found
pub mod Numerals
pub mod Plain
pub mod Steps
pub mod Units
pub mod Values
