pub mod Guts
