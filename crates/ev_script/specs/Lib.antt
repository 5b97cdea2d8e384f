pub mod Script
pub mod Simulation
pub mod Printing
pub mod Views
pub mod Faults
pub mod Inner
