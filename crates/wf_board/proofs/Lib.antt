pub mod Views
pub mod SeatSteps
pub mod Parts
pub mod Seats
pub mod Gathered
pub mod Events
pub mod SettledCounts
pub mod Lemmas
