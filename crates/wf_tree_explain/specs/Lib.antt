-- What the contracts cite, and examples.
pub mod Lists
pub mod Words
pub mod Places
pub mod Order
pub mod Calls
pub mod Walk
pub mod Examples
