pub mod OfChecker
