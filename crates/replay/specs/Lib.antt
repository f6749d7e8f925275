-- What the crate's contracts cite.
pub mod Calls
pub mod Sum
pub mod Text
pub mod Line
pub mod Tally
