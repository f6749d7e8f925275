-- What the crate's contracts cite, and in `Refusals` which numbers its answers can be.
pub mod Number
pub mod Refusals
