-- What the crate's contracts cite; `Laws` has theorems about what is listed, and `Refusals` which numbers its answers
-- can be.
pub mod Listing
pub mod Laws
pub mod Refusals
