-- What the crate's contracts cite, in `ListLaws` what a list of shown submeshes is after a call, and in `Refusals`
-- which numbers its answers can be.
pub mod Answer
pub mod Reply
pub mod Values
pub mod ShownLists
pub mod ListLaws
pub mod Total
pub mod Scene
pub mod Refusals
