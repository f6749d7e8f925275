-- What the crate's contracts cite, and the theorems about it: `Laws`, `Refusals` and `Marked`, whose proofs are in
-- proofs/.
pub mod Walk
pub mod LookUp
pub mod Internal
pub mod Laws
pub mod Refusals
pub mod Marked
