-- The laws that the functions' proofs cite, and the theorems of specs/.
pub mod ListingLaws
pub mod LineProofs
pub mod RefusalProofs
