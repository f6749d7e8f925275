-- The laws that the functions' proofs share.
pub mod Stores
pub mod Handed
pub mod ShownListLaws
pub mod ListProofs
pub mod Totals
pub mod RefusalProofs
