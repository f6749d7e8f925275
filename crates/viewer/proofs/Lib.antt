-- The laws that the functions' proofs cite.
pub mod NumberLaws
pub mod PointLaws
pub mod RefusalProofs
