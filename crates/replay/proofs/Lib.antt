-- The laws that the functions' proofs cite.
pub mod SumLaws
pub mod TextLaws
pub mod ArgumentLaws
