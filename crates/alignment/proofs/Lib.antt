-- The laws of the definitions in specs/, which the functions' proofs and the crates above cite.
pub mod AskedLaws
pub mod ChainLaws
pub mod WalkLaws
pub mod GoingLaws
pub mod AnswerLaws
pub mod Theorems
pub mod RefusalProofs
pub mod MarkedProofs
