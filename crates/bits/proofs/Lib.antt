-- The laws of the definitions in specs/, which the functions' proofs and the crates above cite.
pub mod VerdictLaws
pub mod SaysLaws
pub mod FieldLaws
pub mod ByteLaws
pub mod ReadLaws
pub mod NumberLaws
pub mod BelowLaws
pub mod HeaderLaws
pub mod PutLaws
pub mod SetsLaws
pub mod RunLaws
pub mod JudgedLaws
pub mod SummedLaws
pub mod ThereLaws
pub mod RefusalLaws
pub mod Marked
pub mod Theorems
