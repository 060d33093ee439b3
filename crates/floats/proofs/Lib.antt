-- Laws of the float leaves on plain values. Each function's proof cites them.
pub mod AbsLaws
pub mod CutLaws
pub mod SignedLaws
pub mod FoldLaws
pub mod WholeLaws
pub mod Rows
-- magnitudes
pub mod SumRounded
pub mod SumValues
