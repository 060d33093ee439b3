-- A1: the file header
pub mod Pieces
pub mod HeaderFitting
pub mod HeaderTheorems
pub mod HeaderExamples
pub mod HeaderFields
-- A9: the mode is in no frame and in no file header
pub mod ModeUnseen
-- A14: what a header is judged by, the numbers of its reader's call, worked examples
pub mod HeaderJudging
pub mod HeaderReads
pub mod HeaderReadExamples
-- A7: entries and lists, worked examples, and the theorems of the list's calls
pub mod Entries
pub mod Lists
pub mod ListExamples
pub mod Summaries
pub mod ListCalls
pub mod ListOutcomes
-- a test of each, as a test of every index
pub mod Ranges
-- A13: laws that the code cites
pub mod Samples
pub mod Chunks
