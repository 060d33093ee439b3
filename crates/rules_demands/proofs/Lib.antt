-- what the searches find, over any test
pub mod Searches
pub mod Probes
pub mod FoundLevel
pub mod FoundBoundary
pub mod FoundPairs
pub mod SignedSearch
-- records in buffers, and the stage's
pub mod Stores
pub mod LegalRecords
pub mod MadeRecord
pub mod HeldCodes
-- demand 3 on bits and bytes
pub mod Widths
pub mod Factors
pub mod Frames
pub mod Demand3
-- the demands said of the three calls
pub mod Lengths
pub mod Deliveries
pub mod Calls
pub mod WriterAnswers
pub mod Heads
pub mod StageAnswers
pub mod StageCalls
pub mod Outcomes
pub mod Exactly
pub mod ReaderNumbers
pub mod ReaderExactly
pub mod WriterExactly
pub mod OneFrame
pub mod Pairs
pub mod Buffers
pub mod Searched
pub mod FirstSubframe
