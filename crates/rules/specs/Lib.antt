-- Document 01 as definitions, one file a rule. Under each heading of the document:
-- 'Layout and lent buffers': the limits, the counts and the lengths; what is left in a longer buffer
pub mod Layout
pub mod Lent
-- the tables of source document 000, and whole numbers with a sign
pub mod Tables
pub mod Signed
-- 'Rules': Scale factor, Scaling, HFR (its averages are floats/specs/Single.antt: Average), Resolution, Width
pub mod Factor
pub mod Scaling
pub mod Hfr
pub mod Resolution
pub mod Width
-- Estimate, Level, Boundary, Code
pub mod Estimate
pub mod Level
pub mod Boundary
pub mod Code
-- Legal record; Frame, as bits and as bytes (the check is crc/specs: Check.antt, Sealed.antt)
pub mod Record
pub mod Fields
pub mod Frame
-- the strict reader: readers of bits, and the frame's fields in bit order
pub mod Format
pub mod Reading
-- 'Refusal numbers', and each public call whole: its answer and what it leaves
pub mod Refusals
pub mod Stage
pub mod Writer
pub mod Reader
