-- chunks
mod Turns
-- samples
mod Growing
mod Patterns
mod Taking
-- the whole
mod Answers
