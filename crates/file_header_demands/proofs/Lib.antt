-- loop points there and back; what stands where, of written bytes and of accepted ones
pub mod Points
pub mod Standing
-- the writer's header is read; what is read is written again
pub mod Back
pub mod Restored
