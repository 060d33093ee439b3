pub mod Fronts
mod MixedGate
