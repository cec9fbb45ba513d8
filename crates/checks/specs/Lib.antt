pub mod Samples
pub mod ShapeSamples
pub mod TickSamples
