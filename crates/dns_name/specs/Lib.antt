pub mod Chain
pub mod Conversions
pub mod Error
pub mod Reading
pub mod ReadingSteps
pub mod Scanned
pub mod Uncertain
pub mod UncertainChain
