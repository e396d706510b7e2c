pub mod Appends
pub mod DigitSteps
pub mod DigitTexts
pub mod PartSteps
pub mod TextModes
pub mod TokenFills
pub mod TokenSteps
