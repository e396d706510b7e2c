pub mod ClauseSteps
pub mod PathSteps
pub mod PatternSteps
pub mod SetSteps
pub mod StarSteps
pub mod TokenSteps
