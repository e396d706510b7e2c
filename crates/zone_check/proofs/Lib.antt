pub mod DataSteps
mod DotsAtEnd
pub mod FindingSteps
pub mod GenerateSteps
pub mod Linting
pub mod NameSteps
pub mod OctetSteps
pub mod ScanLanes
pub mod TokenLists
pub mod UnportableSteps
pub mod WordSteps
pub mod ZoneSteps
