mod AlikeBefore
mod BelowNames
mod ByType
pub mod CnameTargets
mod FieldNames
pub mod HostNameParts
mod HostParts
pub mod LedNames
pub mod Lookups
pub mod NameParts
pub mod Neighbours
mod OwnDigests
pub mod OwnRecords
mod PairTests
pub mod Searches
mod ServiceLoops
pub mod SetEnds
pub mod SharedNames
pub mod Steps
pub mod Subjects
mod ToldRules
pub mod TransportNames
pub mod Wildcards
pub mod Within
