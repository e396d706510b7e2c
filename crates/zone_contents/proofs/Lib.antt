pub mod AtApex
pub mod ComparedZones
mod CountedDuplicates
pub mod Differing
pub mod DigestSteps
pub mod Distinct
pub mod FewTypes
pub mod Firsts
pub mod KeyLabels
pub mod Listings
pub mod OneKey
pub mod OwnPlaces
pub mod Passing
pub mod Patches
pub mod RightData
mod Scopes
pub mod SortedSets
pub mod Summed
pub mod WithinKeys
pub mod WithinZone
pub mod ZoneKeys
pub mod ZoneNames
mod ZonemdParts
