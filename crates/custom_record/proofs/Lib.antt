pub mod FieldsBack
pub mod LongTexts
pub mod Marker
pub mod NoOctets
pub mod OneEntry
pub mod OnlySpelled
pub mod Parts
pub mod StringsBack
