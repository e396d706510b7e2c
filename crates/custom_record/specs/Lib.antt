pub mod FieldLaws
pub mod Parts
pub mod ReadsBack
pub mod Rows
pub mod Several
pub mod SpellingLaws
pub mod Spellings
pub mod Values
