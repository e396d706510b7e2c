pub mod Alike
pub mod Answered
pub mod OctetAnswers
pub mod OctetEscapes
mod OctetRows
pub mod OctetSpellings
pub mod OneAnswer
pub mod PrintableTexts
pub mod ReadBack
mod RefusedRows
pub mod Skipped
pub mod SoFar
pub mod Taken
pub mod Texts
