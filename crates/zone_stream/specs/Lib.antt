pub mod AddErrors
pub mod Adding
pub mod Blocks
pub mod First
pub mod Yielding
pub mod Line
pub mod Placed
pub mod PrintedRows
pub mod PrintedTexts
pub mod ReadBack
pub mod Alike
pub mod CutErrors
pub mod CutLaws
pub mod Cutting
pub mod Heads
pub mod LawSteps
mod Rows
pub mod Shares
