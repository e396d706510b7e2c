pub mod CutToken
