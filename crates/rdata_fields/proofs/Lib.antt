mod AddressReads
pub mod FieldErrors
pub mod FormLaws
pub mod Refusals
pub mod Refused
pub mod Splits
pub mod Takings
pub mod Tokens
