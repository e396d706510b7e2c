mod HiddenRecords
mod Listed
mod OwnerMarks
mod SameOwners
