pub mod CanonicalOrders
mod EntriesRead
mod EntryOrders
pub mod EntrySearches
mod KeyPrefixes
mod PartsRead
mod Rising
mod StoreSorts
