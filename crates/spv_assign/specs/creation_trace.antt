pub mod Events
pub mod Examples
pub mod Laws
pub mod StatementEvents
