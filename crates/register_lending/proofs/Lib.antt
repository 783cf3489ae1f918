pub mod Selected
pub mod Moved
pub mod StayingOpen
pub mod WritingLoans
pub mod FillingStores
