pub mod Listed
pub mod HoldsLists
