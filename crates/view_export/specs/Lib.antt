pub mod Statements
pub mod Points
pub mod Schema
pub mod FixedRows
pub mod Styles
pub mod Numbers
pub mod Exports
pub mod Laws
