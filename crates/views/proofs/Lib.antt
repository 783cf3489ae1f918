mod Beginnings
mod BareItems
mod CountWords
mod Exported
mod ExportedByItems
mod Gathered
mod Named
mod Printed
mod Rows
mod Tickets
pub mod ToldTexts
mod Untouched
mod ZoomWords
