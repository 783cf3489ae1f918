mod Doubles
mod Noting
mod Rings
mod Systems
mod Texts
mod Written
