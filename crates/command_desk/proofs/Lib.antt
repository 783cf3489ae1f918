mod Printed
mod Served
mod Shown
