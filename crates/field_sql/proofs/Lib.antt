mod Doubled
mod Texts
