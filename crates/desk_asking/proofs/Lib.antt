mod Copying
mod Texts
