mod Makings
pub mod WhatIsTold
mod AskedOnce
mod LineFacts
mod StreamFacts
mod TakenOut
