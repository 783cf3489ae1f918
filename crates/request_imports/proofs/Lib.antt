mod OnceFacts
mod TwiceFacts
