mod Escapes
mod Suggesting
