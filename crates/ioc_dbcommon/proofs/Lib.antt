mod Expressions
mod Once
