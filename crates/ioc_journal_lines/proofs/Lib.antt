mod Splitting
mod Again
