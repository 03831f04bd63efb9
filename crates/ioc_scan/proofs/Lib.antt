mod Agreement
mod Highest
mod Ordered
mod Walking
mod Walks
