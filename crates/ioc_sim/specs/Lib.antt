pub mod Scanner
pub mod Machine
pub mod SeenMachine
pub mod Leads
pub mod Sets
pub mod Deeds
