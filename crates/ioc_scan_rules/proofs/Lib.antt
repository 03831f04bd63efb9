pub mod Starting
pub mod StartOrder
