pub mod TracedMap
pub mod TracedMapLaws
