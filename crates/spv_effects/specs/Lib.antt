pub mod frame_walk
pub mod frame_laws
pub mod frame_events
pub mod mod_sets
