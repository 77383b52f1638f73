pub mod WayLemmas
pub mod ArmLemmas
pub mod LoopBegins
pub mod LoopEnds
pub mod ForLemmas
