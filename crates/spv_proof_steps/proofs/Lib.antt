pub mod Looks
pub mod Shown
pub mod Same
pub mod ValuedLemmas
pub mod StepLemmas
pub mod Heads
pub mod Congruences
pub mod GivenLemmas
