pub mod AtomLemmas
pub mod ShownLemmas
mod LoopLemmas
