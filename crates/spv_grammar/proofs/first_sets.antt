pub mod Among
mod Small
mod Wrong
