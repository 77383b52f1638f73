pub mod local_typing
pub mod Numbers
pub mod Again
pub mod Row
