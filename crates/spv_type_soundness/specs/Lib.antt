pub mod well_typed
pub mod well_typed_programs
pub mod faithfulness
