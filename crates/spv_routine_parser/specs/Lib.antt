pub mod type_parser
pub mod RoutineParts
