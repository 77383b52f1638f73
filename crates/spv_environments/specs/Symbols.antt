-- Declared symbols as they stand in the tables of the code.
use Rattle.std.specs.Prelude.{List, map}
use Rattle.spv_logic.specs.declared.names.names.Symbol.{Symbol}
use Rattle.spv_logic.specs.declared.types.Decl.{Decl}
use Rattle.spv_environments.specs.declared.known.Signature.{Signature}

abbrev pub decl_of : Symbol → Signature → Decl
decl_of name s = record { name = name; args = s.args; result = s.result }

abbrev pub symbols_of : List (Symbol × Signature) → List Decl
symbols_of entries = map (λ e. decl_of e.0 e.1) entries
