-- What the walk answers for a text, from its bytes on.
use Rattle.std.specs.Prelude.{ℕ, List, [], ℤ, Option, Some, None, Ok, Err, slice_get, if◌then◌else◌}
use Rattle.spv_logic.specs.declared.names.names.Symbol.{Symbol}
use Rattle.spv_tree.specs.declared.syntax.programs.Program.{Program as ProgramText}
use Rattle.spv_grammar.specs.reading.RoutineReaders.{read_program, read_whole}
use Rattle.spv_lexer.specs.Reading.{Spelled, reading}
use Rattle.spv_lexer.specs.Tokens.{numbered, names_after}
use Rattle.spv_program.specs.Programs.{Program}
use Rattle.spv_program.specs.Typing.{well_typed}
use Rattle.spv_typing.specs.declared.faults.TypeFault.{TypeFault}
use Rattle.spv_typing.specs.declared.faults.TypeFault.TheVariants as fault
use Rattle.spv_typing.specs.Outcomes.{Outcome}
use Rattle.spv_typing.specs.Known.{known_in}
use Rattle.spv_typing.specs.ProgramWalk.{program_walk}

-- a text has no tree; or it has one from which a well typed program comes, or one that is not well typed; or it has this first
-- fault on a line, with a name or a number
pub data Told : Type 0 where
  no_tree : Told
  typed : Told
  typed_but_not_well : Told
  undeclared : ℕ → List ℕ → Told
  twice : ℕ → List ℕ → Told
  label_twice : ℕ → ℤ → Told
  wrong_type : ℕ → Told
  wrong_count : ℕ → Told
  nested : ℕ → List ℕ → Told
  is_parameter : ℕ → List ℕ → Told
  counts : ℕ → List ℕ → Told
  no_memory : Told

abbrev pub text_or_none : Option (List ℕ) → List ℕ
text_or_none None = []
text_or_none (Some text) = text

abbrev pub text_of : List (List ℕ) → Symbol → List ℕ
text_of names x = text_or_none (slice_get names x.0)

abbrev pub of_fault : List (List ℕ) → TypeFault → Told
of_fault names (fault.Undeclared line x) = undeclared line (text_of names x)
of_fault names (fault.DeclaredTwice line x) = twice line (text_of names x)
of_fault names (fault.LabelTwice line z) = label_twice line z
of_fault names (fault.WrongType line) = wrong_type line
of_fault names (fault.Count line) = wrong_count line
of_fault names (fault.Nested line x) = nested line (text_of names x)
of_fault names (fault.ProcParameter line x) = is_parameter line (text_of names x)
of_fault names (fault.ControlChanged line x) = counts line (text_of names x)
of_fault names fault.Memory = no_memory

abbrev pub of_outcome : List (List ℕ) → Outcome Program → Told
of_outcome names (Ok p) = if well_typed p then typed else typed_but_not_well
of_outcome names (Err f) = of_fault names f

abbrev pub of_tree : List (List ℕ) → Option ProgramText → Told
of_tree names None = no_tree
of_tree names (Some tree) = of_outcome names (program_walk (known_in names) tree)

abbrev pub of_tokens : List Spelled → Told
of_tokens tokens = of_tree (names_after [] tokens) (read_whole (read_program 12 (numbered [] tokens)))

-- what is told of a text
abbrev pub told : List ℕ → Told
told text = of_tokens (reading text).tokens
