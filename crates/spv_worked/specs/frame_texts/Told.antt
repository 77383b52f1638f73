-- What the walk over frames answers for a text, from its bytes on.
use Rattle.std.specs.Prelude.{ℕ, List, [], ◌++◌, Option, Some, None, Ok, Err, codes}
use Rattle.spv_program.specs.declared.types.Item.{Item}
use Rattle.spv_program.specs.declared.types.Item.TheVariants.{Variable, Class}
use Rattle.spv_logic.specs.declared.names.names.Symbol.{Symbol}
use Rattle.spv_tree.specs.declared.syntax.programs.Program.{Program as ProgramText}
use Rattle.spv_grammar.specs.reading.RoutineReaders.{read_program, read_whole}
use Rattle.spv_lexer.specs.Reading.{Spelled, reading}
use Rattle.spv_lexer.specs.Tokens.{numbered, names_after}
use Rattle.spv_program.specs.Lists.{item_at}
use Rattle.spv_program.specs.Programs.{Program}
use Rattle.spv_typing.specs.Outcomes.{Outcome}
use Rattle.spv_typing.specs.Known.{known_in}
use Rattle.spv_typing.specs.ProgramWalk.{program_walk}
use Rattle.spv_worked.specs.typed_texts.Told.{text_of}
use Rattle.spv_effects.specs.declared.frame_walk.faults.FrameFault.{FrameFault}
use Rattle.spv_effects.specs.declared.frame_walk.faults.FrameFault.TheVariants as fault
use Rattle.spv_effects.specs.frame_walk.FrameWalk.{frame_fault}

-- a text has no types; or its routines fit; or it has this first fault on a line, with what it names
pub data Told : Type 0 where
  no_types : Told
  fits : Told
  alias : ℕ → List ℕ → List ℕ → Told
  missing : ℕ → List ℕ → Told
  writes : ℕ → List ℕ → Told
  no_memory : Told

abbrev pub title_text : List (List ℕ) → Option (Option Symbol) → List ℕ
title_text names (Some (Some x)) = codes "#" ++ text_of names x
title_text names (Some None) = codes "#"
title_text names None = codes "#"

-- a class by the first name of its type
abbrev pub item_text : List (List ℕ) → Program → Item → List ℕ
item_text names p (Variable x) = text_of names x
item_text names p (Class t) = title_text names (item_at p.titles t.0)

abbrev pub of_fault : List (List ℕ) → Program → Option FrameFault → Told
of_fault names p None = fits
of_fault names p (Some (fault.Alias line i j)) = alias line (item_text names p i) (item_text names p j)
of_fault names p (Some (fault.GlobalMissing line i)) = missing line (item_text names p i)
of_fault names p (Some (fault.FunctionWrites line x)) = writes line (text_of names x)
of_fault names p (Some fault.Memory) = no_memory

abbrev pub of_outcome : List (List ℕ) → Outcome Program → Told
of_outcome names (Ok p) = of_fault names p (frame_fault p)
of_outcome names (Err f) = no_types

abbrev pub of_tree : List (List ℕ) → Option ProgramText → Told
of_tree names None = no_types
of_tree names (Some tree) = of_outcome names (program_walk (known_in names) tree)

abbrev pub of_tokens : List Spelled → Told
of_tokens tokens = of_tree (names_after [] tokens) (read_whole (read_program 12 (numbered [] tokens)))

-- what is told of a text
abbrev pub told : List ℕ → Told
told text = of_tokens (reading text).tokens
