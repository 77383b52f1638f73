-- What is known before the first declaration.
use Rattle.std.proofs.Common.{◌≡◌, List, [], ◌∷◌, map, Option, ℤ}
use Rattle.spv_logic.specs.declared.names.names.Symbol.{Symbol}
use Rattle.spv_logic.specs.declared.types.TypeId.{TypeId}
use Rattle.spv_program.specs.declared.types.TypeForm.{TypeForm}
use Rattle.spv_program.specs.declared.types.TypeForm.TheVariants.{Integer, Boolean}
use Rattle.spv_program.specs.declared.typed.programs.Routine.{Routine}
use Rattle.spv_program.specs.typed.ProgramViews.{routine_of}
use Rattle.spv_typing.specs.Known.{KnownNames, Known}
use Rattle.spv_typing.specs.ProgramWalk.{no_main, known_at_first}
use Rattle.spv_environments.specs.declared.known.Signature.{Signature}
use Rattle.spv_environments.specs.declared.routines.Heading.{Heading}
use Rattle.spv_environments.specs.declared.routines.Specified.{Specified}
use Rattle.spv_environments.specs.Views.{headings_of, waiting}
use Rattle.spv_environments.specs.Symbols.{symbols_of}

-- what the code's tables are, as the view of them puts it together
abbrev assembled : KnownNames → List TypeForm → List (Symbol × TypeId) → List (Symbol × ℤ) → List (Symbol × TypeId) → List (Symbol × Signature)
    → List (Symbol × Heading) → List (Symbol × Option Specified) → List Routine → Known
assembled start forms types constants variables symbols headings awaited routines = record {
  start = start;
  program = record {
    forms = forms;
    titles = [];
    types = types;
    constants = constants;
    variables = variables;
    symbols = symbols_of symbols;
    routines = map routine_of routines;
    main = no_main;
  };
  headings = headings_of headings;
  awaited = waiting awaited;
}

pub at_first : (start known : KnownNames) (forms : List TypeForm) (types : List (Symbol × TypeId)) (constants : List (Symbol × ℤ))
    (variables : List (Symbol × TypeId)) (symbols : List (Symbol × Signature)) (headings : List (Symbol × Heading))
    (awaited : List (Symbol × Option Specified)) (routines : List Routine)
    → start ≡ known → forms ≡ Integer ∷ Boolean ∷ [] → types ≡ [] → constants ≡ [] → variables ≡ [] → symbols ≡ [] → headings ≡ [] → awaited ≡ []
    → routines ≡ [] → assembled start forms types constants variables symbols headings awaited routines ≡ known_at_first known
at_first start known forms types constants variables symbols headings awaited routines a b c d e f g h k =
    λ i. assembled (a i) (b i) (c i) (d i) (e i) (f i) (g i) (h i) (k i)
