-- What a call asks and promises, in the caller's terms.
use Rattle.std.specs.Prelude.{List, [], ◌∷◌, ◌++◌, map, Option, Some, None, option_map, if◌then◌else◌}
use Rattle.spv_logic.specs.declared.operators.Head.{Head}
use Rattle.spv_logic.specs.declared.operators.Head.TheVariants as head
use Rattle.spv_logic.specs.Terms.{Term, head_eq}
use Rattle.spv_logic.specs.Substitution.{Replacement, substitute}
use Rattle.spv_program.specs.Types.{sort_of}
use Rattle.spv_program.specs.Programs.{Formal, Routine, Program}
use Rattle.spv_program.specs.Scopes.{item_sort}
use Rattle.spv_program.specs.Terms.{alone, item_head, entry_term, exit_term}
use Rattle.spv_program.specs.Places.{Target, present}

-- ---- replacements by lists

-- each variable's term in its place; the first pair counts
abbrev pub replacing : List (Head × Term) → Replacement
replacing [] h = None
replacing (pair ∷ pairs) h = if head_eq h pair.0 then Some pair.1 else replacing pairs h

-- ---- arguments

-- what stands for a parameter: a value, or a place
pub data Argument : Type 0 where
  Given : Term → Argument
  AtPlace : Target → Argument

abbrev pub present_argument : Argument → Term
present_argument (Given t) = t
present_argument (AtPlace d) = present d

abbrev pub formal_head : Program → Formal → Head
formal_head p f = head.Var f.name (sort_of p.forms f.of) 0

-- at the call each parameter is its argument
abbrev pub at_call : Program → List Formal → List Argument → List (Head × Term)
at_call p [] arguments = []
at_call p (f ∷ formals) [] = []
at_call p (f ∷ formals) (a ∷ arguments) = (formal_head p f, present_argument a) ∷ at_call p formals arguments

-- at the return the start of each value parameter is its argument
abbrev pub starts_at_call : Program → List Formal → List Argument → List (Head × Term)
starts_at_call p [] arguments = []
starts_at_call p (f ∷ formals) [] = []
starts_at_call p (f ∷ formals) (Given t ∷ arguments) = (head.Start f.name (sort_of p.forms f.of), t) ∷ starts_at_call p formals arguments
starts_at_call p (f ∷ formals) (AtPlace d ∷ arguments) = starts_at_call p formals arguments

-- what an INITIAL name stands for, in the caller's terms
abbrev pub initial_at_call : Program → Routine → List Argument → List (Head × Term)
initial_at_call p r arguments =
    map (λ i. (
      head.Var i.0 (item_sort p (Some r) i.1) 0,
      substitute (replacing (at_call p r.formals arguments)) (alone (item_head p (Some r) i.1)),
    )) r.initial

-- ---- ENTRY and EXIT

-- ENTRY of a routine with these arguments
abbrev pub entry_at_call : Program → Routine → List Argument → Option Term
entry_at_call p r arguments = option_map (λ a. substitute (replacing (at_call p r.formals arguments)) (entry_term p r a)) r.entry

-- EXIT of a routine with these arguments, where `after` says what stands for its result, its VAR parameters and its VAR items
abbrev pub exit_at_call : Program → Routine → List Argument → List (Head × Term) → Option Term
exit_at_call p r arguments after =
    option_map (λ a. substitute (replacing (starts_at_call p r.formals arguments ++ (initial_at_call p r arguments
    ++ after))) (exit_term p r a)) r.exit
