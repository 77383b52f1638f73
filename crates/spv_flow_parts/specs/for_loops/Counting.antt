-- What the rule of FOR makes behind the terms of its expressions.
use Rattle.std.specs.Prelude.{◌≡◌, ◌+◌, List, [], ◌∷◌, ◌++◌, length, Option, option_map}
use Rattle.spv_logic.specs.declared.names.names.Symbol.{Symbol}
use Rattle.spv_logic.specs.declared.conditions.Kind.TheVariants as kind
use Rattle.spv_logic.specs.declared.conditions.RoutineId.{RoutineId}
use Rattle.spv_logic.specs.declared.types.Sort.TheVariants as sort
use Rattle.spv_logic.specs.declared.operators.Head.{Head}
use Rattle.spv_logic.specs.declared.operators.Head.TheVariants as head
use Rattle.spv_logic.specs.Terms.{Term}
use Rattle.spv_logic.specs.Substitution.{substitute}
use Rattle.spv_logic.specs.Conditions as logic
use Rattle.spv_term.specs.Arena.{Arena, sort_at}
use Rattle.spv_program.specs.declared.operators.Direction.{Direction}
use Rattle.spv_program.specs.Formulas.{Annotation}
use Rattle.spv_program.specs.Programs.{Program}
use Rattle.spv_program.specs.Supplies.{Fresh, fresh_like}
use Rattle.spv_program.specs.Terms.{alone}
use Rattle.spv_program.specs.Calls.{replacing}
use Rattle.spv_assign.specs.Conditions.{all_terms_in}
use Rattle.spv_meaning.specs.Before.{Made, Renamed, all_assuming, assuming_if_there, replaced, standing_for, next_term, within_term, past_term, annotation_term, wanted_with}
use Rattle.spv_assign.specs.creation_trace.Events.{Event}
use Rattle.spv_assign.specs.creation_trace.StatementEvents.{one_if_there, several, counted, in_order, pair_terms, replacing_events}
use Rattle.spv_assign.specs.limited_steps.Makes.{IsTerm}
use Rattle.spv_flow_parts.specs.declared.for_loops.terms.CounterTerms.{CounterTerms}
use Rattle.spv_flow_parts.specs.declared.for_loops.terms.EndTerms.{EndTerms}

-- a variable of numbers, by its name
abbrev pub number_head : Symbol → Head
number_head x = head.Var x sort.Int 0

-- the variable that counts, and its value in the next turn
pub record IsCounter (a : Arena) (c : CounterTerms) (direction : Direction) (h : Head) : Type 0 where
  pub variable : IsTerm a c.variable (alone h)
  pub next : IsTerm a c.next (next_term direction (alone h))
  pub variable_sort : sort_at a c.variable ≡ sort.Int
  pub next_sort : sort_at a c.next ≡ sort.Int

abbrev pub counter_terms : Direction → Head → List Term
counter_terms direction h = alone h ∷ next_term direction (alone h) ∷ []

-- whether the variable, as it stands in the loop, is within the end, and whether it is past it
pub record AreEnds (a : Arena) (e : EndTerms) (direction : Direction) (now end : Term) : Type 0 where
  pub within : IsTerm a e.within (within_term direction now end)
  pub past : IsTerm a e.past (past_term direction now end)

abbrev pub end_terms : Direction → Term → Term → List Term
end_terms direction now end = within_term direction now end ∷ past_term direction now end ∷ []

-- what is known in the loop: its annotation, with what it changes renamed
abbrev pub known_in : List (Head × Term) → Option Term → Option Term
known_in pairs x = option_map (substitute (replacing pairs)) x

-- conditions under a test, and under what is known
abbrev pub side : Option Term → Term → List logic.Condition → List logic.Condition
side x t conditions = assuming_if_there x (all_assuming t conditions)

-- ---- behind the body

-- the conditions of a FOR's end: those of its beginning, of its turns, and of what is behind it
abbrev pub closed : List (Head × Term) → Option Term → Direction → Term → Term → List logic.Condition → List logic.Condition → List logic.Condition → List logic.Condition
closed pairs note direction now end begun inside outside =
    begun ++ (side (known_in pairs note) (within_term direction now end) inside ++ side (known_in pairs note) (past_term direction now end) outside)

abbrev pub closing_events : List (Head × Term) → Option Term → Direction → Term → Term → List logic.Condition → List logic.Condition → List logic.Condition → List Event
closing_events pairs note direction now end begun inside outside =
    in_order (one_if_there (known_in pairs note)
    ∷ several (end_terms direction now end)
    ∷ counted (length begun + (length inside + length outside))
    ∷ [])

-- what is behind the loop: its variable is a fresh one, and what it changes is renamed
abbrev pub left_made : List (Head × Term) → Fresh → Head → List logic.Condition → Made
left_made pairs last h conditions = record { conditions = replaced pairs (replaced ((h, alone last.head) ∷ []) conditions); supply = last.supply }

abbrev pub left_events : List (Head × Term) → Fresh → Head → List logic.Condition → List Event
left_events pairs last h conditions =
    in_order (replacing_events ((h, alone last.head) ∷ []) conditions
    ∷ several (all_terms_in (replaced pairs (replaced ((h, alone last.head) ∷ []) conditions)))
    ∷ [])

-- all that comes behind the conditions of the body
abbrev pub ended_made : Program → Option RoutineId → Option Annotation → Direction → Head → Term → Term → Renamed → List logic.Condition → List logic.Condition → Made
ended_made p here f direction h first end fresh turn conditions =
    let left = left_made fresh.pairs (fresh_like h fresh.supply) h conditions in
    record {
      conditions = closed fresh.pairs (annotation_term p here f) direction (standing_for fresh.pairs h) end (wanted_with p here kind.Invariant h first f) (replaced fresh.pairs turn) left.conditions;
      supply = left.supply;
    }

abbrev pub ended_events : Program → Option RoutineId → Option Annotation → Direction → Head → Term → Term → Renamed → List logic.Condition → List logic.Condition → List Event
ended_events p here f direction h first end fresh turn conditions =
    let last = fresh_like h fresh.supply in
    let behind = replaced ((h, alone last.head) ∷ []) conditions in
    in_order (several (all_terms_in (wanted_with p here kind.Invariant h first f))
    ∷ several (pair_terms fresh.pairs)
    ∷ several (all_terms_in (replaced fresh.pairs turn))
    ∷ replacing_events ((h, alone last.head) ∷ []) conditions
    ∷ several (all_terms_in (replaced fresh.pairs behind))
    ∷ one_if_there (known_in fresh.pairs (annotation_term p here f))
    ∷ several (end_terms direction (standing_for fresh.pairs h) end)
    ∷ counted (length (wanted_with p here kind.Invariant h first f) + (length turn + length conditions))
    ∷ [])
