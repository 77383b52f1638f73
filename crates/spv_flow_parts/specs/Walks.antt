-- What a part of the walk answers, and what was made on the way.
use Rattle.std.specs.Prelude.{◌≡◌, ℕ, ◌<◌, ⊤, List, [], ◌++◌, length, Option, Some, None, Result, IfOk}
use Rattle.spv_logic.specs.declared.conditions.TermId.{TermId}
use Rattle.spv_logic.specs.declared.conditions.Kind.{Kind}
use Rattle.spv_logic.specs.declared.conditions.Kind.TheVariants as kind
use Rattle.spv_logic.specs.declared.conditions.RoutineId.{RoutineId}
use Rattle.spv_logic.specs.Terms.{Term}
use Rattle.spv_logic.specs.Conditions as logic
use Rattle.spv_term.specs.declared.nodes.Condition.{Condition}
use Rattle.spv_term.specs.Arena.{Arena, Extends}
use Rattle.spv_term.specs.substitution.Images.{ArePairs}
use Rattle.spv_program.specs.Formulas.{Annotation}
use Rattle.spv_program.specs.Programs.{Program, routine_in}
use Rattle.spv_program.specs.Supplies.{Supply}
use Rattle.spv_program.specs.Terms.{body_term}
use Rattle.spv_assign.specs.supply.Numbers.{AreThere}
use Rattle.spv_assign.specs.Conditions.{conditions_of, pairs_of, AreIn}
use Rattle.spv_meaning.specs.Before.{Made, Renamed, annotation_term, replaced, assuming_if_there, wanted_if_there}
use Rattle.spv_assign.specs.declared.creation_trace.faults.GenFault.{GenFault}
use Rattle.spv_assign.specs.declared.pending.pending.Pending.{Pending}
use Rattle.spv_assign.specs.creation_trace.Events.{Event, Answers}
use Rattle.spv_assign.specs.creation_trace.StatementEvents.{one}
use Rattle.spv_assign.specs.limited_steps.Makes.{IsTerm}

-- ---- terms

-- this term was made, or a limit was met on the way
pub record MakesTerm (r : Result TermId GenFault) (x : Term) (a b : Arena) : Type 0 where
  pub grows : Extends a b
  pub walk : Answers r (one x) a b
  pub term : IfOk r (λ t. IsTerm b t x)

-- the term that an id stands for, where there is one, is there
abbrev pub IsThere : Arena → Option TermId → Type 0
IsThere a None = ⊤
IsThere a (Some t) = t.0 < length a.nodes

-- ---- annotations

-- the term of an annotation, where there is one
abbrev pub IsNoted : Arena → Program → Option RoutineId → Option TermId → Option Annotation → Type 0
IsNoted a p here None None = ⊤
IsNoted a p here (Some t) (Some f) = IsTerm a t (body_term p (routine_in p here) f)
IsNoted a p here _ _ = ⊥

-- ---- conditions

-- the condition that a formula of this line is true
abbrev pub wanted_item : Option RoutineId → Kind → TermId → ℕ → Condition
wanted_item here k t line = record { given = []; goal = t; origin = record { routine = here; kind = k; line = line } }

-- conditions over an arena, and the supply that is left
abbrev pub made_of : Arena → List Condition → Supply → Made
made_of a items n = record { conditions = conditions_of a items; supply = n }

-- conditions are these, and their terms are there
pub record AreThese (a : Arena) (items : List Condition) (conditions : List logic.Condition) : Type 0 where
  pub same : conditions_of a items ≡ conditions
  pub in_range : AreIn a items

-- conditions and the supply that is left are these, and each number that was taken is that of a term
pub record IsMade (a : Arena) (n : Supply) (items : List Condition) (m : Made) : Type 0 where
  pub conditions : AreThese a items m.conditions
  pub supply : n ≡ m.supply
  pub there : AreThere a n

abbrev pub Listed : Type 0
Listed = Result Pending GenFault

-- these conditions were made by these events, or the limit was met that they meet first
pub record Comes (r : Listed) (m : Made) (events : List Event) (a b : Arena) (n : Supply) : Type 0 where
  pub grows : Extends a b
  pub walk : Answers r events a b
  pub made : IfOk r (λ cs. IsMade b n cs.items m)

-- the same where no fresh variable is taken
abbrev pub ComesTo : Listed → List logic.Condition → List Event → Arena → Arena → Type 0
ComesTo r conditions events a b =
    (n : Supply) → AreThere a n → Comes r (record { conditions = conditions; supply = n }) events a b n

-- ---- renaming

-- pairs of variables and the fresh ones in their places, and the supply that is left
pub record AreRenamed (a : Arena) (n : Supply) (pairs : List (TermId × TermId)) (r : Renamed) : Type 0 where
  pub fit : ArePairs a pairs
  pub same : pairs_of a pairs ≡ r.pairs
  pub supply : n ≡ r.supply
  pub there : AreThere a n

-- a loop's conditions: those under its annotation, with what it changes renamed, behind the one of its beginning
abbrev pub loop_made : Program → Option RoutineId → Option Annotation → Renamed → List logic.Condition → Made
loop_made p here f fresh uses = record {
  conditions = wanted_if_there p here kind.Invariant f ++ replaced fresh.pairs (assuming_if_there (annotation_term p here f) uses);
  supply = fresh.supply;
}

-- conditions under what is known, with what a loop changes renamed
abbrev pub renamed_made : Option Term → Renamed → List logic.Condition → Made
renamed_made x fresh uses = record { conditions = replaced fresh.pairs (assuming_if_there x uses); supply = fresh.supply }
