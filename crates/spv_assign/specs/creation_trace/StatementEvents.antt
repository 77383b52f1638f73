-- What the walk makes at statements that call nothing: their terms, their lists of conditions, and their fresh variables, in this
-- order; what comes behind a statement was made before.
use Rattle.std.specs.Prelude.{ℕ, ◌+◌, List, [], ◌∷◌, ◌++◌, length, Option, Some, None, option_map}
use Rattle.spv_logic.specs.declared.conditions.Kind.TheVariants as kind
use Rattle.spv_logic.specs.declared.conditions.RoutineId.{RoutineId}
use Rattle.spv_logic.specs.declared.operators.Head.{Head}
use Rattle.spv_logic.specs.Terms.{Term}
use Rattle.spv_logic.specs.Substitution.{substitute}
use Rattle.spv_logic.specs.Conditions.{Condition}
use Rattle.spv_program.specs.declared.types.Item.TheVariants.{Variable}
use Rattle.spv_program.specs.Formulas.{Annotation}
use Rattle.spv_program.specs.Statements.{Statement, Arms, Empty, Assign, Perform, New, Sequence, If, Case, While, Repeat, For, Assert, no_arms, arm}
use Rattle.spv_program.specs.Programs.{Program, routine_in}
use Rattle.spv_program.specs.Changes.{changed_heads}
use Rattle.spv_program.specs.Terms.{alone, item_head, body_term}
use Rattle.spv_program.specs.Supplies.{Supply, fresh_like}
use Rattle.spv_program.specs.Places.{present, whole_with}
use Rattle.spv_program.specs.Calls.{replacing}
use Rattle.spv_program.specs.ExpressionTerms.{valued, placed}
use Rattle.spv_assign.specs.Conditions.{all_terms_in}
use Rattle.spv_meaning.specs.Before.{Made, all_assuming, assuming_if_there, replaced, negated, annotation_term, wanted_if_there, wanted_with, Renamed, renamed, standing_for, next_term, within_term, past_term, is_label, before}
use Rattle.spv_assign.specs.creation_trace.Events.{Event, Terms, Conditions}

abbrev pub one : Term → List Event
one t = Terms (t ∷ []) ∷ []

abbrev pub several : List Term → List Event
several ts = Terms ts ∷ []

abbrev pub one_if_there : Option Term → List Event
one_if_there None = []
one_if_there (Some t) = one t

abbrev pub counted : ℕ → List Event
counted n = Conditions n ∷ []

abbrev pub in_order : List (List Event) → List Event
in_order [] = []
in_order (first ∷ others) = first ++ in_order others

-- what is replaced, and what is put in its place
abbrev pub pair_terms : List (Head × Term) → List Term
pair_terms [] = []
pair_terms (pair ∷ pairs) = alone pair.0 ∷ pair.1 ∷ pair_terms pairs

-- the terms of conditions after a replacement, behind what is replaced and what is put there
abbrev pub replacing_events : List (Head × Term) → List Condition → List Event
replacing_events pairs conditions =
    in_order (several (pair_terms pairs) ∷ several (all_terms_in (replaced pairs conditions)) ∷ [])

-- the fresh variables of what a loop changes
abbrev pub loop_names : Program → Option RoutineId → Statement → Supply → Renamed
loop_names p here s n = renamed (changed_heads p (routine_in p here) s) n

-- a loop's conditions: those under its annotation, with the names that it changes renamed, behind the one of its beginning
abbrev pub loop_events : Program → Option RoutineId → Option Annotation → Renamed → List Condition → List Event
loop_events p here f fresh uses =
    in_order (replacing_events fresh.pairs (assuming_if_there (annotation_term p here f) uses)
    ∷ counted (length (wanted_if_there p here kind.Invariant f) + length uses)
    ∷ [])

abbrev mutual
  pub events : Program → Option RoutineId → Statement → Made → List Event
  events p here Empty q = []
  events p here (Assign d e) q =
      let place = placed p (routine_in p here) q.supply d in
      let v = valued p (routine_in p here) place.supply e in
      in_order (one (present place.target)
      ∷ one v.term
      ∷ replacing_events ((place.target.root, whole_with place.target v.term) ∷ []) q.conditions
      ∷ [])
  events p here (Perform c) q = []
  events p here (New line d t) q = []
  events p here (Sequence a b) q = in_order (events p here b q ∷ events p here a (before p here b q) ∷ [])
  events p here (If line e a b) q =
      let v = valued p (routine_in p here) q.supply e in
      let to_first : Made = record { conditions = q.conditions; supply = v.supply } in
      let first = before p here a to_first in
      let to_second : Made = record { conditions = q.conditions; supply = first.supply } in
      let second = before p here b to_second in
      in_order (one v.term
      ∷ events p here a to_first
      ∷ events p here b to_second
      ∷ one (negated v.term)
      ∷ counted (length first.conditions + length second.conditions)
      ∷ [])
  events p here (Case line e arms) q =
      let v = valued p (routine_in p here) q.supply e in
      in_order (one v.term
      ∷ arm_events p here v.term arms 0 (record { conditions = q.conditions; supply = v.supply })
      ∷ [])
  events p here (While line f e s) q =
      let v = valued p (routine_in p here) q.supply e in
      let again : Made = record { conditions = wanted_if_there p here kind.Preserved f; supply = v.supply } in
      let turn = before p here s again in
      let uses = all_assuming v.term turn.conditions ++ all_assuming (negated v.term) q.conditions in
      in_order (one v.term
      ∷ one_if_there (annotation_term p here f)
      ∷ events p here s again
      ∷ one (negated v.term)
      ∷ counted (length uses)
      ∷ loop_events p here f (loop_names p here (While line f e s) turn.supply) uses
      ∷ [])
  events p here (Repeat line f s e) q =
      let v = valued p (routine_in p here) q.supply e in
      let uses = all_assuming (negated v.term) (wanted_if_there p here kind.Preserved f) ++ all_assuming v.term q.conditions in
      let to_turn : Made = record { conditions = uses; supply = v.supply } in
      let turn = before p here s to_turn in
      in_order (one v.term
      ∷ one_if_there (annotation_term p here f)
      ∷ one (negated v.term)
      ∷ counted (length uses)
      ∷ events p here s to_turn
      ∷ loop_events p here f (loop_names p here (Repeat line f s e) turn.supply) turn.conditions
      ∷ [])
  events p here (For line f count s) q =
      let first = valued p (routine_in p here) q.supply count.first in
      let end = valued p (routine_in p here) first.supply count.last in
      let v = item_head p (routine_in p here) (Variable count.variable) in
      let next = next_term count.direction (alone v) in
      let again : Made = record { conditions = wanted_with p here kind.Preserved v next f; supply = end.supply } in
      let turn = before p here s again in
      let fresh = loop_names p here (For line f count s) turn.supply in
      let last = fresh_like v fresh.supply in
      let now = standing_for fresh.pairs v in
      let behind = replaced ((v, alone last.head) ∷ []) q.conditions in
      in_order (one first.term
      ∷ one end.term
      ∷ one_if_there (annotation_term p here f)
      ∷ several (alone v ∷ next ∷ [])
      ∷ several (all_terms_in again.conditions)
      ∷ events p here s again
      ∷ several (all_terms_in (wanted_with p here kind.Invariant v first.term f))
      ∷ replacing_events fresh.pairs turn.conditions
      ∷ replacing_events ((v, alone last.head) ∷ []) q.conditions
      ∷ several (all_terms_in (replaced fresh.pairs behind))
      ∷ one_if_there (option_map (substitute (replacing fresh.pairs)) (annotation_term p here f))
      ∷ several (within_term count.direction now end.term ∷ past_term count.direction now end.term ∷ [])
      ∷ counted (length (wanted_with p here kind.Invariant v first.term f) + (length turn.conditions + length q.conditions))
      ∷ [])
  events p here (Assert a) q = in_order (one (body_term p (routine_in p here) a) ∷ counted (1 + length q.conditions) ∷ [])

  -- the arms of a CASE, behind so many conditions of the arms before them
  pub arm_events : Program → Option RoutineId → Term → Arms → ℕ → Made → List Event
  arm_events p here t no_arms count q = []
  arm_events p here t (arm labels s others) count q =
      let first = before p here s q in
      let so_far = count + length first.conditions in
      in_order (events p here s q
      ∷ one (is_label t labels)
      ∷ counted so_far
      ∷ arm_events p here t others so_far (record { conditions = q.conditions; supply = first.supply })
      ∷ [])
