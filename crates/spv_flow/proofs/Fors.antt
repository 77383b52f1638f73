-- The conditions before a FOR.
use Rattle.std.proofs.Common.{◌≡◌, ℕ, List, [], ◌∷◌, ◌++◌, Ok, Err, IsErrAnd, Option, sym, ap, subst, ◌∙◌}
use Rattle.spv_logic.specs.declared.conditions.Kind.TheVariants as kind
use Rattle.spv_logic.specs.declared.conditions.RoutineId.{RoutineId}
use Rattle.spv_logic.specs.declared.operators.Head.{Head}
use Rattle.spv_logic.specs.Conditions as logic
use Rattle.spv_term.specs.declared.nodes.Condition.{Condition}
use Rattle.spv_term.specs.Arena.{Arena, Extends}
use Rattle.spv_term.proofs.ArenaLemmas.{Extends-trans}
use Rattle.spv_program.specs.Formulas.{Annotation}
use Rattle.spv_program.specs.Statements.{Counting, Statement, For}
use Rattle.spv_program.specs.Programs.{Program, routine_in}
use Rattle.spv_program.specs.Supplies.{Supply}
use Rattle.spv_program.specs.Terms.{alone}
use Rattle.spv_program.specs.ExpressionTerms.{Valued, valued}
use Rattle.spv_assign.specs.declared.pending.pending.Pending.{Pending}
use Rattle.spv_assign.specs.supply.Numbers.{AreThere}
use Rattle.spv_assign.specs.Conditions.{conditions_of, AreIn, all_terms_in}
use Rattle.spv_assign.proofs.Growing.{conditions_of-Extends}
use Rattle.spv_meaning.specs.Before.{Made, Renamed, before, before_calls, annotation_term, wanted_with, next_term}
use Rattle.spv_assign.specs.declared.creation_trace.faults.GenFault.{GenFault}
use Rattle.spv_assign.specs.creation_trace.Events.{Event}
use Rattle.spv_assign.specs.creation_trace.StatementEvents.{one_if_there, several, in_order, loop_names}
use Rattle.spv_assign.proofs.creation_trace.Walks.{nothing_walked}
use Rattle.spv_flow_parts.specs.declared.bodies.Body.{Body}
use Rattle.spv_flow_parts.specs.Standing.{AreNotes, Stands}
use Rattle.spv_flow_parts.specs.Walks.{Listed, Comes, made_of}
use Rattle.spv_flow_parts.proofs.Steps.{went, exit, stopped_among, comes_not, comes_on, comes_as, Stands-Extends}
use Rattle.spv_flow_parts.specs.for_loops.Counting.{number_head, counter_terms, ended_made, ended_events}
use Rattle.spv_logic.specs.declared.types.Sort.TheVariants as sort
use Rattle.spv_flow_parts.specs.leaves.Parts.{IsTaken, Making, Taking}
use Rattle.spv_flow_parts.proofs.leaves.Chains.{made_with, same_made}
use Rattle.spv_flow.specs.declared.statement_rules.counting.BegunFor.{BegunFor}
use Rattle.spv_flow.specs.statement_rules.Events.{end_call_events, events_by}
use Rattle.spv_flow.specs.statement_rules.Rules.{IsCounted, IsValueOf, AreForTerms, MayEndFor, BeginsFor, EndsFor, next_wanted, for_begin, for_made, for_end}
use Rattle.spv_flow.proofs.statement_rules.ForLemmas.{AreForTerms-Extends, for_terms_end}
use Rattle.spv_flow.specs.Walking.{MayWalk, WalksBy}
use Rattle.spv_flow.proofs.Right.{for_notes, for_counted, for_variable, for_inside}
use Rattle.spv_flow.proofs.Growing.{may_walk_on, within_then, walks_as, walks_behind}

module _ (by : Making) (taking : Taking) (p : Program) (body : Body) (a0 : Arena) (n : Supply) (whole : Statement) (line : ℕ) (f : Option Annotation) (count : Counting) (s : Statement) (rest : List Condition)
    (is : whole ≡ For line f count s) (h : MayWalk taking p body a0 n whole rest) where
  abbrev here : Option RoutineId
  here = body.here

  abbrev q0 : Made
  q0 = made_of a0 rest n

  abbrev cs : List logic.Condition
  cs = conditions_of a0 rest

  abbrev w : Valued
  w = valued p (routine_in p here) n count.first

  abbrev u : Valued
  u = valued p (routine_in p here) w.supply count.last

  abbrev te : List Event
  te = by.test count.first n

  abbrev tf : List Event
  tf = by.test count.last w.supply

  -- what the variable makes of it
  abbrev again_from : Head → Made
  again_from v = made_with (wanted_with p here kind.Preserved v (next_term count.direction (alone v)) f) u.supply

  abbrev turn_from : Head → Made
  turn_from v = before p here s (again_from v)

  abbrev fresh_from : Statement → Head → Renamed
  fresh_from loop v = loop_names p here loop (turn_from v).supply

  abbrev ended_from : Statement → Head → Made
  ended_from loop v = ended_made p here f count.direction v w.term u.term (fresh_from loop v) (turn_from v).conditions cs

  abbrev goal_from : Statement → Head → Made
  goal_from loop v = made_with (before_calls here (w.calls ++ u.calls) (ended_from loop v).conditions) (ended_from loop v).supply

  abbrev last_from : Statement → Head → List (List Event)
  last_from loop v =
      ended_events p here f count.direction v w.term u.term (fresh_from loop v) (turn_from v).conditions cs
      ∷ end_call_events here w.calls u.calls (ended_from loop v).conditions

  abbrev events_from : Statement → Head → List (List Event)
  events_from loop v =
      te
      ∷ tf
      ∷ one_if_there (annotation_term p here f)
      ∷ several (counter_terms count.direction v)
      ∷ several (all_terms_in (again_from v).conditions)
      ∷ events_by by p here s (again_from v)
      ∷ last_from loop v

  -- the same, as the variable is a number
  abbrev h0 : Head
  h0 = number_head count.variable

  abbrev again : Made
  again = made_with (next_wanted p here f count) u.supply

  abbrev turn : Made
  turn = before p here s again

  abbrev goal : Made
  goal = goal_from whole h0

  abbrev last : List (List Event)
  last = last_from whole h0

  abbrev all : List (List Event)
  all = events_from whole h0

  abbrev inside : List Event
  inside = events_by by p here s again

  right : IsTaken p here taking (For line f count s)
  right = subst (IsTaken p here taking) is h.right

  pub for_ends : IsCounted taking p body.here count
  for_ends = for_counted taking p here line f count s right

  pub for_noted : AreNotes p body.here f
  for_noted = for_notes taking p here line f count s right

  for_walks : (r : Listed) {b : Arena} {k : Supply} → Comes r goal (in_order all) a0 b k → WalksBy r by p here whole q0 a0 b k
  for_walks r {b} {k} c =
      walks_as r by p here whole (For line f count s) q0 a0 b k is
      (subst (λ (v : Head). Comes r (goal_from (For line f count s) v) (in_order (events_from (For line f count s) v)) a0 b k) (sym (for_variable taking p here line f count s right))
      (subst (λ (loop : Statement). Comes r (goal_from loop h0) (in_order (events_from loop h0)) a0 b k) is c))

  pub for_begin_stops : (r : Listed) (g : GenFault) (k : Supply) (a1 : Arena) → IsErrAnd r (λ z. z ≡ g)
      → BeginsFor (Err g) p body.here f count (valued p (routine_in p body.here) n count.first) (valued p (routine_in p body.here) (valued p (routine_in p body.here) n count.first).supply count.last)
      (next_wanted p body.here f count) (for_begin p body.here f count (by.test count.first n) (by.test count.last (valued p (routine_in p body.here) n count.first).supply)) a0 a1 k
      → WalksBy r by p body.here whole (made_of a0 rest n) a0 a1 k
  for_begin_stops r g k a1 err b =
      for_walks r (comes_not goal k r g (in_order all) err b.grows (stopped_among [] (for_begin p here f count te tf) (inside ∷ last) g a0 a0 a1 (nothing_walked a0) b.walk))

  module _ (a1 : Arena) (n1 : Supply) (o : BegunFor)
      (b : BeginsFor (Ok o) p body.here f count (valued p (routine_in p body.here) n count.first) (valued p (routine_in p body.here) (valued p (routine_in p body.here) n count.first).supply count.last)
      (next_wanted p body.here f count) (for_begin p body.here f count (by.test count.first n) (by.test count.last (valued p (routine_in p body.here) n count.first).supply)) a0 a1 n1) where
    pub for_inside_fits : MayWalk taking p body a1 n1 s o.behind.items
    for_inside_fits = may_walk_on taking p body h n1 s o.behind.items b.grows (for_inside taking p here line f count s right) b.begun.there b.begun.behind.in_range

    turn_at : (r : Listed) (a2 : Arena) (m : Supply) → WalksBy r by p here s (made_of a1 o.behind.items n1) a1 a2 m → WalksBy r by p here s again a1 a2 m
    turn_at r a2 m c =
        walks_behind r by p here s (made_of a1 o.behind.items n1) again a1 a2 m (same_made (conditions_of a1 o.behind.items) (next_wanted p here f count) n1 u.supply b.begun.behind.same b.begun.supply) c

    pub for_turn_stops : (r : Listed) (g : GenFault) (k m : Supply) (a2 : Arena) → IsErrAnd r (λ z. z ≡ g) → WalksBy (Err g) by p body.here s (made_of a1 o.behind.items n1) a1 a2 m
        → WalksBy r by p body.here whole (made_of a0 rest n) a0 a2 k
    for_turn_stops r g k m a2 err c =
        let c1 = turn_at (Err g) a2 m c in
        for_walks r (exit r g goal k (for_begin p here f count te tf) inside last err b.walk c1.grows c1.walk)

    module _ (a2 : Arena) (m : Supply) (made : Pending) (c : WalksBy (Ok made) by p body.here s (made_of a1 o.behind.items n1) a1 a2 m) where
      c1 : WalksBy (Ok made) by p here s again a1 a2 m
      c1 = turn_at (Ok made) a2 m c

      more : Extends a0 a2
      more = Extends-trans b.grows c1.grows

      known_then : AreForTerms a2 p here o.terms w u f count
      known_then = AreForTerms-Extends p here o.terms w u f count c1.grows b.begun.known

      pub for_stands : Stands p body a2
      for_stands = Stands-Extends p body more h.stands

      pub for_numbers : AreThere a2 m
      for_numbers = c1.made.there

      pub for_known : MayEndFor a2 p body.here o.terms f count
      for_known = for_terms_end a2 p here o.terms w u f count known_then

      pub for_turn_in : (turned : List Condition) → turned ≡ made.items → AreIn a2 turned
      for_turn_in turned is_turn = subst (AreIn a2) (sym is_turn) c1.made.conditions.in_range

      pub for_rest_in : AreIn a2 rest
      for_rest_in = within_then taking p body h more

      pub for_comes : (r : Listed) (a3 : Arena) (m3 : Supply) (turned : List Condition) → turned ≡ made.items
          → ((x z : Valued) → IsValueOf a2 o.terms.first x sort.Int → IsValueOf a2 o.terms.last z sort.Int
          → EndsFor r p body.here f count x z (loop_names p body.here whole m) (conditions_of a2 turned) (conditions_of a2 rest) a2 a3 m3)
          → WalksBy r by p body.here whole (made_of a0 rest n) a0 a3 m3
      for_comes r a3 m3 turned is_turn d =
          let ts : conditions_of a2 turned ≡ turn.conditions = ap (conditions_of a2) is_turn ∙ c1.made.conditions.same in
          let rs : conditions_of a2 rest ≡ cs = conditions_of-Extends more rest h.within in
          let left = c1.made.supply in
          for_walks r
          (comes_on r goal m3
          (te ∷ tf ∷ one_if_there (annotation_term p here f) ∷ several (counter_terms count.direction h0) ∷ several (all_terms_in (next_wanted p here f count)) ∷ inside ∷ []) last
          (went (for_begin p here f count te tf) inside b.walk c1.walk)
          (comes_as goal m3 r
          (for_made p here f count w u (loop_names p here whole m) (conditions_of a2 turned) (conditions_of a2 rest))
          (in_order (for_end p here f count w u (loop_names p here whole m) (conditions_of a2 turned) (conditions_of a2 rest))) (in_order last)
          (λ i. for_made p here f count w u (loop_names p here whole (left i)) (ts i) (rs i))
          (λ i. in_order (for_end p here f count w u (loop_names p here whole (left i)) (ts i) (rs i))) (d w u known_then.first known_then.last)))
