-- The conditions before a WHILE and a REPEAT.
use Rattle.std.proofs.Common.{◌≡◌, ℕ, List, [], ◌∷◌, length, Ok, Err, IsErrAnd, Option, sym, ap, subst, ◌∙◌}
use Rattle.spv_logic.specs.declared.conditions.Kind.TheVariants as kind
use Rattle.spv_logic.specs.declared.conditions.RoutineId.{RoutineId}
use Rattle.spv_logic.specs.Conditions as logic
use Rattle.spv_term.specs.declared.nodes.Condition.{Condition}
use Rattle.spv_term.specs.Arena.{Arena, Extends}
use Rattle.spv_term.proofs.ArenaLemmas.{Extends-trans}
use Rattle.spv_program.specs.Expressions.{Expression}
use Rattle.spv_program.specs.Formulas.{Annotation}
use Rattle.spv_program.specs.Statements.{Statement, While, Repeat}
use Rattle.spv_program.specs.Programs.{Program, routine_in}
use Rattle.spv_program.specs.Supplies.{Supply}
use Rattle.spv_program.specs.ExpressionTerms.{Valued, valued}
use Rattle.spv_assign.specs.declared.pending.pending.Pending.{Pending}
use Rattle.spv_assign.specs.supply.Numbers.{AreThere}
use Rattle.spv_assign.specs.Conditions.{conditions_of, AreIn}
use Rattle.spv_assign.proofs.Growing.{conditions_of-Extends}
use Rattle.spv_meaning.specs.Before.{Made, Renamed, before, before_calls, negated, annotation_term, wanted_if_there}
use Rattle.spv_assign.specs.declared.creation_trace.faults.GenFault.{GenFault}
use Rattle.spv_assign.specs.creation_trace.Events.{Event}
use Rattle.spv_assign.specs.creation_trace.StatementEvents.{one, one_if_there, counted, in_order, loop_names, loop_events}
use Rattle.spv_assign.proofs.creation_trace.Walks.{nothing_walked}
use Rattle.spv_flow_parts.specs.declared.bodies.Body.{Body}
use Rattle.spv_flow_parts.specs.Standing.{Stands}
use Rattle.spv_flow_parts.specs.Walks.{IsNoted, Listed, Comes, made_of, loop_made}
use Rattle.spv_flow_parts.proofs.Steps.{went, exit, stopped_among, comes_not, comes_on, comes_last, comes_as, Stands-Extends}
use Rattle.spv_flow_parts.proofs.LoopLemmas.{IsNoted-Extends}
use Rattle.spv_flow_parts.specs.leaves.Parts.{IsTaken, Making, Taking}
use Rattle.spv_flow_parts.specs.leaves.Values.{call_events}
use Rattle.spv_flow_parts.proofs.leaves.Chains.{made_with, same_made}
use Rattle.spv_flow.specs.declared.statement_rules.loops.Begun.{Begun}
use Rattle.spv_flow.specs.statement_rules.Events.{events_by}
use Rattle.spv_flow.specs.statement_rules.Rules.{IsTested, IsValueOf, HasValue, AreLoopTerms, Begins, tested_made, while_begin, while_end, repeat_uses, repeat_begin}
use Rattle.spv_flow.proofs.statement_rules.LoopBegins.{AreLoopTerms-Extends}
use Rattle.spv_logic.specs.declared.types.Sort.TheVariants as sort
use Rattle.spv_flow.specs.Walking.{MayWalk, WalksBy}
use Rattle.spv_flow.proofs.Right.{while_tested, while_inside, repeat_tested, repeat_inside}
use Rattle.spv_flow.proofs.Growing.{may_walk_on, within_then, walks_as, walks_behind}

-- ---- WHILE

module _ (by : Making) (taking : Taking) (p : Program) (body : Body) (a0 : Arena) (n : Supply) (whole : Statement) (line : ℕ) (f : Option Annotation) (e : Expression) (s : Statement) (rest : List Condition)
    (is : whole ≡ While line f e s) (h : MayWalk taking p body a0 n whole rest) where
  abbrev here : Option RoutineId
  here = body.here

  abbrev cs : List logic.Condition
  cs = conditions_of a0 rest

  abbrev w : Valued
  w = valued p (routine_in p here) n e

  abbrev te : List Event
  te = by.test e n

  abbrev q0 : Made
  q0 = made_of a0 rest n

  abbrev wanted_again : List logic.Condition
  wanted_again = wanted_if_there p here kind.Preserved f

  abbrev again : Made
  again = made_with wanted_again w.supply

  abbrev turn : Made
  turn = before p here s again

  -- the fresh variables of the loop, what it makes of them, and its last events
  abbrev fresh : Statement → Renamed
  fresh loop = loop_names p here loop turn.supply

  abbrev goal : Statement → Made
  goal loop = loop_made p here f (fresh loop) (tested_made here w turn.conditions cs)

  abbrev last : Statement → List (List Event)
  last loop = while_end p here f (fresh loop) w turn.conditions cs

  abbrev all : Statement → List (List Event)
  all loop = te ∷ one_if_there (annotation_term p here f) ∷ events_by by p here s again ∷ last loop

  right : IsTaken p here taking (While line f e s)
  right = subst (IsTaken p here taking) is h.right

  pub while_test : IsTested taking p body.here e f
  while_test = while_tested taking p here line f e s right

  while_walks : (r : Listed) {b : Arena} {k : Supply} → Comes r (goal whole) (in_order (all whole)) a0 b k → WalksBy r by p here whole q0 a0 b k
  while_walks r {b} {k} c =
      walks_as r by p here whole (While line f e s) q0 a0 b k is
      (subst (λ (loop : Statement). Comes r (goal loop) (in_order (all loop)) a0 b k) is c)

  pub while_begin_stops : (r : Listed) (g : GenFault) (k : Supply) (a1 : Arena) → IsErrAnd r (λ y. y ≡ g)
      → Begins (Err g) p body.here f (valued p (routine_in p body.here) n e) (wanted_if_there p body.here kind.Preserved f) (while_begin p body.here f (by.test e n)) a0 a1 k
      → WalksBy r by p body.here whole (made_of a0 rest n) a0 a1 k
  while_begin_stops r g k a1 err b =
      while_walks r (comes_not (goal whole) k r g (in_order (all whole)) err b.grows (stopped_among [] (while_begin p here f te) (events_by by p here s again ∷ last whole) g a0 a0 a1 (nothing_walked a0) b.walk))

  module _ (a1 : Arena) (n1 : Supply) (o : Begun) (b : Begins (Ok o) p body.here f (valued p (routine_in p body.here) n e) (wanted_if_there p body.here kind.Preserved f) (while_begin p body.here f (by.test e n)) a0 a1 n1) where
    pub while_inside_fits : MayWalk taking p body a1 n1 s o.behind.items
    while_inside_fits = may_walk_on taking p body h n1 s o.behind.items b.grows (while_inside taking p here line f e s right) b.begun.there b.begun.behind.in_range

    turn_at : (r : Listed) (a2 : Arena) (m : Supply) → WalksBy r by p here s (made_of a1 o.behind.items n1) a1 a2 m → WalksBy r by p here s again a1 a2 m
    turn_at r a2 m c =
        walks_behind r by p here s (made_of a1 o.behind.items n1) again a1 a2 m (same_made (conditions_of a1 o.behind.items) wanted_again n1 w.supply b.begun.behind.same b.begun.supply) c

    pub while_turn_stops : (r : Listed) (g : GenFault) (k m : Supply) (a2 : Arena) → IsErrAnd r (λ y. y ≡ g) → WalksBy (Err g) by p body.here s (made_of a1 o.behind.items n1) a1 a2 m
        → WalksBy r by p body.here whole (made_of a0 rest n) a0 a2 k
    while_turn_stops r g k m a2 err c =
        let c1 = turn_at (Err g) a2 m c in
        while_walks r (exit r g (goal whole) k (while_begin p here f te) (events_by by p here s again) (last whole) err b.walk c1.grows c1.walk)

    module _ (a2 : Arena) (m : Supply) (v : Pending) (c : WalksBy (Ok v) by p body.here s (made_of a1 o.behind.items n1) a1 a2 m) where
      c1 : WalksBy (Ok v) by p here s again a1 a2 m
      c1 = turn_at (Ok v) a2 m c

      more : Extends a0 a2
      more = Extends-trans b.grows c1.grows

      known_then : AreLoopTerms a2 p here o.terms w f
      known_then = AreLoopTerms-Extends p here o.terms w f c1.grows b.begun.known

      pub while_stands : Stands p body a2
      while_stands = Stands-Extends p body more h.stands

      pub while_numbers : AreThere a2 m
      while_numbers = c1.made.there

      pub while_test_there : HasValue a2 o.terms.test sort.Bool
      while_test_there = record { value = w; is = known_then.test }

      pub while_note : IsNoted a2 p body.here o.terms.note f
      while_note = known_then.note

      pub while_turn_in : (turned : List Condition) → turned ≡ v.items → AreIn a2 turned
      while_turn_in turned is_turn = subst (AreIn a2) (sym is_turn) c1.made.conditions.in_range

      pub while_rest_in : AreIn a2 rest
      while_rest_in = within_then taking p body h more

      pub while_comes : (r : Listed) (a3 : Arena) (m3 : Supply) (turned : List Condition) → turned ≡ v.items
          → ((x : Valued) → IsValueOf a2 o.terms.test x sort.Bool → Comes r
          (loop_made p body.here f (loop_names p body.here whole m) (tested_made body.here x (conditions_of a2 turned) (conditions_of a2 rest)))
          (in_order (while_end p body.here f (loop_names p body.here whole m) x (conditions_of a2 turned) (conditions_of a2 rest))) a2 a3 m3)
          → WalksBy r by p body.here whole (made_of a0 rest n) a0 a3 m3
      while_comes r a3 m3 turned is_turn d =
          let ts : conditions_of a2 turned ≡ turn.conditions = ap (conditions_of a2) is_turn ∙ c1.made.conditions.same in
          let rs : conditions_of a2 rest ≡ cs = conditions_of-Extends more rest h.within in
          let left = c1.made.supply in
          while_walks r
          (comes_on r (goal whole) m3 (te ∷ one_if_there (annotation_term p here f) ∷ events_by by p here s again ∷ []) (last whole) (went (while_begin p here f te) (events_by by p here s again) b.walk c1.walk)
          (comes_as (goal whole) m3 r
          (loop_made p here f (loop_names p here whole m) (tested_made here w (conditions_of a2 turned) (conditions_of a2 rest)))
          (in_order (while_end p here f (loop_names p here whole m) w (conditions_of a2 turned) (conditions_of a2 rest))) (in_order (last whole))
          (λ i. loop_made p here f (loop_names p here whole (left i)) (tested_made here w (ts i) (rs i)))
          (λ i. in_order (while_end p here f (loop_names p here whole (left i)) w (ts i) (rs i))) (d w known_then.test)))

-- ---- REPEAT

module _ (by : Making) (taking : Taking) (p : Program) (body : Body) (a0 : Arena) (n : Supply) (whole : Statement) (line : ℕ) (f : Option Annotation) (e : Expression) (s : Statement) (rest : List Condition)
    (is : whole ≡ Repeat line f s e) (h : MayWalk taking p body a0 n whole rest) where
  abbrev at : Option RoutineId
  at = body.here

  abbrev y : Valued
  y = valued p (routine_in p at) n e

  abbrev ye : List Event
  ye = by.test e n

  abbrev q : Made
  q = made_of a0 rest n

  abbrev uses : List logic.Condition
  uses = repeat_uses p at f y.term (conditions_of a0 rest)

  abbrev behind : Made
  behind = made_with (before_calls at y.calls uses) y.supply

  abbrev round : Made
  round = before p at s behind

  abbrev names : Statement → Renamed
  names loop = loop_names p at loop round.supply

  abbrev wanted : Statement → Made
  wanted loop = loop_made p at f (names loop) round.conditions

  abbrev begin : List (List Event)
  begin = repeat_begin p at f ye y (conditions_of a0 rest)

  abbrev end : Statement → List Event
  end loop = loop_events p at f (names loop) round.conditions

  abbrev inside : List Event
  inside = events_by by p at s behind

  abbrev steps : Statement → List (List Event)
  steps loop = ye ∷ one_if_there (annotation_term p at f) ∷ one (negated y.term) ∷ counted (length uses) ∷ call_events at y.calls uses ∷ inside ∷ end loop ∷ []

  repeat_right : IsTaken p at taking (Repeat line f s e)
  repeat_right = subst (IsTaken p at taking) is h.right

  pub repeat_test : IsTested taking p body.here e f
  repeat_test = repeat_tested taking p at line f s e repeat_right

  repeat_walks : (r : Listed) {b : Arena} {k : Supply} → Comes r (wanted whole) (in_order (steps whole)) a0 b k → WalksBy r by p at whole q a0 b k
  repeat_walks r {b} {k} c =
      walks_as r by p at whole (Repeat line f s e) q a0 b k is
      (subst (λ (loop : Statement). Comes r (wanted loop) (in_order (steps loop)) a0 b k) is c)

  pub repeat_begin_stops : (r : Listed) (g : GenFault) (k : Supply) (a1 : Arena) → IsErrAnd r (λ z. z ≡ g)
      → Begins (Err g) p body.here f (valued p (routine_in p body.here) n e)
      (before_calls body.here (valued p (routine_in p body.here) n e).calls (repeat_uses p body.here f (valued p (routine_in p body.here) n e).term (conditions_of a0 rest)))
      (repeat_begin p body.here f (by.test e n) (valued p (routine_in p body.here) n e) (conditions_of a0 rest)) a0 a1 k
      → WalksBy r by p body.here whole (made_of a0 rest n) a0 a1 k
  repeat_begin_stops r g k a1 err b =
      repeat_walks r (comes_not (wanted whole) k r g (in_order (steps whole)) err b.grows (stopped_among [] begin (inside ∷ end whole ∷ []) g a0 a0 a1 (nothing_walked a0) b.walk))

  module _ (a1 : Arena) (n1 : Supply) (o : Begun)
      (b : Begins (Ok o) p body.here f (valued p (routine_in p body.here) n e)
      (before_calls body.here (valued p (routine_in p body.here) n e).calls (repeat_uses p body.here f (valued p (routine_in p body.here) n e).term (conditions_of a0 rest)))
      (repeat_begin p body.here f (by.test e n) (valued p (routine_in p body.here) n e) (conditions_of a0 rest)) a0 a1 n1) where
    pub repeat_inside_fits : MayWalk taking p body a1 n1 s o.behind.items
    repeat_inside_fits = may_walk_on taking p body h n1 s o.behind.items b.grows (repeat_inside taking p at line f s e repeat_right) b.begun.there b.begun.behind.in_range

    round_at : (r : Listed) (a2 : Arena) (m : Supply) → WalksBy r by p at s (made_of a1 o.behind.items n1) a1 a2 m → WalksBy r by p at s behind a1 a2 m
    round_at r a2 m c =
        walks_behind r by p at s (made_of a1 o.behind.items n1) behind a1 a2 m (same_made (conditions_of a1 o.behind.items) (before_calls at y.calls uses) n1 y.supply b.begun.behind.same b.begun.supply) c

    pub repeat_turn_stops : (r : Listed) (g : GenFault) (k m : Supply) (a2 : Arena) → IsErrAnd r (λ z. z ≡ g) → WalksBy (Err g) by p body.here s (made_of a1 o.behind.items n1) a1 a2 m
        → WalksBy r by p body.here whole (made_of a0 rest n) a0 a2 k
    repeat_turn_stops r g k m a2 err c =
        let c1 = round_at (Err g) a2 m c in
        repeat_walks r (exit r g (wanted whole) k begin inside (end whole ∷ []) err b.walk c1.grows c1.walk)

    module _ (a2 : Arena) (m : Supply) (v : Pending) (c : WalksBy (Ok v) by p body.here s (made_of a1 o.behind.items n1) a1 a2 m) where
      d1 : WalksBy (Ok v) by p at s behind a1 a2 m
      d1 = round_at (Ok v) a2 m c

      pub repeat_stands : Stands p body a2
      repeat_stands = Stands-Extends p body (Extends-trans b.grows d1.grows) h.stands

      pub repeat_numbers : AreThere a2 m
      repeat_numbers = d1.made.there

      pub repeat_note : IsNoted a2 p body.here o.terms.note f
      repeat_note = IsNoted-Extends p at o.terms.note f d1.grows b.begun.known.note

      pub repeat_turn_in : (turned : List Condition) → turned ≡ v.items → AreIn a2 turned
      repeat_turn_in turned is_turn = subst (AreIn a2) (sym is_turn) d1.made.conditions.in_range

      pub repeat_comes : (r : Listed) (a3 : Arena) (m3 : Supply) (turned : List Condition) → turned ≡ v.items
          → Comes r (loop_made p body.here f (loop_names p body.here whole m) (conditions_of a2 turned)) (loop_events p body.here f (loop_names p body.here whole m) (conditions_of a2 turned)) a2 a3 m3
          → WalksBy r by p body.here whole (made_of a0 rest n) a0 a3 m3
      repeat_comes r a3 m3 turned is_turn d =
          let ts : conditions_of a2 turned ≡ round.conditions = ap (conditions_of a2) is_turn ∙ d1.made.conditions.same in
          let left = d1.made.supply in
          repeat_walks r
          (comes_last r (wanted whole) m3 (ye ∷ one_if_there (annotation_term p at f) ∷ one (negated y.term) ∷ counted (length uses) ∷ call_events at y.calls uses ∷ inside ∷ []) (end whole) (went begin inside b.walk d1.walk)
          (comes_as (wanted whole) m3 r
          (loop_made p at f (loop_names p at whole m) (conditions_of a2 turned)) (loop_events p at f (loop_names p at whole m) (conditions_of a2 turned)) (end whole)
          (λ i. loop_made p at f (loop_names p at whole (left i)) (ts i))
          (λ i. loop_events p at f (loop_names p at whole (left i)) (ts i)) d))
