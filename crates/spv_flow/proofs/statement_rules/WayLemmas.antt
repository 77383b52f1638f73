-- Conditions before a statement that goes one of two ways.
use Rattle.std.proofs.Common.{◌≡◌, ◌<◌, ◌+◌, List, [], ◌∷◌, length, Ok, Err, IsErrAnd, Option, refl, subst, ◌∙◌}
use Rattle.std.proofs.lemmas.List.{length-map, length-append}
use Rattle.spv_logic.specs.declared.conditions.TermId.{TermId}
use Rattle.spv_logic.specs.declared.conditions.RoutineId.{RoutineId}
use Rattle.spv_logic.specs.declared.types.Sort.{Sort}
use Rattle.spv_logic.specs.Terms.{Term}
use Rattle.spv_logic.specs.Conditions as logic
use Rattle.spv_term.specs.declared.nodes.Condition.{Condition}
use Rattle.spv_term.specs.Arena.{Arena, Extends, tree}
use Rattle.spv_term.proofs.ArenaLemmas.{sort_at-Extends}
use Rattle.spv_program.specs.Supplies.{Supply}
use Rattle.spv_program.specs.ExpressionTerms.{Called, Valued}
use Rattle.spv_assign.specs.declared.pending.pending.Pending.{Pending}
use Rattle.spv_assign.specs.supply.Numbers.{AreThere}
use Rattle.spv_assign.proofs.supply.FreshLemmas.{AreThere-Extends}
use Rattle.spv_assign.specs.Conditions.{conditions_of, AreIn}
use Rattle.spv_meaning.specs.Before.{Made, assuming, all_assuming, before_calls, negated}
use Rattle.spv_assign.specs.declared.creation_trace.faults.GenFault.{GenFault}
use Rattle.spv_assign.specs.creation_trace.Events.{Event, Walked, Stops}
use Rattle.spv_assign.specs.creation_trace.StatementEvents.{one, counted, in_order}
use Rattle.spv_assign.proofs.creation_trace.Walks.{nothing_walked}
use Rattle.spv_assign.specs.limited_steps.Makes.{IsTerm}
use Rattle.spv_flow_parts.specs.Walks.{AreThese, Listed, Comes, ComesTo}
use Rattle.spv_flow_parts.proofs.Steps.{went, exit, stopped_among, comes_not, comes_last, AreThese-Extends, IsTerm-Extends}
use Rattle.spv_flow_parts.specs.declared.leaves.valued.Valued as code
use Rattle.spv_flow_parts.specs.leaves.Values.{AreCalls, call_events}
use Rattle.spv_flow_parts.proofs.leaves.InFront.{AreCalls-Extends}
use Rattle.spv_flow.specs.statement_rules.Rules.{ways_made, ways_events, IsValueOf, tested_made, tested_events}

abbrev pub made_with : List logic.Condition → Supply → Made
made_with cs n = record { conditions = cs; supply = n }

-- ---- what was there before

pub own_term : (a : Arena) (t : TermId) → t.0 < length a.nodes → IsTerm a t (tree a t)
own_term a t there = record { there = there; is_tree = refl }

pub own_conditions : (a : Arena) (items : List Condition) → AreIn a items → AreThese a items (conditions_of a items)
own_conditions a items within = record { same = refl; in_range = within }

pub term_then : {a b : Arena} (t : TermId) → Extends a b → t.0 < length a.nodes → IsTerm b t (tree a t)
term_then {a} {b} t more there = IsTerm-Extends t (tree a t) more (own_term a t there)

pub conditions_then : {a b : Arena} (items : List Condition) → Extends a b → AreIn a items → AreThese b items (conditions_of a items)
conditions_then {a} {b} items more within = AreThese-Extends items (conditions_of a items) more (own_conditions a items within)

-- ---- both ways

pub long_ways : (x y : Term) (cs ds : List logic.Condition) → length (ways_made x y cs ds) ≡ length cs + length ds
long_ways x y cs ds =
    let first = length-map cs (assuming x) in
    let second = length-map ds (assuming y) in
    length-append (all_assuming x cs) (all_assuming y ds) ∙ (λ i. first i + second i)

module _ (a b : Arena) (x : Term) (n : Supply) where
  -- what stops the negation
  pub negation_stops : (r : Listed) (g : GenFault) (made cs ds : List logic.Condition) → IsErrAnd r (λ e. e ≡ g) → Extends a b → Stops g (one (negated x)) a b
      → Comes r (made_with made n) (in_order (ways_events x cs ds)) a b n
  negation_stops r g made cs ds is grows stops = exit r g (made_with made n) n [] (one (negated x)) (counted (length cs + length ds) ∷ []) is (nothing_walked a) grows stops

  pub ways_behind : (r : Listed) (made cs ds : List logic.Condition) → AreThere a n → Walked (one (negated x)) a b → ComesTo r made (counted (length cs + length ds)) b b
      → Comes r (made_with made n) (in_order (ways_events x cs ds)) a b n
  ways_behind r made cs ds numbers walked comes =
      comes_last r (made_with made n) n (one (negated x) ∷ []) (counted (length cs + length ds)) (went [] (one (negated x)) (nothing_walked a) walked) (comes n (AreThere-Extends a b n walked.grows numbers))

-- ---- behind the calls of the test

pub IsValueOf-Extends : {a b : Arena} (v : code.Valued) (w : Valued) (s : Sort) → Extends a b → IsValueOf a v w s → IsValueOf b v w s
IsValueOf-Extends v w s more h = record {
  term = IsTerm-Extends v.term w.term more h.term;
  calls = AreCalls-Extends v.calls w.calls more h.calls;
  sorted = sort_at-Extends more v.term h.term.there ∙ h.sorted;
}

-- what stands behind calls, by a call that puts these in front
abbrev pub PutsInFront : Listed → Option RoutineId → code.Valued → List Condition → Type 0
PutsInFront r here v items = (a : Arena) (calls : List Called) (cs : List logic.Condition) → AreCalls a v.calls calls → AreThese a items cs → ComesTo r (before_calls here calls cs) (call_events here calls cs) a a

module _ (here : Option RoutineId) (t : code.Valued) (w : Valued) (s : Sort) (cs ds : List logic.Condition) (a0 a1 : Arena) (is : IsValueOf a0 t w s) where
  abbrev uses : List logic.Condition
  uses = ways_made w.term (negated w.term) cs ds

  abbrev first : List (List Event)
  first = ways_events w.term cs ds

  abbrev tested : List (List Event)
  tested = tested_events here w cs ds

  at_term : (r : Listed) → ComesTo r (ways_made (tree a0 t.term) (negated (tree a0 t.term)) cs ds) (in_order (ways_events (tree a0 t.term) cs ds)) a0 a1 → ComesTo r uses (in_order first) a0 a1
  at_term r h = subst (λ (x : Term). ComesTo r (ways_made x (negated x) cs ds) (in_order (ways_events x cs ds)) a0 a1) is.term.is_tree h

  pub tested_stops : (r : Listed) (g : GenFault) → IsErrAnd r (λ e. e ≡ g) → ComesTo (Err g) (ways_made (tree a0 t.term) (negated (tree a0 t.term)) cs ds) (in_order (ways_events (tree a0 t.term) cs ds)) a0 a1
      → ComesTo r (tested_made here w cs ds) (in_order (tested_events here w cs ds)) a0 a1
  tested_stops r g err h n there =
      let k = at_term (Err g) h n there in
      comes_not (made_with (tested_made here w cs ds) n) n r g (in_order tested) err k.grows (stopped_among [] first (call_events here w.calls uses ∷ []) g a0 a0 a1 (nothing_walked a0) k.walk)

  pub tested_comes : (r : Listed) (v : Pending) → ComesTo (Ok v) (ways_made (tree a0 t.term) (negated (tree a0 t.term)) cs ds) (in_order (ways_events (tree a0 t.term) cs ds)) a0 a1
      → PutsInFront r here t v.items → ComesTo r (tested_made here w cs ds) (in_order (tested_events here w cs ds)) a0 a1
  tested_comes r v h puts n there =
      let k = at_term (Ok v) h n there in
      comes_last r (made_with (tested_made here w cs ds) n) n first (call_events here w.calls uses) k.walk
      (puts a1 w.calls uses (AreCalls-Extends t.calls w.calls k.grows is.calls) k.made.conditions n k.made.there)
