-- The conditions of a FOR's end, behind its terms.
use Rattle.std.proofs.Common.{◌≡◌, ◌<◌, ◌+◌, List, [], ◌∷◌, ◌++◌, length, IsErrAnd, Option, option_map, refl, sym, subst, ◌∙◌}
use Rattle.spv_logic.specs.declared.conditions.TermId.{TermId}
use Rattle.spv_logic.specs.declared.operators.Head.{Head}
use Rattle.spv_logic.specs.Terms.{Term}
use Rattle.spv_logic.specs.Substitution.{substitute}
use Rattle.spv_logic.specs.Conditions as logic
use Rattle.spv_term.specs.declared.nodes.Condition.{Condition}
use Rattle.spv_term.specs.Arena.{Arena, Extends, tree}
use Rattle.spv_term.proofs.ArenaLemmas.{Extends-trans, tree-Extends}
use Rattle.spv_term.specs.substitution.Images.{ArePairs}
use Rattle.spv_program.specs.declared.operators.Direction.{Direction}
use Rattle.spv_program.specs.Supplies.{Supply}
use Rattle.spv_program.specs.Calls.{replacing}
use Rattle.spv_assign.specs.supply.Numbers.{AreThere}
use Rattle.spv_assign.proofs.supply.FreshLemmas.{AreThere-Extends}
use Rattle.spv_assign.specs.Conditions.{conditions_of, pairs_of, AreIn}
use Rattle.spv_meaning.specs.Before.{Made}
use Rattle.spv_assign.specs.declared.creation_trace.faults.GenFault.{GenFault}
use Rattle.spv_assign.specs.creation_trace.Events.{Event, Walked, Stops}
use Rattle.spv_assign.specs.creation_trace.StatementEvents.{one_if_there, several, counted, in_order}
use Rattle.spv_assign.proofs.creation_trace.Walks.{nothing_walked}
use Rattle.spv_assign.specs.limited_steps.Makes.{IsTerm}
use Rattle.spv_flow_parts.specs.Walks.{AreThese, IsThere, Listed, Comes, ComesTo}
use Rattle.spv_flow_parts.proofs.Steps.{went, comes_last, exit, AreThese-Extends}
use Rattle.spv_flow_parts.proofs.Pairs.{pairs_of-Extends}
use Rattle.spv_flow_parts.proofs.LoopLemmas.{IsThere-Extends, tree_if_there}
use Rattle.spv_flow_parts.specs.declared.for_loops.terms.EndTerms.{EndTerms}
use Rattle.spv_flow_parts.specs.for_loops.Counting.{AreEnds, end_terms, known_in, side, closed, closing_events}

-- what the three lists come to, wherever the terms are
abbrev pub Sides : Listed → Option TermId → EndTerms → List Condition → List Condition → List Condition → Type 0
Sides r h e begun inside outside =
    (a : Arena) (x : Option Term) (y z : Term) (bs cs ds : List logic.Condition) → IsThere a h → option_map (tree a) h ≡ x → IsTerm a e.within y → IsTerm a e.past z
    → AreThese a begun bs → AreThese a inside cs → AreThese a outside ds
    → ComesTo r (bs ++ (side x y cs ++ side x z ds)) (counted (length bs + (length cs + length ds))) a a

module _ (pairs : List (TermId × TermId)) (note : Option TermId) (direction : Direction) (variable end : TermId) (begun inside outside : List Condition) (a0 : Arena) (n : Supply) (fits : ArePairs a0 pairs) (variable_there : variable.0 < length a0.nodes)
    (end_there : end.0 < length a0.nodes) (begun_in : AreIn a0 begun) (inside_in : AreIn a0 inside) (outside_in : AreIn a0 outside) (numbers : AreThere a0 n) where
  abbrev ps : List (Head × Term)
  ps = pairs_of a0 pairs

  abbrev x : Option Term
  x = option_map (tree a0) note

  abbrev now : Term
  now = substitute (replacing ps) (tree a0 variable)

  abbrev last : Term
  last = tree a0 end

  abbrev bs : List logic.Condition
  bs = conditions_of a0 begun

  abbrev cs : List logic.Condition
  cs = conditions_of a0 inside

  abbrev ds : List logic.Condition
  ds = conditions_of a0 outside

  abbrev goal : Made
  goal = record { conditions = closed ps x direction now last bs cs ds; supply = n }

  abbrev e1 : List Event
  e1 = one_if_there (known_in ps x)

  abbrev e2 : List Event
  e2 = several (end_terms direction now last)

  abbrev e3 : List Event
  e3 = counted (length bs + (length cs + length ds))

  pub known_stops : (r : Listed) (g : GenFault) (a1 : Arena) → IsErrAnd r (λ e. e ≡ g) → Extends a0 a1 → Stops g e1 a0 a1 → Comes r goal (closing_events ps x direction now last bs cs ds) a0 a1 n
  known_stops r g a1 is grows stops = exit r g goal n [] e1 (e2 ∷ e3 ∷ []) is (nothing_walked a0) grows stops

  module _ (a1 : Arena) (h : Option TermId) (grows1 : Extends a0 a1) (h_there : IsThere a1 h) (h_is : option_map (tree a1) h ≡ known_in ps x) (walked1 : Walked e1 a0 a1) where
    now_then : substitute (replacing (pairs_of a1 pairs)) (tree a1 variable) ≡ now
    now_then = let e = pairs_of-Extends grows1 pairs fits in let t = tree-Extends grows1 variable variable_there in λ i. substitute (replacing (e i)) (t i)

    last_then : tree a1 end ≡ last
    last_then = tree-Extends grows1 end end_there

    ends_then : end_terms direction (substitute (replacing (pairs_of a1 pairs)) (tree a1 variable)) (tree a1 end) ≡ end_terms direction now last
    ends_then = let e = now_then in let t = last_then in λ i. end_terms direction (e i) (t i)

    w1 : Walked (in_order (e1 ∷ [])) a0 a1
    w1 = went [] e1 (nothing_walked a0) walked1

    pub ends_stop : (r : Listed) (g : GenFault) (a2 : Arena) → IsErrAnd r (λ e. e ≡ g) → Extends a1 a2
        → Stops g (several (end_terms direction (substitute (replacing (pairs_of a1 pairs)) (tree a1 variable)) (tree a1 end))) a1 a2 → Comes r goal (closing_events ps x direction now last bs cs ds) a0 a2 n
    ends_stop r g a2 is grows stops = exit r g goal n (e1 ∷ []) e2 (e3 ∷ []) is w1 grows (subst (λ (ts : List Term). Stops g (several ts) a1 a2) ends_then stops)

    pub close_comes : (r : Listed) (a2 : Arena) (e : EndTerms) (given_inside given_outside : List Condition) → given_inside ≡ inside → given_outside ≡ outside → Extends a1 a2
        → AreEnds a2 e direction (substitute (replacing (pairs_of a1 pairs)) (tree a1 variable)) (tree a1 end)
        → Walked (several (end_terms direction (substitute (replacing (pairs_of a1 pairs)) (tree a1 variable)) (tree a1 end))) a1 a2
        → Sides r h e begun given_inside given_outside → Comes r goal (closing_events ps x direction now last bs cs ds) a0 a2 n
    close_comes r a2 e given_inside given_outside same_inside same_outside grows ends walked sides =
        let more = Extends-trans grows1 grows in
        let ends_are : AreEnds a2 e direction now last = let f = now_then in let t = last_then in subst (λ (y : Term). AreEnds a2 e direction now y) t (subst (λ (y : Term). AreEnds a2 e direction y (tree a1 end)) f ends) in
        let h_then : option_map (tree a2) h ≡ known_in ps x = tree_if_there h grows h_there ∙ h_is in
        let these : (items given : List Condition) → given ≡ items → AreIn a0 items → AreThese a2 given (conditions_of a0 items) =
        λ items given same within. subst (λ (l : List Condition). AreThese a2 l (conditions_of a0 items)) (sym same) (AreThese-Extends items (conditions_of a0 items) more (record { same = refl; in_range = within })) in
        comes_last r goal n (e1 ∷ e2 ∷ []) e3 (went (e1 ∷ []) e2 w1 (subst (λ (ts : List Term). Walked (several ts) a1 a2) ends_then walked))
        (sides a2 (known_in ps x) _ _ bs cs ds (IsThere-Extends h grows h_there) h_then ends_are.within ends_are.past (these begun begun refl begun_in) (these inside given_inside same_inside inside_in) (these outside given_outside same_outside outside_in)
        n (AreThere-Extends a0 a2 n more numbers))
