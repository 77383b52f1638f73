-- The conditions behind the body of a FOR.
use Rattle.std.proofs.Common.{◌≡◌, ◌<◌, ◌+◌, List, [], ◌∷◌, ◌++◌, length, Ok, Err, IsErrAnd, Option, Some, None, option_map, refl, sym, ap, subst, ◌∙◌}
use Rattle.std.proofs.lemmas.List.{length-map}
use Rattle.spv_logic.specs.declared.names.names.Symbol.{Symbol}
use Rattle.spv_logic.specs.declared.conditions.Kind.{Kind}
use Rattle.spv_logic.specs.declared.conditions.Kind.TheVariants as kind
use Rattle.spv_logic.specs.declared.conditions.TermId.{TermId}
use Rattle.spv_logic.specs.declared.conditions.RoutineId.{RoutineId}
use Rattle.spv_logic.specs.declared.types.Sort.TheVariants as sort
use Rattle.spv_logic.specs.declared.operators.Head.{Head}
use Rattle.spv_logic.specs.Terms.{Term}
use Rattle.spv_logic.specs.Substitution.{substitute, is_variable}
use Rattle.spv_logic.specs.Conditions as logic
use Rattle.spv_term.specs.declared.nodes.Condition.{Condition}
use Rattle.spv_term.specs.Arena.{Arena, Extends, tree, sort_at}
use Rattle.spv_term.proofs.ArenaLemmas.{Extends-trans, tree-Extends}
use Rattle.spv_term.specs.substitution.Images.{ArePairs, head_at, head_of}
use Rattle.spv_program.specs.declared.operators.Direction.{Direction}
use Rattle.spv_program.specs.Formulas.{Annotation}
use Rattle.spv_program.specs.Programs.{Program}
use Rattle.spv_program.specs.Supplies.{Supply, Fresh, fresh_like}
use Rattle.spv_program.specs.Calls.{replacing}
use Rattle.spv_program.specs.Terms.{alone}
use Rattle.spv_assign.specs.declared.pending.pending.Pending.{Pending}
use Rattle.spv_assign.specs.supply.Numbers.{Taken, AreThere, supply_of}
use Rattle.spv_assign.specs.Conditions.{conditions_of, pairs_of, AreIn, all_terms_in}
use Rattle.spv_assign.proofs.Growing.{AreIn-Extends, conditions_of-Extends}
use Rattle.spv_meaning.specs.Before.{Made, Renamed, renamed, replaced, annotation_term, wanted_if_there, wanted_with, standing_for}
use Rattle.spv_assign.specs.declared.creation_trace.faults.GenFault.{GenFault}
use Rattle.spv_assign.specs.creation_trace.Events.{Event, Walked, Stops}
use Rattle.spv_assign.specs.creation_trace.StatementEvents.{one_if_there, several, counted, in_order, pair_terms}
use Rattle.spv_assign.proofs.creation_trace.Walks.{nothing_walked}
use Rattle.spv_assign.specs.limited_steps.Makes.{IsTerm, IsFreshPair}
use Rattle.spv_flow_parts.specs.Walks.{AreThese, AreRenamed, IsNoted, Listed, Comes, ComesTo}
use Rattle.spv_flow_parts.proofs.Steps.{went, went_on, stopped_among, comes_not, comes_on, comes_last, comes_as, exit, AreThese-Extends, IsTerm-Extends}
use Rattle.spv_flow_parts.proofs.Pairs.{ArePairs-Extends, pairs_of-Extends}
use Rattle.spv_flow_parts.proofs.LoopLemmas.{IsNoted-Extends, note_term}
use Rattle.spv_flow_parts.specs.for_loops.Counting.{number_head, end_terms, known_in, closed, closing_events, left_made, left_events, ended_made, ended_events}
use Rattle.spv_flow_parts.proofs.for_loops.Tests.{stands_for}

abbrev made_with : List logic.Condition → Supply → Made
made_with cs n = record { conditions = cs; supply = n }

-- ---- what stands for an annotation with a term in the place of a variable

pub put_is : (p : Program) (here : Option RoutineId) (k : Kind) (h : Head) (t : Term) (f : Option Annotation) → replaced ((h, t) ∷ []) (wanted_if_there p here k f) ≡ wanted_with p here k h t f
put_is p here k h t None = refl
put_is p here k h t (Some a) = refl

pub put_comes : (p : Program) (here : Option RoutineId) (k : Kind) (f : Option Annotation) (variable t : TermId) (a b : Arena) (first given : List Condition) (r : Listed) → given ≡ first → AreThese a first (wanted_if_there p here k f)
    → ComesTo r (replaced (pairs_of a ((variable, t) ∷ [])) (conditions_of a given)) (several (all_terms_in (replaced (pairs_of a ((variable, t) ∷ [])) (conditions_of a given)))) a b
    → ComesTo r (wanted_with p here k (head_at a variable) (tree a t) f) (several (all_terms_in (wanted_with p here k (head_at a variable) (tree a t) f))) a b
put_comes p here k f variable t a b first given r same these comes =
    subst (λ (l : List logic.Condition). ComesTo r l (several (all_terms_in l)) a b)
    (ap (λ (l : List Condition). replaced (pairs_of a ((variable, t) ∷ [])) (conditions_of a l)) same
    ∙ ap (λ (l : List logic.Condition). replaced ((head_at a variable, tree a t) ∷ []) l) these.same ∙ put_is p here k (head_at a variable) (tree a t) f)
    comes

-- ---- what is behind the loop

-- a replacement at names for the same
replaced_as : (r : Listed) (a b : Arena) (ps qs : List (Head × Term)) (cs ds : List logic.Condition) (n : Supply) → ps ≡ qs → cs ≡ ds → Comes r (made_with (replaced ps cs) n) (several (all_terms_in (replaced ps cs))) a b n
    → Comes r (made_with (replaced qs ds) n) (several (all_terms_in (replaced qs ds))) a b n
replaced_as r a b ps qs cs ds n e f h =
    subst (λ (l : List logic.Condition). Comes r (made_with l n) (several (all_terms_in l)) a b n) (λ i. replaced (e i) (f i)) h

module _ (x : Symbol) (n0 : Supply) (pairs : List (TermId × TermId)) (rest : List Condition) (a0 : Arena) (fits : ArePairs a0 pairs) (within : AreIn a0 rest) where
  abbrev h : Head
  h = number_head x

  abbrev last : Fresh
  last = fresh_like h n0

  abbrev one_pair : List (Head × Term)
  one_pair = (h, alone last.head) ∷ []

  abbrev ps : List (Head × Term)
  ps = pairs_of a0 pairs

  abbrev cs : List logic.Condition
  cs = conditions_of a0 rest

  abbrev l1 : List Event
  l1 = several (alone h ∷ alone last.head ∷ [])

  abbrev l2 : List Event
  l2 = several (all_terms_in (replaced one_pair cs))

  abbrev l3 : List Event
  l3 = several (all_terms_in (replaced ps (replaced one_pair cs)))

  abbrev goal : Made
  goal = left_made ps last h cs

  pub pair_stops : (r : Listed) (g : GenFault) (n : Supply) (a1 : Arena) → IsErrAnd r (λ e. e ≡ g) → Extends a0 a1 → Stops g l1 a0 a1 → Comes r goal (left_events ps last h cs) a0 a1 n
  pair_stops r g n a1 is grows stops = exit r g goal n [] l1 (l2 ∷ l3 ∷ []) is (nothing_walked a0) grows stops

  module _ (a1 : Arena) (taken : Taken) (p : TermId × TermId) (fresh : IsFreshPair a1 taken p h n0) (grows : Extends a0 a1) (numbers : AreThere a1 (supply_of taken)) (walked : Walked l1 a0 a1) where
    w1 : Walked (in_order (l1 ∷ [])) a0 a1
    w1 = went [] l1 (nothing_walked a0) walked

    same_pair : pairs_of a1 (p ∷ []) ≡ one_pair
    same_pair = let variable : head_at a1 p.0 ≡ h = ap head_of fresh.variable in let term = fresh.fresh in λ i. (variable i, term i) ∷ []

    behind_at : (r : Listed) (a2 : Arena) → ComesTo r (replaced (pairs_of a1 (p ∷ [])) (conditions_of a1 rest)) (several (all_terms_in (replaced (pairs_of a1 (p ∷ [])) (conditions_of a1 rest)))) a1 a2
        → Comes r (made_with (replaced one_pair cs) (supply_of taken)) l2 a1 a2 (supply_of taken)
    behind_at r a2 c = replaced_as r a1 a2 (pairs_of a1 (p ∷ [])) one_pair (conditions_of a1 rest) cs (supply_of taken) same_pair (conditions_of-Extends grows rest within) (c (supply_of taken) numbers)

    pub behind_stops : (r : Listed) (g : GenFault) (n : Supply) (a2 : Arena) → IsErrAnd r (λ e. e ≡ g)
        → ComesTo (Err g) (replaced (pairs_of a1 (p ∷ [])) (conditions_of a1 rest)) (several (all_terms_in (replaced (pairs_of a1 (p ∷ [])) (conditions_of a1 rest)))) a1 a2
        → Comes r goal (left_events ps last h cs) a0 a2 n
    behind_stops r g n a2 is c = let k = behind_at (Err g) a2 c in exit r g goal n (l1 ∷ []) l2 (l3 ∷ []) is w1 k.grows k.walk

    module _ (a2 : Arena) (behind : Pending)
        (c : ComesTo (Ok behind) (replaced (pairs_of a1 (p ∷ [])) (conditions_of a1 rest)) (several (all_terms_in (replaced (pairs_of a1 (p ∷ [])) (conditions_of a1 rest)))) a1 a2) where
      k2 : Comes (Ok behind) (made_with (replaced one_pair cs) (supply_of taken)) l2 a1 a2 (supply_of taken)
      k2 = behind_at (Ok behind) a2 c

      pub behind_in : AreIn a2 behind.items
      behind_in = k2.made.conditions.in_range

      pub pairs_then : ArePairs a2 pairs
      pairs_then = ArePairs-Extends (Extends-trans grows k2.grows) pairs fits

      pub left_comes : (r : Listed) (a3 : Arena) (given : List Condition) → given ≡ behind.items
          → ComesTo r (replaced (pairs_of a2 pairs) (conditions_of a2 given)) (several (all_terms_in (replaced (pairs_of a2 pairs) (conditions_of a2 given)))) a2 a3
          → Comes r goal (left_events ps last h cs) a0 a3 (supply_of taken)
      left_comes r a3 given same d =
          let conditions : conditions_of a2 given ≡ replaced one_pair cs = ap (conditions_of a2) same ∙ k2.made.conditions.same in
          let k3 = replaced_as r a2 a3 (pairs_of a2 pairs) ps (conditions_of a2 given) (replaced one_pair cs) (supply_of taken) (pairs_of-Extends (Extends-trans grows k2.grows) pairs fits) conditions (d (supply_of taken) k2.made.there) in
          let supply = fresh.supply in
          comes_as goal (supply_of taken) r (made_with (replaced ps (replaced one_pair cs)) (supply_of taken)) (in_order (l1 ∷ l2 ∷ l3 ∷ [])) (left_events ps last h cs)
          (λ i. made_with (replaced ps (replaced one_pair cs)) (supply i)) refl
          (comes_last r (made_with (replaced ps (replaced one_pair cs)) (supply_of taken)) (supply_of taken) (l1 ∷ l2 ∷ []) l3 (went (l1 ∷ []) l2 w1 k2.walk) k3)

-- ---- the whole

long_replaced : (pairs : List (Head × Term)) (cs : List logic.Condition) → length (replaced pairs cs) ≡ length cs
long_replaced pairs cs = length-map cs _

module _ (p : Program) (here : Option RoutineId) (f : Option Annotation) (note : Option TermId) (direction : Direction) (x : Symbol) (heads : List Head) (n0 : Supply) (variable first end : TermId) (turn rest : List Condition) (a0 : Arena)
    (variable_is : IsTerm a0 variable (alone (number_head x))) (first_there : first.0 < length a0.nodes) (end_there : end.0 < length a0.nodes) (noted : IsNoted a0 p here note f) (turn_in : AreIn a0 turn) (rest_in : AreIn a0 rest)
    (numbers : AreThere a0 n0) where
  abbrev counted_head : Head
  counted_head = number_head x

  abbrev first_term : Term
  first_term = tree a0 first

  abbrev end_term : Term
  end_term = tree a0 end

  abbrev fresh : Renamed
  fresh = renamed heads n0

  abbrev turn_cs : List logic.Condition
  turn_cs = conditions_of a0 turn

  abbrev rest_cs : List logic.Condition
  rest_cs = conditions_of a0 rest

  abbrev begun_cs : List logic.Condition
  begun_cs = wanted_with p here kind.Invariant counted_head first_term f

  abbrev inside_cs : List logic.Condition
  inside_cs = replaced fresh.pairs turn_cs

  abbrev last_one : Fresh
  last_one = fresh_like counted_head fresh.supply

  abbrev behind_cs : List logic.Condition
  behind_cs = replaced ((counted_head, alone last_one.head) ∷ []) rest_cs

  abbrev outside_cs : List logic.Condition
  outside_cs = replaced fresh.pairs behind_cs

  abbrev e1 : List Event
  e1 = several (all_terms_in begun_cs)

  abbrev e2 : List Event
  e2 = several (pair_terms fresh.pairs)

  abbrev e3 : List Event
  e3 = several (all_terms_in inside_cs)

  abbrev e4 : List (List Event)
  e4 = several (alone counted_head ∷ alone last_one.head ∷ []) ∷ several (all_terms_in behind_cs) ∷ several (all_terms_in outside_cs) ∷ []

  abbrev e5 : List (List Event)
  e5 =
      one_if_there (known_in fresh.pairs (annotation_term p here f))
      ∷ several (end_terms direction (standing_for fresh.pairs counted_head) end_term)
      ∷ counted (length begun_cs + (length turn_cs + length rest_cs))
      ∷ []

  abbrev ended : Made
  ended = ended_made p here f direction counted_head first_term end_term fresh turn_cs rest_cs

  abbrev all_events : List Event
  all_events = ended_events p here f direction counted_head first_term end_term fresh turn_cs rest_cs

  same_head : head_at a0 variable ≡ counted_head
  same_head = ap head_of variable_is.is_tree

  begun_at : (r : Listed) (a1 : Arena)
      → ComesTo r (wanted_with p here kind.Invariant (head_at a0 variable) (tree a0 first) f) (several (all_terms_in (wanted_with p here kind.Invariant (head_at a0 variable) (tree a0 first) f))) a0 a1
      → Comes r (made_with begun_cs n0) e1 a0 a1 n0
  begun_at r a1 c =
      subst (λ (l : Head). Comes r (made_with (wanted_with p here kind.Invariant l first_term f) n0) (several (all_terms_in (wanted_with p here kind.Invariant l first_term f))) a0 a1 n0) same_head (c n0 numbers)

  pub begun_stops : (r : Listed) (g : GenFault) (n : Supply) (a1 : Arena) → IsErrAnd r (λ e. e ≡ g)
      → ComesTo (Err g) (wanted_with p here kind.Invariant (head_at a0 variable) (tree a0 first) f) (several (all_terms_in (wanted_with p here kind.Invariant (head_at a0 variable) (tree a0 first) f))) a0 a1
      → Comes r ended all_events a0 a1 n
  begun_stops r g n a1 is c = let k = begun_at (Err g) a1 c in exit r g ended n [] e1 (e2 ∷ e3 ∷ (e4 ++ e5)) is (nothing_walked a0) k.grows k.walk

  module _ (a1 : Arena) (begun : Pending)
      (c1 : ComesTo (Ok begun) (wanted_with p here kind.Invariant (head_at a0 variable) (tree a0 first) f) (several (all_terms_in (wanted_with p here kind.Invariant (head_at a0 variable) (tree a0 first) f))) a0 a1) where
    k1 : Comes (Ok begun) (made_with begun_cs n0) e1 a0 a1 n0
    k1 = begun_at (Ok begun) a1 c1

    pub numbers_then : AreThere a1 n0
    numbers_then = k1.made.there

    pub grows_first : Extends a0 a1
    grows_first = k1.grows

    walk1 : Walked (in_order (e1 ∷ [])) a0 a1
    walk1 = went [] e1 (nothing_walked a0) k1.walk

    pub renaming_stops : (r : Listed) (g : GenFault) (n : Supply) (a2 : Arena) → IsErrAnd r (λ e. e ≡ g) → Extends a1 a2 → Stops g e2 a1 a2 → Comes r ended all_events a0 a2 n
    renaming_stops r g n a2 is grows stops = exit r g ended n (e1 ∷ []) e2 (e3 ∷ (e4 ++ e5)) is walk1 grows stops

    module _ (a2 : Arena) (n2 : Supply) (pairs : List (TermId × TermId)) (given : List (TermId × TermId)) (same : given ≡ pairs) (grows2 : Extends a1 a2) (renamed_is : AreRenamed a2 n2 pairs fresh) (walked2 : Walked e2 a1 a2) where
      more : Extends a0 a2
      more = Extends-trans k1.grows grows2

      walk2 : Walked (in_order (e1 ∷ e2 ∷ [])) a0 a2
      walk2 = went (e1 ∷ []) e2 walk1 walked2

      given_fit : ArePairs a2 given
      given_fit = subst (ArePairs a2) (sym same) renamed_is.fit

      given_are : pairs_of a2 given ≡ fresh.pairs
      given_are = ap (pairs_of a2) same ∙ renamed_is.same

      pub pairs_fit : ArePairs a2 given
      pairs_fit = given_fit

      pub turn_then : AreIn a2 turn
      turn_then = AreIn-Extends more turn turn_in

      inside_at : (r : Listed) (a3 : Arena) → ComesTo r (replaced (pairs_of a2 given) (conditions_of a2 turn)) (several (all_terms_in (replaced (pairs_of a2 given) (conditions_of a2 turn)))) a2 a3
          → Comes r (made_with inside_cs n2) e3 a2 a3 n2
      inside_at r a3 c = replaced_as r a2 a3 (pairs_of a2 given) fresh.pairs (conditions_of a2 turn) turn_cs n2 given_are (conditions_of-Extends more turn turn_in) (c n2 renamed_is.there)

      pub inside_stops : (r : Listed) (g : GenFault) (n : Supply) (a3 : Arena) → IsErrAnd r (λ e. e ≡ g)
          → ComesTo (Err g) (replaced (pairs_of a2 given) (conditions_of a2 turn)) (several (all_terms_in (replaced (pairs_of a2 given) (conditions_of a2 turn)))) a2 a3 → Comes r ended all_events a0 a3 n
      inside_stops r g n a3 is c = let k = inside_at (Err g) a3 c in exit r g ended n (e1 ∷ e2 ∷ []) e3 (e4 ++ e5) is walk2 k.grows k.walk

      module _ (a3 : Arena) (inside : Pending)
          (c3 : ComesTo (Ok inside) (replaced (pairs_of a2 given) (conditions_of a2 turn)) (several (all_terms_in (replaced (pairs_of a2 given) (conditions_of a2 turn)))) a2 a3) where
        k3 : Comes (Ok inside) (made_with inside_cs n2) e3 a2 a3 n2
        k3 = inside_at (Ok inside) a3 c3

        more3 : Extends a0 a3
        more3 = Extends-trans more k3.grows

        walk3 : Walked (in_order (e1 ∷ e2 ∷ e3 ∷ [])) a0 a3
        walk3 = went (e1 ∷ e2 ∷ []) e3 walk2 k3.walk

        pub numbers_inside : AreThere a3 n2
        numbers_inside = k3.made.there

        pub pairs_inside : ArePairs a3 given
        pairs_inside = ArePairs-Extends k3.grows given given_fit

        pub rest_inside : AreIn a3 rest
        rest_inside = AreIn-Extends more3 rest rest_in

        given_inside : pairs_of a3 given ≡ fresh.pairs
        given_inside = pairs_of-Extends k3.grows given given_fit ∙ given_are

        outside_at : (r : Listed) (a4 : Arena) (n4 : Supply) → Comes r (left_made (pairs_of a3 given) (fresh_like counted_head n2) counted_head (conditions_of a3 rest)) (left_events (pairs_of a3 given) (fresh_like counted_head n2) counted_head (conditions_of a3 rest)) a3 a4 n4
            → Comes r (made_with outside_cs last_one.supply) (in_order e4) a3 a4 n4
        outside_at r a4 n4 c =
            let ps = given_inside in
            let supply = renamed_is.supply in
            let cs = conditions_of-Extends more3 rest rest_in in
            comes_as (made_with outside_cs last_one.supply) n4 r (left_made (pairs_of a3 given) (fresh_like counted_head n2) counted_head (conditions_of a3 rest))
            (left_events (pairs_of a3 given) (fresh_like counted_head n2) counted_head (conditions_of a3 rest)) (in_order e4)
            (λ i. left_made (ps i) (fresh_like counted_head (supply i)) counted_head (cs i)) (λ i. left_events (ps i) (fresh_like counted_head (supply i)) counted_head (cs i)) c

        pub outside_stops : (r : Listed) (g : GenFault) (n n4 : Supply) (a4 : Arena) → IsErrAnd r (λ e. e ≡ g)
            → Comes (Err g) (left_made (pairs_of a3 given) (fresh_like counted_head n2) counted_head (conditions_of a3 rest)) (left_events (pairs_of a3 given) (fresh_like counted_head n2) counted_head (conditions_of a3 rest)) a3 a4 n4
            → Comes r ended all_events a0 a4 n
        outside_stops r g n n4 a4 is c =
            let k = outside_at (Err g) a4 n4 c in
            comes_not ended n r g all_events is (Extends-trans more3 k.grows) (stopped_among (e1 ∷ e2 ∷ e3 ∷ []) e4 e5 g a0 a3 a4 walk3 k.walk)

        module _ (a4 : Arena) (n4 : Supply) (outside : Pending)
            (c4 : Comes (Ok outside) (left_made (pairs_of a3 given) (fresh_like counted_head n2) counted_head (conditions_of a3 rest)) (left_events (pairs_of a3 given) (fresh_like counted_head n2) counted_head (conditions_of a3 rest)) a3 a4 n4) where
          k4 : Comes (Ok outside) (made_with outside_cs last_one.supply) (in_order e4) a3 a4 n4
          k4 = outside_at (Ok outside) a4 n4 c4

          more4 : Extends a0 a4
          more4 = Extends-trans more3 k4.grows

          pub grows_all : Extends a0 a4
          grows_all = more4

          pub begun_in : AreIn a4 begun.items
          begun_in = AreIn-Extends (Extends-trans (Extends-trans grows2 k3.grows) k4.grows) begun.items k1.made.conditions.in_range

          pub inside_in : AreIn a4 inside.items
          inside_in = AreIn-Extends k4.grows inside.items k3.made.conditions.in_range

          pub outside_in : AreIn a4 outside.items
          outside_in = k4.made.conditions.in_range

          pub pairs_all : ArePairs a4 given
          pairs_all = ArePairs-Extends k4.grows given pairs_inside

          pub ended_comes : (r : Listed) (a5 : Arena) (inside_given outside_given : List Condition) → inside_given ≡ inside.items → outside_given ≡ outside.items
              → ComesTo r
              (closed (pairs_of a4 given) (option_map (tree a4) note) direction (substitute (replacing (pairs_of a4 given)) (tree a4 variable)) (tree a4 end) (conditions_of a4 begun.items) (conditions_of a4 inside_given) (conditions_of a4 outside_given))
              (closing_events (pairs_of a4 given) (option_map (tree a4) note) direction (substitute (replacing (pairs_of a4 given)) (tree a4 variable)) (tree a4 end) (conditions_of a4 begun.items) (conditions_of a4 inside_given) (conditions_of a4 outside_given))
              a4 a5 → Comes r ended all_events a0 a5 n4
          ended_comes r a5 inside_given outside_given inside_same outside_same c =
              let ps : pairs_of a4 given ≡ fresh.pairs = pairs_of-Extends k4.grows given pairs_inside ∙ given_inside in
              let known : option_map (tree a4) note ≡ annotation_term p here f = note_term a4 p here note f (IsNoted-Extends p here note f more4 noted) in
              let variable_then : tree a4 variable ≡ alone counted_head = (IsTerm-Extends variable (alone counted_head) more4 variable_is).is_tree in
              let now : substitute (replacing (pairs_of a4 given)) (tree a4 variable) ≡ standing_for fresh.pairs counted_head = (λ i. substitute (replacing (ps i)) (variable_then i)) ∙ stands_for fresh.pairs x in
              let end_is : tree a4 end ≡ end_term = tree-Extends more4 end end_there in
              let bs : conditions_of a4 begun.items ≡ begun_cs = (AreThese-Extends begun.items begun_cs (Extends-trans (Extends-trans grows2 k3.grows) k4.grows) k1.made.conditions).same in
              let is : conditions_of a4 inside_given ≡ inside_cs = ap (conditions_of a4) inside_same ∙ (AreThese-Extends inside.items inside_cs k4.grows k3.made.conditions).same in
              let os : conditions_of a4 outside_given ≡ outside_cs = ap (conditions_of a4) outside_same ∙ k4.made.conditions.same in
              let supply = k4.made.supply in
              let inside_long : length inside_cs ≡ length turn_cs = long_replaced fresh.pairs turn_cs in
              let outside_long : length outside_cs ≡ length rest_cs = long_replaced fresh.pairs behind_cs ∙ long_replaced ((counted_head, alone last_one.head) ∷ []) rest_cs in
              comes_on r ended n4 (e1 ∷ e2 ∷ e3 ∷ e4) e5 (went_on (e1 ∷ e2 ∷ e3 ∷ []) e4 walk3 k4.walk)
              (comes_as ended n4 r
              (made_with (closed (pairs_of a4 given) (option_map (tree a4) note) direction (substitute (replacing (pairs_of a4 given)) (tree a4 variable)) (tree a4 end) (conditions_of a4 begun.items) (conditions_of a4 inside_given) (conditions_of a4 outside_given)) n4)
              (closing_events (pairs_of a4 given) (option_map (tree a4) note) direction (substitute (replacing (pairs_of a4 given)) (tree a4 variable)) (tree a4 end) (conditions_of a4 begun.items) (conditions_of a4 inside_given) (conditions_of a4 outside_given))
              (in_order e5)
              (λ i. made_with (closed (ps i) (known i) direction (now i) (end_is i) (bs i) (is i) (os i)) (supply i))
              ((λ i. closing_events (ps i) (known i) direction (now i) (end_is i) (bs i) (is i) (os i))
              ∙ (λ i. in_order (one_if_there (known_in fresh.pairs (annotation_term p here f)) ∷ several (end_terms direction (standing_for fresh.pairs counted_head) end_term) ∷ counted (length begun_cs + (inside_long i + outside_long i)) ∷ [])))
              (c n4 k4.made.there))

-- a number in the place of the variable
pub first_pair : (a : Arena) (x : Symbol) (variable first : TermId) → IsTerm a variable (alone (number_head x)) → first.0 < length a.nodes → sort_at a variable ≡ sort.Int → sort_at a first ≡ sort.Int → ArePairs a ((variable, first) ∷ [])
first_pair a x variable first is there number first_number = (
  record {
    variable_there = is.there;
    term_there = there;
    variable = ap (λ (t : Term). is_variable (head_of t)) is.is_tree;
    same_sort = first_number ∙ sym number;
  },
  tt,
)
