-- The conditions of a loop.
use Rattle.std.proofs.Common.{◌≡◌, ◌+◌, List, [], ◌∷◌, ◌++◌, map, length, Err, IfOk, IsErrAnd, Option, Some, None, option_map, refl, sym, ap, subst, ◌∙◌, arith}
use Rattle.std.proofs.lemmas.List.{length-map}
use Rattle.spv_logic.specs.declared.conditions.Kind.TheVariants as kind
use Rattle.spv_logic.specs.declared.conditions.TermId.{TermId}
use Rattle.spv_logic.specs.declared.conditions.RoutineId.{RoutineId}
use Rattle.spv_logic.specs.declared.operators.Head.{Head}
use Rattle.spv_logic.specs.Terms.{Term}
use Rattle.spv_logic.specs.Conditions as logic
use Rattle.spv_term.specs.declared.nodes.Condition.{Condition}
use Rattle.spv_term.specs.Arena.{Arena, Extends, tree}
use Rattle.spv_term.proofs.ArenaLemmas.{tree-Extends, length-Extends}
use Rattle.spv_program.specs.Formulas.{Annotation}
use Rattle.spv_program.specs.Programs.{Program, routine_in}
use Rattle.spv_program.specs.Supplies.{Supply}
use Rattle.spv_program.specs.Terms.{body_term}
use Rattle.spv_assign.specs.Conditions.{conditions_of, pairs_of, AreIn, all_terms_in}
use Rattle.spv_assign.proofs.Growing.{conditions_of-Extends}
use Rattle.spv_meaning.specs.Before.{Renamed, replaced, assuming, assuming_if_there, annotation_term, wanted_if_there}
use Rattle.spv_assign.specs.declared.creation_trace.faults.GenFault.{GenFault}
use Rattle.spv_assign.specs.creation_trace.Events.{Walked, Stops, Answers}
use Rattle.spv_assign.specs.creation_trace.StatementEvents.{counted, several, in_order, pair_terms, replacing_events, loop_events}
use Rattle.spv_assign.proofs.creation_trace.Walks.{nothing_walked}
use Rattle.spv_flow_parts.specs.Walks.{AreThese, AreRenamed, IsMade, IsNoted, IsThere, Listed, Comes, ComesTo, loop_made, renamed_made}
use Rattle.spv_flow_parts.proofs.Steps.{went, exit, comes_last, comes_as, IsTerm-Extends}
use Rattle.spv_flow_parts.proofs.Conditions.{joined_comes, long_conditions}

-- ---- notes

pub IsNoted-Extends : {a b : Arena} (p : Program) (here : Option RoutineId) (n : Option TermId) (f : Option Annotation) → Extends a b → IsNoted a p here n f → IsNoted b p here n f
IsNoted-Extends p here None None more h = tt
IsNoted-Extends p here (Some n) (Some f) more h = IsTerm-Extends n (body_term p (routine_in p here) f) more h
IsNoted-Extends p here None (Some f) more h = absurd h
IsNoted-Extends p here (Some n) None more h = absurd h

pub note_there : (a : Arena) (p : Program) (here : Option RoutineId) (n : Option TermId) (f : Option Annotation) → IsNoted a p here n f → IsThere a n
note_there a p here None None h = tt
note_there a p here (Some n) (Some f) h = h.there
note_there a p here None (Some f) h = absurd h
note_there a p here (Some n) None h = absurd h

pub note_term : (a : Arena) (p : Program) (here : Option RoutineId) (n : Option TermId) (f : Option Annotation) → IsNoted a p here n f → option_map (tree a) n ≡ annotation_term p here f
note_term a p here None None h = refl
note_term a p here (Some n) (Some f) h = ap Some h.is_tree
note_term a p here None (Some f) h = absurd h
note_term a p here (Some n) None h = absurd h

pub IsThere-Extends : {a b : Arena} (h : Option TermId) → Extends a b → IsThere a h → IsThere b h
IsThere-Extends None more h = tt
IsThere-Extends (Some t) more h = let longer = length-Extends more in let there = h in omega (arith, longer, there)

pub tree_if_there : {a b : Arena} (h : Option TermId) → Extends a b → IsThere a h → option_map (tree b) h ≡ option_map (tree a) h
tree_if_there None more h = refl
tree_if_there (Some t) more h = ap Some (tree-Extends more t h)

-- ---- lengths

long_replaced : (pairs : List (Head × Term)) (x : Option Term) (cs : List logic.Condition) → length (replaced pairs (assuming_if_there x cs)) ≡ length cs
long_replaced pairs None cs = length-map cs _
long_replaced pairs (Some t) cs = length-map (map (assuming t) cs) _ ∙ length-map cs (assuming t)

pub long_uses : (a : Arena) (items : List Condition) (pairs : List (Head × Term)) (x : Option Term) (cs : List logic.Condition) → conditions_of a items ≡ replaced pairs (assuming_if_there x cs)
    → length items ≡ length cs
long_uses a items pairs x cs e = sym (long_conditions a items) ∙ ap (λ (l : List logic.Condition). length l) e ∙ long_replaced pairs x cs

-- ---- what is renamed

module _ (a b : Arena) (h : Option TermId) (uses : List Condition) (n : Supply) (fresh : Renamed) (pairs : List (TermId × TermId))
    (more : Extends a b) (known : IsThere a h) (within : AreIn a uses) (renamed : AreRenamed b n pairs fresh) where
  abbrev given : Option Term
  given = option_map (tree a) h

  abbrev wanted : List logic.Condition
  wanted = assuming_if_there given (conditions_of a uses)

  same_given : assuming_if_there (option_map (tree b) h) (conditions_of b uses) ≡ wanted
  same_given = let terms = tree_if_there h more known in let items = conditions_of-Extends more uses within in λ i. assuming_if_there (terms i) (items i)

  pub under_these : (items : List Condition) → AreThese b items (assuming_if_there (option_map (tree b) h) (conditions_of b uses)) → AreThese b items wanted
  under_these items is = record { same = is.same ∙ same_given; in_range = is.in_range }

  pub uses_come : (r : Listed) (c : Arena) (items : List Condition) → AreThese b items wanted → Walked (several (pair_terms fresh.pairs)) a b
      → ComesTo r (replaced (pairs_of b pairs) (conditions_of b items)) (several (all_terms_in (replaced (pairs_of b pairs) (conditions_of b items)))) b c
      → Comes r (renamed_made given fresh (conditions_of a uses)) (replacing_events fresh.pairs wanted) a c n
  uses_come r c items is walked comes =
      let same : replaced (pairs_of b pairs) (conditions_of b items) ≡ replaced fresh.pairs wanted = let e = renamed.same in let f = is.same in λ i. replaced (e i) (f i) in
      let supply = renamed.supply in
      comes_as (renamed_made given fresh (conditions_of a uses)) n r (record { conditions = replaced (pairs_of b pairs) (conditions_of b items); supply = n })
      (in_order (several (pair_terms fresh.pairs) ∷ several (all_terms_in (replaced (pairs_of b pairs) (conditions_of b items))) ∷ [])) (replacing_events fresh.pairs wanted)
      (λ i. record { conditions = same i; supply = supply i })
      (ap (λ (l : List logic.Condition). in_order (several (pair_terms fresh.pairs) ∷ several (all_terms_in l) ∷ [])) same)
      (comes_last r (record { conditions = replaced (pairs_of b pairs) (conditions_of b items); supply = n }) n
      (several (pair_terms fresh.pairs) ∷ []) (several (all_terms_in (replaced (pairs_of b pairs) (conditions_of b items)))) (went [] (several (pair_terms fresh.pairs)) (nothing_walked a) walked) (comes n renamed.there))

  -- the same by what was handed on
  pub uses_come_of : (r : Listed) (c : Arena) (items given_items : List Condition) (given_pairs : List (TermId × TermId)) → given_items ≡ items → given_pairs ≡ pairs
      → AreThese b items (assuming_if_there (option_map (tree b) h) (conditions_of b uses)) → Walked (several (pair_terms fresh.pairs)) a b
      → ComesTo r (replaced (pairs_of b given_pairs) (conditions_of b given_items)) (several (all_terms_in (replaced (pairs_of b given_pairs) (conditions_of b given_items)))) b c
      → Comes r (renamed_made given fresh (conditions_of a uses)) (replacing_events fresh.pairs wanted) a c n
  uses_come_of r c items given_items given_pairs same_items same_pairs is walked comes =
      uses_come r c items (under_these items is) walked
      (subst (λ (l : List Condition). ComesTo r (replaced (pairs_of b pairs) (conditions_of b l)) (several (all_terms_in (replaced (pairs_of b pairs) (conditions_of b l)))) b c) same_items
      (subst (λ (l : List (TermId × TermId)). ComesTo r (replaced (pairs_of b l) (conditions_of b given_items)) (several (all_terms_in (replaced (pairs_of b l) (conditions_of b given_items)))) b c) same_pairs comes))

-- what stops the renaming
pub renaming_stops : (r : Listed) (g : GenFault) (a b : Arena) (fresh : Renamed) (x : Option Term) (cs : List logic.Condition) (n : Supply) → IsErrAnd r (λ e. e ≡ g) → Extends a b → Stops g (several (pair_terms fresh.pairs)) a b
    → Comes r (renamed_made x fresh cs) (replacing_events fresh.pairs (assuming_if_there x cs)) a b n
renaming_stops r g a b fresh x cs n is grows stops =
    exit r g (renamed_made x fresh cs) n [] (several (pair_terms fresh.pairs)) (several (all_terms_in (replaced fresh.pairs (assuming_if_there x cs))) ∷ []) is (nothing_walked a) grows stops

-- ---- the whole loop

module _ (a b : Arena) (p : Program) (here : Option RoutineId) (note : Option TermId) (f : Option Annotation) (uses : List Condition) (n : Supply) (fresh : Renamed) (is_note : IsNoted a p here note f) where
  abbrev seen : Option Term
  seen = option_map (tree a) note

  abbrev cs : List logic.Condition
  cs = conditions_of a uses

  same_term : seen ≡ annotation_term p here f
  same_term = note_term a p here note f is_note

  pub loop_stops : (r : Listed) (g : GenFault) (m : Supply) → IsErrAnd r (λ e. e ≡ g) → Comes (Err g) (renamed_made seen fresh cs) (replacing_events fresh.pairs (assuming_if_there seen cs)) a b m
      → Comes r (loop_made p here f fresh cs) (loop_events p here f fresh cs) a b n
  loop_stops r g m is h =
      let k = subst (λ (x : Option Term). Comes (Err g) (renamed_made x fresh cs) (replacing_events fresh.pairs (assuming_if_there x cs)) a b m) same_term h in
      exit r g (loop_made p here f fresh cs) n [] (replacing_events fresh.pairs (assuming_if_there (annotation_term p here f) cs)) (counted (length (wanted_if_there p here kind.Invariant f) + length cs) ∷ []) is
      (nothing_walked a) k.grows k.walk

  pub loop_comes : (r : Listed) (items first : List Condition) → Extends a b → IsMade b n items (renamed_made seen fresh cs) → Walked (replacing_events fresh.pairs (assuming_if_there seen cs)) a b
      → AreThese b first (wanted_if_there p here kind.Invariant f) → IfOk r (λ all. all.items ≡ first ++ items) → Answers r (counted (length first + length items)) b b
      → Comes r (loop_made p here f fresh cs) (loop_events p here f fresh cs) a b n
  loop_comes r items first more is walked is_first joined answers =
      let long : length first + length items ≡ length (wanted_if_there p here kind.Invariant f) + length cs =
      let x : length first ≡ length (wanted_if_there p here kind.Invariant f) = sym (long_conditions b first) ∙ ap (λ (l : List logic.Condition). length l) is_first.same in
      let y : length items ≡ length cs = long_uses b items fresh.pairs seen cs is.conditions.same in
      λ i. x i + y i in
      let supply = is.supply in
      let term = same_term in
      comes_as (loop_made p here f fresh cs) n r
      (record { conditions = wanted_if_there p here kind.Invariant f ++ replaced fresh.pairs (assuming_if_there seen cs); supply = n })
      (in_order (replacing_events fresh.pairs (assuming_if_there seen cs) ∷ counted (length first + length items) ∷ []))
      (loop_events p here f fresh cs)
      (λ i. record { conditions = wanted_if_there p here kind.Invariant f ++ replaced fresh.pairs (assuming_if_there (term i) cs); supply = supply i })
      (λ i. in_order (replacing_events fresh.pairs (assuming_if_there (term i) cs) ∷ counted (long i) ∷ []))
      (comes_last r (record { conditions = wanted_if_there p here kind.Invariant f ++ replaced fresh.pairs (assuming_if_there seen cs); supply = n }) n
      (replacing_events fresh.pairs (assuming_if_there seen cs) ∷ []) (counted (length first + length items))
      (went [] (replacing_events fresh.pairs (assuming_if_there seen cs)) (nothing_walked a) walked)
      (joined_comes r first items (wanted_if_there p here kind.Invariant f) (replaced fresh.pairs (assuming_if_there seen cs)) b joined answers is_first is.conditions n is.there))
