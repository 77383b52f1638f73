-- The conditions before a call, behind what was made for it.
use Rattle.std.proofs.Common.{◌≡◌, ℕ, suc, nat_eq, arith, ◌+◌, Bool, true, false, List, [], ◌∷◌, ◌++◌, map, length, Option, Some, None, Result, Ok, Err, IfOk, IsErrAnd, refl, sym, ap, subst, ◌∙◌}
use Rattle.std.proofs.lemmas.Bool.Decides.{nat_tests}
use Rattle.std.proofs.lemmas.List.{length-map, append_assoc}
use Rattle.spv_logic.specs.declared.conditions.RoutineId.{RoutineId}
use Rattle.spv_logic.specs.declared.conditions.TermId.{TermId}
use Rattle.spv_logic.specs.declared.operators.Head.{Head}
use Rattle.spv_logic.specs.Terms.{Term, Terms, term, no_terms, terms}
use Rattle.spv_logic.specs.Substitution.{is_variable, replacement_at, substitute, substitute_all}
use Rattle.spv_logic.specs.Substitution as logic_substitution
use Rattle.spv_logic.specs.Conditions as logic
use Rattle.spv_term.specs.declared.nodes.Condition.{Condition}
use Rattle.spv_term.specs.Arena.{AllBelow, Arena, Extends, tree}
use Rattle.spv_term.proofs.ArenaLemmas.{Extends-refl, Extends-trans}
use Rattle.spv_program.specs.Programs.{Routine, Program}
use Rattle.spv_program.specs.Calls as argument
use Rattle.spv_program.specs.Calls.{entry_at_call, exit_at_call, replacing}
use Rattle.spv_program.specs.Supplies.{Supply}
use Rattle.spv_assign.specs.declared.pending.pending.Pending.{Pending}
use Rattle.spv_assign.proofs.supply.FreshLemmas.{AreThere-Extends}
use Rattle.spv_assign.specs.Conditions.{AreIn, all_terms_in, conditions_of, pairs_of}
use Rattle.spv_assign.proofs.Growing.{conditions_of-Extends}
use Rattle.spv_meaning.specs.Before.{Changed, Made, before_calls, before_entering, changed_places, replaced, wanted_entry}
use Rattle.spv_assign.specs.declared.creation_trace.faults.GenFault.{GenFault}
use Rattle.spv_assign.specs.creation_trace.Events.{Answers, Event, HasTerms, Walked, Stops}
use Rattle.spv_assign.specs.creation_trace.StatementEvents.{counted, in_order, pair_terms, several}
use Rattle.spv_assign.proofs.creation_trace.Walks.{adds_nothing, nothing_walked}
use Rattle.spv_flow_parts.specs.Walks.{AreThese, Comes, ComesTo, IsMade, Listed}
use Rattle.spv_flow_parts.specs.declared.leaves.valued.Called as code_called
use Rattle.spv_flow_parts.specs.declared.calls.passed.Argument as code_argument
use Rattle.spv_flow_parts.specs.calls.Arguments.{AreAfter, AreArguments, AreChanged, MakesCall, argued_at, argument_in, called_with}
use Rattle.spv_flow_parts.proofs.calls.Each.{after_in, after_is, arguments_are}
use Rattle.spv_flow_parts.specs.calls.Events.{at_call_events, entering_events}
use Rattle.spv_flow_parts.specs.leaves.Values.{call_events}
use Rattle.spv_flow_parts.proofs.Steps.{append_nil, comes_as, comes_last, exit, went, AreThese-Extends}
use Rattle.spv_flow_parts.proofs.Pairs.{pairs_of-Extends}

-- ---- nothing is changed

mutual
  same_term : (t : Term) → substitute (replacing []) t ≡ t
  same_term (term h ts) = ap (logic_substitution.replaced (replacement_at (is_variable h) None)) (ap (term h) (same_terms ts)) ∙ kept (is_variable h) (term h ts)
    where
      kept : (b : Bool) (t : Term) → logic_substitution.replaced (replacement_at b None) t ≡ t
      kept true t = refl
      kept false t = refl

  same_terms : (ts : Terms) → substitute_all (replacing []) ts ≡ ts
  same_terms no_terms = refl
  same_terms (terms t ts) = let first = same_term t in let others = same_terms ts in λ i. terms (first i) (others i)

same_given : (ts : List Term) → map (substitute (replacing [])) ts ≡ ts
same_given [] = refl
same_given (t ∷ ts) = let first = same_term t in let others = same_given ts in λ i. first i ∷ others i

none_replaced : (cs : List logic.Condition) → replaced [] cs ≡ cs
none_replaced [] = refl
none_replaced (c ∷ cs) =
    let given = same_given c.claim.given in
    let goal = same_term c.claim.goal in
    let others = none_replaced cs in
    λ i. record { claim = record { given = given i; goal = goal i }; origin = c.origin } ∷ others i

pub is_empty : {X : Type 0} (xs : List X) → nat_eq (length xs) 0 ≡ true → xs ≡ []
is_empty [] e = refl
is_empty (x ∷ xs) e = absurd (some (length xs) e)
  where
    some : (n : ℕ) → nat_eq (suc n) 0 ≡ true → ⊥
    some n e = grind (arith, nat_tests)

-- ---- conditions whose terms are there

given_there : (a : Arena) (ts : List TermId) (rest : List Term) → AllBelow (length a.nodes) ts → HasTerms a rest → HasTerms a (map (tree a) ts ++ rest)
given_there a [] rest h k = k
given_there a (t ∷ ts) rest h k = (record { id = t; there = h.0; is_tree = refl }, given_there a ts rest h.1 k)

these_there : (a : Arena) (items : List Condition) → AreIn a items → HasTerms a (all_terms_in (conditions_of a items))
these_there a [] h = tt
these_there a (c ∷ items) h =
    subst (HasTerms a) (sym (append_assoc (map (tree a) c.given) (tree a c.goal ∷ []) (all_terms_in (conditions_of a items))))
    (given_there a c.given (tree a c.goal ∷ all_terms_in (conditions_of a items)) h.0.given (record { id = c.goal; there = h.0.goal; is_tree = refl }, these_there a items h.1))

-- where nothing is changed, what is wanted stays
pub none_comes : (v : Pending) (a : Arena) (after : List (TermId × TermId)) (rest : List Condition) → v.items ≡ rest → after ≡ [] → AreIn a rest
    → ComesTo (Ok v) (replaced (pairs_of a after) (conditions_of a rest)) (several (all_terms_in (replaced (pairs_of a after) (conditions_of a rest)))) a a
none_comes v a after rest is none within n there =
    subst (λ (cs : List logic.Condition). Comes (Ok v) (record { conditions = cs; supply = n }) (several (all_terms_in cs)) a a n) (sym same) (record {
      grows = Extends-refl a;
      walk = record { grows = Extends-refl a; there = subst (HasTerms a) (sym (append_nil (all_terms_in (conditions_of a rest)))) (these_there a rest within); only = adds_nothing a _; lists = tt };
      made = record { conditions = record { same = ap (conditions_of a) is; in_range = subst (AreIn a) (sym is) within }; supply = refl; there = there };
    })
  where
    same : replaced (pairs_of a after) (conditions_of a rest) ≡ conditions_of a rest
    same = ap (λ (l : List (TermId × TermId)). replaced (pairs_of a l) (conditions_of a rest)) none ∙ none_replaced (conditions_of a rest)

-- ---- a call whose arguments were made

module _ (p : Program) (here : Option RoutineId) (line : ℕ) (r : Routine) (xs : List argument.Argument) (n : Supply) (a : Arena) (rest : List Condition) (within : AreIn a rest) where
  abbrev w : Changed
  w = changed_places p r r.formals xs n

  abbrev cs : List logic.Condition
  cs = conditions_of a rest

  abbrev goal : Made
  goal = before_entering p here line (Some r) (argued_at xs n) cs

  abbrev e1 : List Event
  e1 = several (pair_terms w.after)

  abbrev e2 : List Event
  e2 = at_call_events p r xs w.in_exit

  abbrev e3 : List Event
  e3 = several (all_terms_in (replaced w.after cs))

  abbrev e4 : List Event
  e4 = counted (length (wanted_entry here line (entry_at_call p r xs)) + length cs)

  abbrev all_events : List Event
  all_events = entering_events p here line (Some r) (argued_at xs n) cs

  pub changes_stop : (o : Listed) (e : GenFault) (b : Arena) (m : Supply) → IsErrAnd o (λ f. f ≡ e) → Extends a b → Stops e e1 a b → Comes o goal all_events a b m
  changes_stop o e b m is grows stops = exit o e goal m [] e1 (e2 ∷ e3 ∷ e4 ∷ []) is (nothing_walked a) grows stops

  module _ (b : Arena) (m : Supply) (in_exit : List (Head × TermId)) (after : List (TermId × TermId)) (grows1 : Extends a b) (walked1 : Walked e1 a b) (are : AreChanged b m in_exit after w) where
    w1 : Walked (in_order (e1 ∷ [])) a b
    w1 = went [] e1 (nothing_walked a) walked1

    pub called_stops : (o : Listed) (e : GenFault) (c : Arena) → IsErrAnd o (λ f. f ≡ e) → Extends b c → Stops e e2 b c → Comes o goal all_events a c m
    called_stops o e c is grows stops = exit o e goal m (e1 ∷ []) e2 (e3 ∷ e4 ∷ []) is w1 grows stops

    module _ (c : Arena) (grows2 : Extends b c) (walked2 : Walked e2 b c) where
      w2 : Walked (in_order (e1 ∷ e2 ∷ [])) a c
      w2 = went (e1 ∷ []) e2 w1 walked2

      pub rest_within : AreIn c rest
      rest_within = (AreThese-Extends rest cs (Extends-trans grows1 grows2) (record { same = refl; in_range = within })).in_range

      wanted_is : replaced (pairs_of c after) (conditions_of c rest) ≡ replaced w.after cs
      wanted_is =
          let pairs = pairs_of-Extends grows2 after are.fit ∙ are.after_are in
          let conditions = conditions_of-Extends (Extends-trans grows1 grows2) rest within in
          λ i. replaced (pairs i) (conditions i)

      module _ (x : Listed) (d : Arena) (comes : ComesTo x (replaced (pairs_of c after) (conditions_of c rest)) (several (all_terms_in (replaced (pairs_of c after) (conditions_of c rest)))) c d) where
        comes_so : Comes x (record { conditions = replaced w.after cs; supply = m }) e3 c d m
        comes_so = subst (λ (l : List logic.Condition). Comes x (record { conditions = l; supply = m }) (several (all_terms_in l)) c d m) wanted_is (comes m (AreThere-Extends b c m grows2 are.there))

        pub replaced_stops : (o : Listed) (e : GenFault) → IsErrAnd o (λ f. f ≡ e) → x ≡ Err e → Comes o goal all_events a d m
        replaced_stops o e is failed = exit o e goal m (e1 ∷ e2 ∷ []) e3 (e4 ∷ []) is w2 comes_so.grows (subst (λ (y : Listed). Answers y e3 c d) failed comes_so.walk)

        pub entered : (v : Pending) → x ≡ Ok v → (o : Listed) → (Extends c d → AreThese d v.items (replaced w.after cs) → ComesTo o (before_calls here (called_with p r line xs w.in_exit ∷ []) (replaced w.after cs)) (call_events here (called_with p r line xs w.in_exit ∷ []) (replaced w.after cs)) d d)
            → Comes o goal all_events a d m
        entered v is o front =
            let made = ok_made is comes_so.made in
            let w3 = went (e1 ∷ e2 ∷ []) e3 w2 (subst (λ (y : Listed). Answers y e3 c d) is comes_so.walk) in
            comes_last o goal m (e1 ∷ e2 ∷ e3 ∷ []) e4 w3
            (comes_as goal m o (record { conditions = goal.conditions; supply = m }) (counted (length (wanted_entry here line (entry_at_call p r xs)) + length (replaced w.after cs))) e4 (ap (λ (s : Supply). record { conditions = goal.conditions; supply = s }) are.supply)
            (ap (λ k. counted (length (wanted_entry here line (entry_at_call p r xs)) + k)) (length-map cs _)) (front comes_so.grows made.conditions m made.there))
          where
            ok_made : x ≡ Ok v → IfOk x (λ l. IsMade d m l.items (record { conditions = replaced w.after cs; supply = m })) → IsMade d m v.items (record { conditions = replaced w.after cs; supply = m })
            ok_made is h = subst (λ (y : Listed). IfOk y (λ l. IsMade d m l.items (record { conditions = replaced w.after cs; supply = m }))) is h

-- a call with the terms of what it changes
pub made_call : (p : Program) (r : Routine) (xs : List argument.Argument) (line line' : ℕ) (a b : Arena) (o : Result code_called.Called GenFault) (ps : List (Head × TermId)) (qs : List (Head × Term)) → line ≡ line' → AreAfter a ps qs
    → MakesCall o (called_with p r line xs (after_in a ps)) (at_call_events p r xs (after_in a ps)) a b → MakesCall o (called_with p r line' xs qs) (at_call_events p r xs qs) a b
made_call p r xs line line' a b o ps qs same h made =
    subst (λ k. MakesCall o (called_with p r k xs qs) (at_call_events p r xs qs) a b) same
    (subst (λ (l : List (Head × Term)). MakesCall o (called_with p r line xs l) (at_call_events p r xs l) a b) (after_is a ps qs h) made)

pub own_arguments : (a : Arena) (ts : List code_argument.Argument) (xs : List argument.Argument) → AreArguments a ts xs → AreArguments a ts (map (argument_in a) ts)
own_arguments a ts xs h = subst (λ (l : List argument.Argument). AreArguments a ts l) (sym (arguments_are a ts xs h)) h
