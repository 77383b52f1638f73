-- Annotations with what stands for parameters, starts and INITIAL names in their places.
use Rattle.std.proofs.Common.{◌≡◌, ℕ, suc, ◌<◌, Bool, true, false, nat_eq, List, [], ◌∷◌, ◌++◌, length, Result, Ok, Err, IfOk, IsErrAnd, None, refl, sym, ap, subst, ◌∙◌, arith}
use Rattle.std.proofs.lemmas.Bool.Decides.{nat_tests}
use Rattle.spv_logic.specs.declared.conditions.TermId.{TermId}
use Rattle.spv_logic.specs.declared.operators.Head.{Head}
use Rattle.spv_logic.specs.Terms.{Term, Terms, term, terms, no_terms}
use Rattle.spv_logic.specs.Substitution.{is_variable, replaced, replacement_at, substitute, substitute_all}
use Rattle.spv_term.specs.declared.nodes.TermFault.{TermFault}
use Rattle.spv_term.specs.declared.nodes.TermFault.TheVariants.{Size}
use Rattle.spv_term.specs.Arena.{Arena, Extends, tree}
use Rattle.spv_term.proofs.ArenaLemmas.{Extends-refl, Extends-trans}
use Rattle.spv_term.specs.substitution.Images.{pairs_at, substituted}
use Rattle.spv_term.specs.substitution.Parts.{AddsParts, LacksPart}
use Rattle.spv_program.specs.Calls.{replacing}
use Rattle.spv_assign.specs.Conditions.{pairs_of}
use Rattle.spv_assign.proofs.Replacing.{replacing-is}
use Rattle.spv_assign.specs.declared.creation_trace.faults.GenFault.{GenFault}
use Rattle.spv_assign.specs.creation_trace.Events.{Answers, Event, Stops, Walked}
use Rattle.spv_assign.specs.creation_trace.StatementEvents.{in_order, one, pair_terms, several}
use Rattle.spv_assign.proofs.creation_trace.Walks.{nothing_walked}
use Rattle.spv_assign.specs.limited_steps.Makes.{IsTerm, Makes}
use Rattle.spv_assign.proofs.limited_steps.Limits.{same_stop}
use Rattle.spv_flow_parts.specs.Walks.{MakesTerm}
use Rattle.spv_flow_parts.specs.calls.Arguments.{MakesBy}
use Rattle.spv_flow_parts.specs.calls.Events.{replaced_events}
use Rattle.spv_flow_parts.proofs.Steps.{IsTerm-Extends, answered_on, append_nil, stopped_at, went}
use Rattle.spv_flow_parts.proofs.Terms.{term_made}
use Rattle.spv_flow_parts.proofs.calls.Building.{there_already}

-- ---- no pairs

none_at : (b : Bool) → replacement_at b None ≡ None
none_at true = refl
none_at false = refl

mutual
  nothing_replaced : (t : Term) → substitute (replacing []) t ≡ t
  nothing_replaced (term h ts) = (λ i. replaced (none_at (is_variable h) i) (term h (substitute_all (replacing []) ts))) ∙ ap (term h) (nothing_in_all ts)

  nothing_in_all : (ts : Terms) → substitute_all (replacing []) ts ≡ ts
  nothing_in_all no_terms = refl
  nothing_in_all (terms t ts) = let first = nothing_replaced t in let others = nothing_in_all ts in λ i. terms (first i) (others i)

is_empty : {X : Type 0} (xs : List X) → nat_eq (length xs) 0 ≡ true → xs ≡ []
is_empty [] e = refl
is_empty (x ∷ xs) e = absurd (some (length xs) e)
  where
    some : (n : ℕ) → nat_eq (suc n) 0 ≡ true → ⊥
    some n e = grind (arith, nat_tests)

pub without_pairs : (a : Arena) (t : TermId) (pairs : List (TermId × TermId)) → t.0 < length a.nodes → nat_eq (length pairs) 0 ≡ true → MakesTerm (Ok t) (substitute (replacing (pairs_of a pairs)) (tree a t)) a a
without_pairs a t pairs there e =
    let same : substitute (replacing (pairs_of a pairs)) (tree a t) ≡ tree a t =
    ap (λ (ps : List (TermId × TermId)). substitute (replacing (pairs_of a ps)) (tree a t)) (is_empty pairs e) ∙ nothing_replaced (tree a t) in
    let is : IsTerm a t (substitute (replacing (pairs_of a pairs)) (tree a t)) = record { there = there; is_tree = sym same } in
    record { grows = Extends-refl a; walk = there_already a t (substitute (replacing (pairs_of a pairs)) (tree a t)) is; term = is }

-- ---- pairs

pub pairs_put : (a b : Arena) (t : TermId) (pairs : List (TermId × TermId)) (r : Result TermId TermFault) (s : Result TermId GenFault)
    → IfOk r (λ u. tree b u ≡ substitute (pairs_at a pairs) (tree a t)) → IfOk r (λ u. u.0 < length b.nodes) → Extends a b → AddsParts a b (substituted a pairs (t ∷ []))
    → (r ≡ Err Size → LacksPart b (substituted a pairs (t ∷ []))) → IfOk s (λ u. r ≡ Ok u) → ((old : Arena) (ts : List Term) → Makes r old b ts → Answers s (several ts) old b)
    → MakesTerm s (substitute (replacing (pairs_of a pairs)) (tree a t)) a b
pairs_put a b t pairs r s is there grows only size told walk =
    term_made a b (substitute (pairs_at a pairs) (tree a t)) (substitute (replacing (pairs_of a pairs)) (tree a t)) (ap (λ by. substitute by (tree a t)) (replacing-is a pairs)) r s is there grows only size told walk

-- ---- terms by steps

module _ (r : Result TermId GenFault) (x : Term) where
  -- nothing comes of a step that stops
  pub stops_by : (e : GenFault) (done : List (List Event)) (now : List Event) (rest : List (List Event)) {a b c : Arena} → IsErrAnd r (λ f. f ≡ e) → Walked (in_order done) a b → Extends b c → Stops e now b c
      → MakesBy r x (in_order (done ++ now ∷ rest)) a c
  stops_by e done now rest {a} {b} {c} is first grows stops = record {
    grows = Extends-trans first.grows grows;
    walk = same_stop r e (in_order (done ++ now ∷ rest)) a c is (stopped_at done now rest e a b c first stops);
    term = none r is;
  }
    where
      none : (r : Result TermId GenFault) → IsErrAnd r (λ f. f ≡ e) → IfOk r (λ t. IsTerm c t x)
      none (Ok t) h = absurd h
      none (Err f) h = tt

  pub made_by : (done : List (List Event)) {a b c : Arena} → Walked (in_order done) a b → MakesTerm r x b c → MakesBy r x (in_order (done ++ one x ∷ [])) a c
  made_by done {a} {b} {c} first h = record {
    grows = Extends-trans first.grows h.grows;
    walk = answered_on r done (one x ∷ []) a b c first (subst (λ (l : List Event). Answers r l b c) (sym (append_nil (one x))) h.walk);
    term = h.term;
  }

-- ---- a term with pairs in it

module _ (x : Term) (qs : List (Head × Term)) where
  pub first_stops : (r : Result TermId GenFault) (e : GenFault) (a b : Arena) → IsErrAnd r (λ f. f ≡ e) → MakesTerm (Err e) x a b → MakesBy r (substitute (replacing qs) x) (replaced_events x qs) a b
  first_stops r e a b is h =
      stops_by r (substitute (replacing qs) x) e [] (one x) (several (pair_terms qs) ∷ one (substitute (replacing qs) x) ∷ []) is (nothing_walked a) h.grows h.walk

  module _ (a b : Arena) (f : TermId) (h : MakesTerm (Ok f) x a b) where
    begun : Walked (in_order (one x ∷ [])) a b
    begun = went [] (one x) (nothing_walked a) h.walk

    pub pairs_stop_in : (r : Result TermId GenFault) (e : GenFault) (c : Arena) → IsErrAnd r (λ f. f ≡ e) → Extends b c → Stops e (several (pair_terms qs)) b c → MakesBy r (substitute (replacing qs) x) (replaced_events x qs) a c
    pairs_stop_in r e c is grows stops = stops_by r (substitute (replacing qs) x) e (one x ∷ []) (several (pair_terms qs)) (one (substitute (replacing qs) x) ∷ []) is begun grows stops

    pub put_in : (r : Result TermId GenFault) (c d : Arena) (pairs : List (TermId × TermId)) → Walked (several (pair_terms qs)) b c → pairs_of c pairs ≡ qs
        → MakesTerm r (substitute (replacing (pairs_of c pairs)) (tree c f)) c d → MakesBy r (substitute (replacing qs) x) (replaced_events x qs) a d
    put_in r c d pairs walked are made =
        let later = IsTerm-Extends f x walked.grows h.term in
        let same : substitute (replacing (pairs_of c pairs)) (tree c f) ≡ substitute (replacing qs) x = let term = later.is_tree in λ i. substitute (replacing (are i)) (term i) in
        made_by r (substitute (replacing qs) x) (one x ∷ several (pair_terms qs) ∷ []) (went (one x ∷ []) (several (pair_terms qs)) begun walked)
        (subst (λ (y : Term). MakesTerm r y c d) same made)
