-- Variables and classes with what stands in their places, as a caller gives them.
use Rattle.std.proofs.Common.{◌≡◌, ℕ, zero, suc, ◌+◌, ◌<◌, ◌≤◌, true, List, [], ◌∷◌, ◌++◌, get_or, drop, length, Result, Ok, Err, IsErrAnd, Some, refl, sym, ap, subst, ◌∙◌, arith}
use Rattle.std.proofs.lemmas.List.{drop_all, drop_more}
use Rattle.std.specs.Prelude.{⊤}
use Rattle.spv_logic.specs.declared.conditions.TermId.{TermId}
use Rattle.spv_logic.specs.declared.types.Sort.TheVariants as sort
use Rattle.spv_logic.specs.declared.operators.Head.{Head}
use Rattle.spv_logic.specs.declared.operators.Head.TheVariants as head
use Rattle.spv_logic.specs.Terms.{Term}
use Rattle.spv_logic.specs.Sorts.{head_in_range, term_sort, variable_sort}
use Rattle.spv_logic.specs.Substitution.{is_variable}
use Rattle.spv_term.specs.Arena.{Arena, Extends, tree}
use Rattle.spv_program.specs.Programs.{Program, Routine, shapes}
use Rattle.spv_program.specs.Scopes.{Scope}
use Rattle.spv_expression_terms.specs.term_walk.Laws.{HasNamesOf, variable_scope}
use Rattle.spv_program.specs.Terms.{truth}
use Rattle.spv_assign.specs.declared.creation_trace.faults.GenFault.{GenFault}
use Rattle.spv_assign.specs.creation_trace.Events.{Stops}
use Rattle.spv_assign.specs.creation_trace.StatementEvents.{pair_terms, several}
use Rattle.spv_assign.specs.limited_steps.Makes.{IsTerm}
use Rattle.spv_flow_parts.specs.calls.Arguments.{AddsPairs, AreAfter, FitHeads}
use Rattle.spv_flow_parts.proofs.calls.Building.{PairsSoFar, pairs_end, pairs_next, pairs_none, pairs_stop, pairs_stop_walk}
use Rattle.spv_flow_parts.proofs.Steps.{append_nil}
use Rattle.spv_flow_parts.proofs.calls.Passing.{AreAfter-Extends}

abbrev no_pair : Head × Term
no_pair = (head.True, truth true)

after_at : (a : Arena) (ps : List (Head × TermId)) (qs : List (Head × Term)) (place : ℕ) (d : Head × TermId) → AreAfter a ps qs → place < length ps
    → ((get_or ps place d).0 ≡ (get_or qs place no_pair).0) × IsTerm a (get_or ps place d).1 (get_or qs place no_pair).1
after_at a [] qs place d h low = absurd (omega (arith, low))
after_at a (p ∷ ps) [] place d h low = absurd h
after_at a (p ∷ ps) (q ∷ qs) zero d h low = (h.0, h.1.0)
after_at a (p ∷ ps) (q ∷ qs) (suc n) d h low = after_at a ps qs n d h.1.1 (let e : n < length ps = omega (arith, low) in e)

after_count : (a : Arena) (ps : List (Head × TermId)) (qs : List (Head × Term)) → AreAfter a ps qs → length ps ≡ length qs
after_count a [] [] h = refl
after_count a (p ∷ ps) (q ∷ qs) h = ap suc (after_count a ps qs h.1.1)
after_count a [] (q ∷ qs) h = absurd h
after_count a (p ∷ ps) [] h = absurd h

fit_at : (p : Program) (qs : List (Head × Term)) (place : ℕ) (d : Head × Term) → FitHeads p qs → place < length qs
    → (is_variable (get_or qs place d).0 ≡ true) × ((head_in_range (shapes p) (get_or qs place d).0 ≡ true) × (term_sort (shapes p) p.symbols (get_or qs place d).1 ≡ Some (variable_sort (get_or qs place d).0)))
fit_at p [] place d h low = absurd (omega (arith, low))
fit_at p (q ∷ qs) zero d h low = h.0
fit_at p (q ∷ qs) (suc n) d h low = fit_at p qs n d h.1 (let e : n < length qs = omega (arith, low) in e)

abbrev pub no_after : Head × TermId
no_after = (head.Var (record { 0 = 0 }) sort.Int 0, record { 0 = 0 })

-- a pair at a place
pub record AfterHere (a : Arena) (h : Head) (t : TermId) (qs : List (Head × Term)) (place : ℕ) : Type 0 where
  pub variable : is_variable h ≡ true
  pub range : head_in_range a.shapes h ≡ true
  pub there : t.0 < length a.nodes
  pub sort : term_sort a.shapes a.decls (tree a t) ≡ Some (variable_sort h)
  pub left : drop place qs ≡ ((h, tree a t) ∷ []) ++ drop (place + 1) qs

module _ (p : Program) (old a : Arena) (ps : List (Head × TermId)) (qs : List (Head × Term)) (shapes_are : old.shapes ≡ shapes p) (decls_are : old.decls ≡ p.symbols) (are : AreAfter old ps qs) (fit : FitHeads p qs) where
  pub after_here : (more : Extends old a) (place : ℕ) (d : Head × TermId) → place < length ps → AfterHere a (get_or ps place d).0 (get_or ps place d).1 qs place
  after_here more place d low =
      let q = get_or qs place no_pair in
      let here = after_at a ps qs place d (AreAfter-Extends more ps qs are) low in
      let count = after_count old ps qs are in
      let below : place < length qs = omega (arith, low, count) in
      let right = fit_at p qs place no_pair fit below in
      let same : (get_or ps place d).0 ≡ q.0 = here.0 in
      let term : tree a (get_or ps place d).1 ≡ q.1 = here.1.is_tree in
      let first = more.shapes ∙ shapes_are in
      let second = more.decls ∙ decls_are in
      record {
        variable = ap is_variable same ∙ right.0;
        range = (λ i. head_in_range (first i) (same i)) ∙ right.1.0;
        there = here.1.there;
        sort = (λ i. term_sort (first i) (second i) (term i)) ∙ right.1.1 ∙ ap (λ (k : Head). Some (variable_sort k)) (sym same);
        left = drop_more qs place no_pair below ∙ (λ i. (sym same i, sym term i) ∷ drop (place + 1) qs);
      }

  pub after_past : (place : ℕ) → length ps ≤ place → drop place qs ≡ []
  after_past place past = let count = after_count old ps qs are in drop_all place qs (omega (arith, past, count))

module _ (old a b : Arena) (qs : List (Head × Term)) (place : ℕ) (h : Head) (t : TermId) (start now : List (TermId × TermId)) (here : AfterHere a h t qs place) (so_far : PairsSoFar old a qs (drop place qs) start now) where
  split : PairsSoFar old a qs (((h, tree a t) ∷ []) ++ drop (place + 1) qs) start now
  split = subst (λ (l : List (Head × Term)). PairsSoFar old a qs l start now) here.left so_far

  pub after_next : (u : ⊤) (new : List (TermId × TermId)) → AddsPairs (Ok u) ((h, tree a t) ∷ []) a b now new → PairsSoFar old b qs (drop (place + 1) qs) start new
  after_next u new k = pairs_next old a b qs ((h, tree a t) ∷ []) (drop (place + 1) qs) start now split u new k

  pub after_stop : (o : Result ⊤ GenFault) (e : GenFault) (new last : List (TermId × TermId)) → IsErrAnd o (λ f. f ≡ e) → AddsPairs (Err e) ((h, tree a t) ∷ []) a b now new → AddsPairs o qs old b start last
  after_stop o e new last is k = pairs_stop old a b qs ((h, tree a t) ∷ []) (drop (place + 1) qs) start now split o e new last is k

-- ---- starts, INITIAL names and what a caller gives, one behind the other

pub names_as : (p q : Program) (r s : Routine) (names : Scope) → q ≡ p → s ≡ r → HasNamesOf names (variable_scope p (Some r)) → HasNamesOf names (variable_scope q (Some s))
names_as p q r s names e f h = subst (λ (x : Program). HasNamesOf names (variable_scope x (Some s))) (sym e) (subst (λ (x : Routine). HasNamesOf names (variable_scope p (Some x))) (sym f) h)

module _ (old : Arena) (starts initial after : List (Head × Term)) where
  abbrev all : List (Head × Term)
  all = starts ++ (initial ++ after)

  first : (start : List (TermId × TermId)) → start ≡ [] → PairsSoFar old old (starts ++ (initial ++ after)) (starts ++ (initial ++ after)) [] start
  first start none = pairs_none old all start none

  module _ (b : Arena) (start : List (TermId × TermId)) (none : start ≡ []) where
    pub starts_stop : (e : GenFault) → Stops e (several (pair_terms starts)) old b → Stops e (several (pair_terms (starts ++ (initial ++ after)))) old b
    starts_stop e stops = pairs_stop_walk old old b all starts (initial ++ after) [] start (first start none) e stops

    pub starts_put : (u : ⊤) (new : List (TermId × TermId)) → AddsPairs (Ok u) starts old b start new → PairsSoFar old b (starts ++ (initial ++ after)) (initial ++ after) [] new
    starts_put u new k = pairs_next old old b all starts (initial ++ after) [] start (first start none) u new k

  module _ (b c : Arena) (now : List (TermId × TermId)) (h : PairsSoFar old b (starts ++ (initial ++ after)) (initial ++ after) [] now) where
    pub initial_stops : (e : GenFault) → Stops e (several (pair_terms initial)) b c → Stops e (several (pair_terms (starts ++ (initial ++ after)))) old c
    initial_stops e stops = pairs_stop_walk old b c all initial after [] now h e stops

    pub initial_put : (u : ⊤) (new : List (TermId × TermId)) → AddsPairs (Ok u) initial b c now new → PairsSoFar old c (starts ++ (initial ++ after)) after [] new
    initial_put u new k = pairs_next old b c all initial after [] now h u new k

  module _ (c d : Arena) (now : List (TermId × TermId)) (h : PairsSoFar old c (starts ++ (initial ++ after)) after [] now) where
    last : PairsSoFar old c all (after ++ []) [] now
    last = subst (λ (l : List (Head × Term)). PairsSoFar old c all l [] now) (sym (append_nil after)) h

    pub after_stops : (e : GenFault) → Stops e (several (pair_terms after)) c d → Stops e (several (pair_terms (starts ++ (initial ++ after)))) old d
    after_stops e stops = pairs_stop_walk old c d all after [] [] now last e stops

    pub after_put : (u : ⊤) (new : List (TermId × TermId)) → AddsPairs (Ok u) after c d now new → AddsPairs (Ok u) (starts ++ (initial ++ after)) old d [] new
    after_put u new k = pairs_end all [] [] new refl (pairs_next old c d all after [] [] now last u new k) u
