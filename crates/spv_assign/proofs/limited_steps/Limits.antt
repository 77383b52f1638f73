-- What `make` makes, and the limit that it meets.
use Rattle.std.proofs.Common.{◌≡◌, ◌<◌, ◌+◌, ◌||◌, ℕ, Bool, true, false, List, [], ◌∷◌, ◌++◌, length, Result, Ok, Err, OnOk, OnErr, IfOk, IsErrAnd, IsSome, Some, IsTrue, refl, sym, ap, subst, ◌∙◌}
use Rattle.std.proofs.lemmas.Bool.{or_left, or_right}
use Rattle.spv_logic.specs.declared.conditions.TermId.{TermId}
use Rattle.spv_logic.specs.declared.operators.Head.{Head}
use Rattle.spv_logic.specs.Terms.{Term, term, terms, no_terms}
use Rattle.spv_logic.specs.declared.types.Sort.{Sort}
use Rattle.spv_logic.specs.Sorts.{result_sort}
use Rattle.spv_program.specs.Terms.{binary}
use Rattle.spv_term.specs.declared.nodes.TermFault.{TermFault}
use Rattle.spv_term.specs.declared.nodes.TermFault.TheVariants.{Size, Memory}
use Rattle.spv_term.specs.Arena.{Arena, IsArena, AllBelow, Extends, node, with_node, place_of, lacks_room, tree, trees, sort_at}
use Rattle.spv_term.proofs.ArenaLemmas.{tree-Extends, sort_at-Extends}
use Rattle.spv_term.specs.substitution.Parts.{is_part, is_part_of, AddsOnly, AddsParts, Lacks, LacksPart}
use Rattle.spv_term.proofs.substitution.PartLemmas.{is_part-refl, part_of_args}
use Rattle.spv_term.proofs.substitution.MakeLemmas.{adds_node, adds_nothing, lacks_tree}
use Rattle.spv_assign.specs.declared.creation_trace.faults.GenFault.{GenFault}
use Rattle.spv_assign.specs.creation_trace.Events.{Event, HasTerms, longest_list, Walked, MeetsLongList, Stops, Answers}
use Rattle.spv_assign.specs.creation_trace.StatementEvents.{one, several, counted}
use Rattle.spv_assign.proofs.creation_trace.Walks.{nothing_walked}
use Rattle.spv_assign.proofs.creation_trace.Covering.{AreCovered, covered_one, covered_answers, covered_stops}
use Rattle.spv_assign.specs.limited_steps.Makes.{IsTerm, Makes, fault_of}

append_nil : {X : Type 0} (xs : List X) → xs ++ [] ≡ xs
append_nil [] = refl
append_nil (x ∷ xs) = ap (λ l. x ∷ l) (append_nil xs)

-- ---- limits

module _ {X : Type 0} (old new : Arena) (ts : List Term) where
  pub limited_answers : (x : X) → Makes (Ok x) old new ts → Answers {X = X} (Ok x) (several ts) old new
  limited_answers x h = record {
    grows = h.grows;
    there = subst (HasTerms new) (sym (append_nil ts)) h.there;
    only = subst (AddsParts old new) (sym (append_nil ts)) h.only;
    lists = tt;
  }

  pub limited_stops : (r : Result X TermFault) (e : TermFault) (f : GenFault) (n : ℕ) → r ≡ Err e → f ≡ fault_of e n → n ≡ new.most → Makes r old new ts
      → Answers {X = X} (Err f) (several ts) old new
  limited_stops r e f n is told most h =
      subst (λ (g : GenFault). Stops g (several ts) old new) (sym told) (by e (subst (λ (s : Result X TermFault). Makes s old new ts) is h))
    where
      by : (e : TermFault) → Makes {X = X} (Err e) old new ts → Stops (fault_of e n) (several ts) old new
      by Size m = (
        most ∙ m.grows.most,
        record {
          first = several ts;
          after = [];
          parts = refl;
          lists = tt;
          grows = m.grows;
          only = subst (AddsParts old new) (sym (append_nil ts)) m.only;
          lacks = subst (LacksPart new) (sym (append_nil ts)) (m.size refl);
        },
      )
      by Memory m = tt

  pub limited_done : (r : Result X TermFault) (x : X) → r ≡ Ok x → Makes r old new ts → Answers {X = X} (Ok x) (several ts) old new
  limited_done r x is h = limited_answers x (subst (λ (s : Result X TermFault). Makes s old new ts) is h)

-- ---- making

pub only_part : (a b : Arena) (x : Term) → AddsOnly a b x → AddsParts a b (x ∷ [])
only_part a b x h = record { part = λ u low high. subst (λ y. is_part_of (x ∷ []) y ≡ true) (sym (h.each u low high)) (or_left (is_part x x) (is_part_of [] x) (is_part-refl x)) }

pub lacks_one : (a : Arena) (x : Term) → Lacks a x → LacksPart a (x ∷ [])
lacks_one a x h = record { missing = x; part = or_left (is_part x x) (is_part_of [] x) (is_part-refl x); lacks = h }

module _ (a b : Arena) (ok : IsArena a) (h : Head) (args : List TermId) (below : AllBelow (length a.nodes) args) where
  pub make_makes : (r : Result TermId TermFault)
      → IfOk r (λ t. t.0 ≡ place_of a.nodes (node h args))
      → OnOk r (b ≡ record a { nodes = with_node a.nodes (node h args) })
      → IfOk r (λ t. t.0 < length b.nodes)
      → IfOk r (λ t. tree b t ≡ term h (trees a args))
      → Extends a b
      → (r ≡ Err Size → IsTrue (lacks_room a (node h args)))
      → OnErr r (b ≡ a)
      → Makes r a b (term h (trees a args) ∷ [])
  make_makes (Ok t) id arena there is grows size same = record {
    grows = grows;
    there = (record { id = t; there = there; is_tree = is }, tt);
    only = only_part a b (term h (trees a args)) (adds_node a b (node h args) arena t (term h (trees a args)) id is);
    size = λ e. cc;
  }
  make_makes (Err e) id arena there is grows size same = record {
    grows = grows;
    there = tt;
    only = only_part a b (term h (trees a args)) (adds_nothing a b (term h (trees a args)) same);
    size = λ f. subst (λ (s : Arena). LacksPart s (term h (trees a args) ∷ [])) (sym same) (lacks_one a (term h (trees a args)) (lacks_tree a ok h args below (size f)));
  }

  pub make_term : (t : TermId) → t.0 < length b.nodes → tree b t ≡ term h (trees a args) → IsTerm b t (term h (trees a args))
  make_term t there is = record { there = there; is_tree = is }

-- ---- lists

pub too_long : {X : Type 0} (xs ys : List X) (a : Arena) → longest_list < length xs + length ys → MeetsLongList (counted (length xs + length ys)) a a
too_long xs ys a h = record { before = []; length = length xs + length ys; after = []; parts = refl; walked = nothing_walked a; too_long = h }

-- ---- a head over a numeral

-- an argument in the second place is a part
second_part : (h : Head) (s t x : Term) → is_part x t ≡ true → is_part x (binary h s t) ≡ true
second_part h s t x e = part_of_args x h (terms s (terms t no_terms)) (second (is_part x s))
  where
    second : (b : Bool) → (b || (is_part x t || false)) ≡ true
    second b = or_right b _ (or_left (is_part x t) false e)

pub second_covered : (h : Head) (s t : Term) → AreCovered (t ∷ []) (binary h s t ∷ [])
second_covered h s t = covered_one t (binary h s t) (second_part h s t t (is_part-refl t))

-- an argument in the first place is a part
pub first_covered : (h : Head) (s t : Term) → AreCovered (s ∷ []) (binary h s t ∷ [])
first_covered h s t = covered_one s (binary h s t) (part_of_args s h (terms s (terms t no_terms)) (or_left (is_part s s) _ (is_part-refl s)))

pub if_ok : {T E : Type 0} {P Q : T → Type 0} (r : Result T E) → IfOk r P → ((t : T) → P t → Q t) → IfOk r Q
if_ok (Ok t) p go = go t p
if_ok (Err e) p go = tt

module _ (a b : Arena) (h : Head) (v z : TermId) (number : Term) (grows : Extends a b) (there : v.0 < length a.nodes) (is : IsTerm b z number) where
  same_sides : binary h (tree b v) (tree b z) ≡ binary h (tree a v) number
  same_sides = let first = tree-Extends grows v there in let second = is.is_tree in λ i. binary h (first i) (second i)

  pub over_term : (r : Result TermId GenFault) (c : Arena) → IfOk r (λ u. IsTerm c u (binary h (tree b v) (tree b z))) → IfOk r (λ u. IsTerm c u (binary h (tree a v) number))
  over_term r c made = if_ok r made (λ u m. record { there = m.there; is_tree = m.is_tree ∙ same_sides })

  pub over_walk : {X : Type 0} (r : Result X GenFault) (c : Arena) → Walked (one number) a b → Answers r (one (binary h (tree b v) (tree b z))) b c → Answers r (one (binary h (tree a v) number)) a c
  over_walk r c first rest =
      covered_answers (one number) refl (binary h (tree a v) number ∷ []) (second_covered h (tree a v) number) r a b c first
      (subst (λ (t : Term). Answers r (one t) b c) same_sides rest)

  pub over_sorts : (s u : Sort) → sort_at a v ≡ s → sort_at b z ≡ u → sort_at b v ∷ sort_at b z ∷ [] ≡ s ∷ u ∷ []
  over_sorts s u first second = let stays = sort_at-Extends grows v there ∙ first in λ i. stays i ∷ second i ∷ []

pub stops_at_number : (h : Head) (v number : Term) (e : GenFault) (a b : Arena) → Stops e (one number) a b → Stops e (one (binary h v number)) a b
stops_at_number h v number e a b stops = covered_stops (one number) refl (binary h v number ∷ []) (second_covered h v number) e a b stops

pub same_stop : {X : Type 0} (r : Result X GenFault) (e : GenFault) (xs : List Event) (a b : Arena) → IsErrAnd r (λ f. f ≡ e) → Stops e xs a b → Answers r xs a b
same_stop (Ok x) e xs a b is h = absurd is
same_stop (Err f) e xs a b is h = subst (λ (g : GenFault). Stops g xs a b) (sym is) h

-- sorts that fit a head, in an arena that grew
pub sorts_fit : (a b : Arena) (h : Head) (given other : List Sort) → Extends a b → other ≡ given → IsSome (result_sort a.shapes a.decls h given) → IsSome (result_sort b.shapes b.decls h other)
sorts_fit a b h given other grows same fits =
    let shapes = grows.shapes in
    let decls = grows.decls in
    subst IsSome (λ i. result_sort (sym shapes i) (sym decls i) h (sym same i)) fits

pub sort_from : (s t : Sort) → Some s ≡ Some t → t ≡ s
sort_from s t e = cc
