-- The atoms of a search are relations enough.
use Rattle.std.proofs.Common.{◌≡◌, ℕ, zero, suc, ◌<◌, Bool, true, false, cond, not, ◌&&◌, ◌||◌, List, [], ◌∷◌, ◌++◌, map, length, nat_eq, refl, sym, ap, ◌∙◌, subst, Option, Some, None, inl, inr}
use Rattle.std.specs.Prelude.{slice_get, is_some, ◌⊎◌}
use Rattle.std.specs.List.{flat_map}
use Rattle.std.specs.Cmp.Derive.{both_true}
use mathlib.Core.Path.{ap₂}
use Rattle.std.proofs.lemmas.Bool.{false≢true}
use Rattle.std.proofs.lemmas.Option.{slice_get_within, same_Some}
use Rattle.spv_logic.proofs.list.Tests.{left_true, right_true}
use Rattle.spv_logic.specs.declared.types.Sort.{Sort}
use Rattle.spv_logic.specs.declared.types.Sort.TheVariants as sort
use Rattle.spv_logic.specs.declared.types.Shape.{Shape}
use Rattle.spv_logic.specs.declared.types.Decl.{Decl}
use Rattle.spv_logic.specs.declared.conditions.TermId.{TermId}
use Rattle.spv_logic.specs.declared.operators.Head.{Head}
use Rattle.spv_logic.specs.declared.operators.Head.TheVariants as head
use Rattle.spv_logic.specs.Terms.{Term, Terms, term, no_terms, terms, term_eq, head_eq, sort_eq}
use Rattle.spv_logic.specs.Formulas.{equation}
use Rattle.spv_logic.specs.Sorts.{term_sort, term_sorts, with_sorts, result_sort}
use Rattle.spv_logic.proofs.Equality.{head_eq-true, sort_eq-true, term_eq-refl, term_eq-true}
use Rattle.spv_logic.proofs.Sorting.{taken}
use Rattle.spv_term.specs.declared.nodes.Node.{Node}
use Rattle.spv_term.specs.Arena.{AllBelow, Arena, IsArena, sort_at, sorts_at, tree, trees}
use Rattle.spv_tableau_rules.proofs.pivots.Sums.{eq_self}
use Rattle.spv_term.proofs.ArenaLemmas.{HasOneId-arena, args_in_range, sort-node, term_sort-tree, tree-node}
use Rattle.spv_congruence.specs.Keep.{IsNode}
use Rattle.spv_congruence.specs.Told.{argument, IsPart, whole}
use Rattle.spv_atoms.specs.Atoms.{has_sort, is_atom, is_connective, is_truth_value, only_if, with_term, with_terms}
use Rattle.spv_atoms.specs.Atoms as atoms
use Rattle.spv_atoms.specs.Order.{passing}
use Rattle.spv_atoms.proofs.Members.{has, has-parts, has-right, has-with_terms, or_cases, or_left, or_right, with_terms-has}
use Rattle.spv_derivations.specs.declared.derivation.entries.Part.TheVariants.{True}
use Rattle.spv_derivations.specs.derivation.Derived.{is_number, is_truth}
use Rattle.spv_derivations.specs.derivation.Literals.{Literal}
use Rattle.spv_derivations.specs.derivation.Sides.{Pair}
use Rattle.spv_tableau_rules.specs.constraints.Relations.{number_sides}
use Rattle.spv_explanations.specs.congruence_side.Telling.{equation_sides}
use Rattle.spv_explanations.proofs.congruence_side.Ties.{has-sides, sides-node, sides-tree}
use Rattle.spv_models.specs.leaf_models.Subterms.{arguments, is_among, is_listed, is_plain, list_of, subterms, truth_arguments}
use Rattle.spv_models.specs.leaf_models.Atoms.{all_equations, are_comparable, argument_equations, equations_of, is_open, pair_equations, questions, same_sorts}
use Rattle.spv_models.specs.leaf_models.Atoms as search
use Rattle.spv_models.proofs.leaf_models.Closed.{with_term-parts}
use Rattle.spv_models.proofs.leaf_models.Covering.{atoms-are, atoms-over, equation-atom, part-arguments}
use Rattle.spv_models.proofs.leaf_models.Lookups.{has-passing, passing-parts}
use Rattle.spv_models.proofs.leaf_models.Pairs.{AreAmong, AreOne, ArePaired, comparable, IsEarlier, IsLater, paired}
use Rattle.spv_models.proofs.leaf_models.Values.{sort_known}
use Rattle.spv_share.specs.declared.relations.Related.{Related}
use Rattle.spv_share.specs.declared.both.Both.{Both}
use Rattle.spv_share.specs.Relations.{IsListed, IsPartOf, IsRelation}
use Rattle.spv_share.specs.Both.{IsBoth, told}
use Rattle.spv_share.specs.combination_laws.Pairs.{AreEnough, HasEquality}
use Rattle.spv_share.specs.combination_laws.Enough.{IsOver, IsSearch}

-- ---- members

with_terms-parts : {A : Type 0} (xs ts : List Term) (u : Term) → has (with_terms xs ts) u ≡ true → (has xs u ≡ true → A) → (has ts u ≡ true → A) → A
with_terms-parts xs [] u h f g = f h
with_terms-parts xs (t ∷ ts) u h f g =
    with_terms-parts (with_term xs t) ts u h
    (λ k. with_term-parts xs t u k f (λ e. g (or_left (term_eq u t) (has ts u) (ap (term_eq u) (sym e) ∙ term_eq-refl u))))
    (λ k. g (or_right (term_eq u t) (has ts u) k))

record IsOfOne (f : Term → List Term) (ts : List Term) (e : Term) : Type 0 where
  origin : Term
  among : has ts origin ≡ true
  there : has (f origin) e ≡ true

flat_map-parts : (f : Term → List Term) (ts : List Term) (e : Term) → has (flat_map f ts) e ≡ true → IsOfOne f ts e
flat_map-parts f [] e h = absurd (false≢true h)
flat_map-parts f (t ∷ ts) e h =
    has-parts (f t) (flat_map f ts) e h (λ k. record { origin = t; among = or_left (term_eq t t) (has ts t) (term_eq-refl t); there = k })
    (λ k. let o = flat_map-parts f ts e k in record { origin = o.origin; among = or_right (term_eq o.origin t) (has ts o.origin) o.among; there = o.there })

-- a term among those of ids
record IsAt (a : Arena) (ts : List TermId) (e : Term) : Type 0 where
  place : ℕ
  id : TermId
  there : slice_get ts place ≡ Some id
  is : tree a id ≡ e

at_id : (a : Arena) (ts : List TermId) (e : Term) → has (map (tree a) ts) e ≡ true → IsAt a ts e
at_id a [] e h = absurd (false≢true h)
at_id a (t ∷ ts) e h =
    or_cases (term_eq e (tree a t)) (has (map (tree a) ts) e) h (λ k. record { place = 0; id = t; there = refl; is = sym (term_eq-true e (tree a t) k) })
    (λ k. let r = at_id a ts e k in record { place = suc r.place; id = r.id; there = r.there; is = r.is })

abbrev pair_of : Term → Term → Term × Term
pair_of x y = (x, y)

-- ---- comparable terms

module _ (shapes : List Shape) (decls : List Decl) where
  sorts_equal : (o p : Option (List Sort)) → same_sorts o p ≡ true → (is_some o ≡ true) × (o ≡ p)
  sorts_equal None p h = absurd (false≢true h)
  sorts_equal (Some ss) None h = absurd (false≢true h)
  sorts_equal (Some ss) (Some ts) h = (refl, ap Some (taken ss ts sort.Bool sort.Bool (ap (λ b. cond b (Some sort.Bool) None) h)).wanted_is)

  some_as : (o p : Option (List Sort)) → o ≡ p → is_some o ≡ true → is_some p ≡ true
  some_as o p e h = ap (λ (q : Option (List Sort)). is_some q) (sym e) ∙ h

  swapped : (b c : Bool) → (b || c) ≡ true → (c || b) ≡ true
  swapped true true h = refl
  swapped true false h = refl
  swapped false true h = refl
  swapped false false h = h

  flip_same : (h : Head) (ss us : Terms) → are_comparable shapes decls (term h ss) (term h us) ≡ true → are_comparable shapes decls (term h us) (term h ss) ≡ true
  flip_same h ss us c =
      let rest = right_true (head_eq h h) (same_sorts (term_sorts shapes decls ss) (term_sorts shapes decls us) && (is_listed (term h ss) || is_listed (term h us))) c in
      let sorts = sorts_equal (term_sorts shapes decls ss) (term_sorts shapes decls us) (left_true (same_sorts (term_sorts shapes decls ss) (term_sorts shapes decls us)) (is_listed (term h ss) || is_listed (term h us)) rest) in
      comparable shapes decls h us ss (some_as (term_sorts shapes decls ss) (term_sorts shapes decls us) sorts.1 sorts.0) (sym sorts.1)
      (swapped (is_listed (term h ss)) (is_listed (term h us)) (right_true (same_sorts (term_sorts shapes decls ss) (term_sorts shapes decls us)) (is_listed (term h ss) || is_listed (term h us)) rest))

  heads_are : (h k : Head) (ss us : Terms) → are_comparable shapes decls (term h ss) (term k us) ≡ true → h ≡ k
  heads_are h k ss us c = head_eq-true h k (left_true (head_eq h k) (same_sorts (term_sorts shapes decls ss) (term_sorts shapes decls us) && (is_listed (term h ss) || is_listed (term k us))) c)

  flip : (s t : Term) → are_comparable shapes decls s t ≡ true → are_comparable shapes decls t s ≡ true
  flip (term h ss) (term k us) c =
      let P : Head → Type 0 = λ q. are_comparable shapes decls (term h ss) (term q us) ≡ true → are_comparable shapes decls (term q us) (term h ss) ≡ true in
      subst P (heads_are h k ss us c) (flip_same h ss us) c

  -- they have one sort
  number_too : (s t : Term) → are_comparable shapes decls s t ≡ true → atoms.is_number shapes decls s ≡ true → atoms.is_number shapes decls t ≡ true
  number_too (term h ss) (term k us) c n =
      let rest = right_true (head_eq h k) (same_sorts (term_sorts shapes decls ss) (term_sorts shapes decls us) && (is_listed (term h ss) || is_listed (term k us))) c in
      let sorts = sorts_equal (term_sorts shapes decls ss) (term_sorts shapes decls us) (left_true (same_sorts (term_sorts shapes decls ss) (term_sorts shapes decls us)) (is_listed (term h ss) || is_listed (term k us)) rest) in
      ap₂ (λ o g. has_sort sort.Int (with_sorts o (result_sort shapes decls g))) (sym sorts.1) (sym (heads_are h k ss us c)) ∙ n

  -- the equation of two that are whole numbers is among theirs
  own : (s t : Term) → are_comparable shapes decls s t ≡ true → atoms.is_number shapes decls s ≡ true → has (pair_equations shapes decls s t) (equation s t) ≡ true
  own (term h ss) (term k us) c n =
      ap (λ b. has (cond b (equations_of shapes decls (term h ss) (term k us)) []) (equation (term h ss) (term k us))) c
      ∙ has-right (argument_equations (atoms.is_truth shapes decls) ss us) (only_if (atoms.is_number shapes decls (term h ss)) (equation (term h ss) (term k us))) (equation (term h ss) (term k us))
      (ap (λ b. has (only_if b (equation (term h ss) (term k us))) (equation (term h ss) (term k us))) n
      ∙ or_left (term_eq (equation (term h ss) (term k us)) (equation (term h ss) (term k us))) false (term_eq-refl (equation (term h ss) (term k us))))

-- no term is both a number and a truth value
not_both : (o : Option Sort) → has_sort sort.Bool o ≡ true → has_sort sort.Int o ≡ true → ⊥
not_both None h k = false≢true h
not_both (Some r) h k = clash (sym (sort_eq-true r sort.Bool h) ∙ sort_eq-true r sort.Int k)
  where
    clash : sort.Bool ≡ sort.Int → ⊥
    clash e = cc

not_in : (xs : List Term) (u : Term) → xs ≡ [] → has xs u ≡ true → ⊥
not_in xs u e h = false≢true (ap (λ ys. has ys u) (sym e) ∙ h)

-- ---- parts of atoms

module _ (a : Arena) (ok : IsArena a) where
  in_list : (us : List TermId) (i : ℕ) (u : TermId) → slice_get us i ≡ Some u → is_among (list_of (trees a us)) (tree a u) ≡ true
  in_list [] i u e = absurd (cc)
  in_list (v ∷ us) zero u e = or_left (term_eq (tree a u) (tree a v)) (has (list_of (trees a us)) (tree a u)) (ap (λ (x : TermId). term_eq (tree a u) (tree a x)) (same_Some v u e) ∙ term_eq-refl (tree a u))
  in_list (v ∷ us) (suc i) u e = or_right (term_eq (tree a u) (tree a v)) (has (list_of (trees a us)) (tree a u)) (in_list us i u e)

  argument_in : (x u : TermId) (n : Node) (i : ℕ) → slice_get a.nodes x.0 ≡ Some n → slice_get n.args i ≡ Some u → is_among (arguments (tree a x)) (tree a u) ≡ true
  argument_in x u n i at arg = ap (λ t. is_among (arguments t) (tree a u)) (tree-node a ok x n at) ∙ in_list n.args i u arg

  -- a term without arguments has no other part
  part_of_constant : (q : Head) (w u : TermId) → tree a w ≡ term q no_terms → IsPart a w u → tree a u ≡ term q no_terms
  part_of_constant q w _ e whole = e
  part_of_constant q w _ e (argument x n i u p at arg) =
      absurd (not_in (arguments (tree a x)) (tree a u) (ap arguments (part_of_constant q w x e p)) (argument_in x u n i at arg))

  truth_no_number : (q : Head) (t : Term) → t ≡ term q no_terms → has_sort sort.Bool (term_sort a.shapes a.decls (term q no_terms)) ≡ true → is_number a t ≡ true → ⊥
  truth_no_number q t e b n = not_both (term_sort a.shapes a.decls (term q no_terms)) b (ap (λ x. is_number a x) (sym e) ∙ n)

  -- the sides of an equation are of one sort
  side_too : (t : TermId) (p : Pair) → t.0 < length a.nodes → equation_sides a t ≡ Some p → is_number a (tree a p.0) ≡ true → is_number a (tree a p.1) ≡ true
  side_too t p inside e n =
      let h = has-sides a t p (sides-node a t p e) in
      let below = subst (λ xs. AllBelow (length a.nodes) xs) h.args (args_in_range a ok t h.node h.at) in
      let node : result_sort a.shapes a.decls head.Eq (sort_at a p.0 ∷ sort_at a p.1 ∷ []) ≡ Some (sort_at a t) =
      subst (λ xs. result_sort a.shapes a.decls head.Eq (sorts_at a xs) ≡ Some (sort_at a t)) h.args (subst (λ q. result_sort a.shapes a.decls q (sorts_at a h.node.args) ≡ Some (sort_at a t)) h.head (sort-node a ok t h.node h.at)) in
      let same : sort_at a p.0 ≡ sort_at a p.1 = second (sort_at a p.0) (sort_at a p.1) (taken (sort_at a p.0 ∷ sort_at a p.0 ∷ []) (sort_at a p.0 ∷ sort_at a p.1 ∷ []) sort.Bool (sort_at a t) node).wanted_is in
      ap (has_sort sort.Int) (term_sort-tree a ok (tree a p.1) p.1 below.1.0 refl)
      ∙ (ap (λ r. has_sort sort.Int (Some r)) (sym same) ∙ (ap (has_sort sort.Int) (sym (term_sort-tree a ok (tree a p.0) p.0 below.0 refl)) ∙ n))
    where
      second : (x y : Sort) → (x ∷ x ∷ []) ≡ (x ∷ y ∷ []) → x ≡ y
      second x y f = cc

-- ---- both sides over the atoms of a search

module _ (a : Arena) (ok : IsArena a) (b : Both) (h : IsBoth a b) (ts : List TermId) (fs : List Term) (over : IsOver a b ts) (is : IsSearch a b ts fs) where
  part_of_atom : (w u : TermId) → is_among (search.atoms a.shapes a.decls fs) (tree a w) ≡ true → IsPart a w u → (tree a u ≡ tree a w) ⊎ (is_among (subterms fs) (tree a u) ≡ true)
  part_of_atom w _ m whole = inl refl
  part_of_atom w _ m (argument x n i u p at arg) = elim (part_of_atom w x m p) [
    | inl e ↦ inr (atoms-over a.shapes a.decls fs is.formulas (tree a x) (tree a u) (ap (is_among (search.atoms a.shapes a.decls fs)) e ∙ m) (argument_in a ok x u n i at arg))
    | inr k ↦ inr (part-arguments a.shapes a.decls fs is.formulas (tree a x) (tree a u) k (argument_in a ok x u n i at arg))
  ]

  no_number : (w u : TermId) → is_among (search.atoms a.shapes a.decls fs) (tree a w) ≡ true → tree a u ≡ tree a w → is_number a (tree a u) ≡ true → ⊥
  no_number w u m e n =
      let atom : is_atom (is_truth a) (tree a w) ≡ true = atoms-are a.shapes a.decls fs is.formulas (tree a w) m in
      not_both (term_sort a.shapes a.decls (tree a w)) (left_true (is_truth a (tree a w)) (not (is_connective (is_truth a) (tree a w)) && not (is_truth_value (tree a w))) atom) (ap (λ x. is_number a x) (sym e) ∙ n)

  -- a whole number of the graph is a subterm
  number_among : (u : TermId) → IsNode b.trail.graph.nodes u → is_number a (tree a u) ≡ true → is_among (subterms fs) (tree a u) ≡ true
  number_among u node n = by_place (over.parts.each u node).place (over.parts.each u node).whole (over.parts.each u node).there (over.parts.each u node).part
    where
      by_place : (k : ℕ) (w : TermId) → slice_get (b.trail.truth ∷ b.trail.falsity ∷ ts) k ≡ Some w → IsPart a w u → is_among (subterms fs) (tree a u) ≡ true
      by_place zero w at p =
          absurd (truth_no_number a ok head.True (tree a u) (part_of_constant a ok head.True w u (ap (tree a) (sym (same_Some b.trail.truth w at)) ∙ h.sound.trail.truth.is) p) refl n)
      by_place (suc zero) w at p =
          absurd (truth_no_number a ok head.False (tree a u) (part_of_constant a ok head.False w u (ap (tree a) (sym (same_Some b.trail.falsity w at)) ∙ h.sound.trail.falsity.is) p) refl n)
      by_place (suc (suc k)) w at p = elim (part_of_atom w u (is.atoms_only k w at) p) [ inl e ↦ absurd (no_number w u (is.atoms_only k w at) e n) | inr m ↦ m ]

  -- an equation of whole numbers among the atoms is among the relations
  equality_of : (s t : Term) → is_number a s ≡ true → is_number a t ≡ true → is_among (search.atoms a.shapes a.decls fs) (equation s t) ≡ true → HasEquality a b.relations.items s t
  equality_of s t ns nt m =
      let k = at_id a ts (equation s t) (is.atoms_in (equation s t) m) in
      let sides : number_sides (is_number a) (tree a k.id) ≡ Some (pair_of s t) = ap (number_sides (is_number a)) k.is ∙ ap (λ c. cond c (Some (pair_of s t)) None) (both_true ns nt) in
      let l = over.listed.each k.place k.id (pair_of s t) k.there sides in
      let rel = h.sound.related.are.each l.row l.relation l.there in
      let e : term l.relation.head (terms (tree a l.relation.left) (terms (tree a l.relation.right) no_terms)) ≡ equation s t = sym rel.is ∙ (ap (tree a) l.is ∙ k.is) in
      record {
        row = l.row;
        relation = l.relation;
        there = l.there;
        equality = head_same l.relation.head (tree a l.relation.left) (tree a l.relation.right) e;
        sides = inl (left_same l.relation.head (tree a l.relation.left) (tree a l.relation.right) e, right_same l.relation.head (tree a l.relation.left) (tree a l.relation.right) e);
      }
    where
      head_same : (q : Head) (x y : Term) → term q (terms x (terms y no_terms)) ≡ equation s t → q ≡ head.Eq
      head_same q x y e = cc

      left_same : (q : Head) (x y : Term) → term q (terms x (terms y no_terms)) ≡ equation s t → x ≡ s
      left_same q x y e = cc

      right_same : (q : Head) (x y : Term) → term q (terms x (terms y no_terms)) ≡ equation s t → y ≡ t
      right_same q x y e = cc

  turned : (s t : Term) → HasEquality a b.relations.items t s → HasEquality a b.relations.items s t
  turned s t q = record { row = q.row; relation = q.relation; there = q.there; equality = q.equality; sides = elim q.sides [ inl p ↦ inr p | inr p ↦ inl p ] }

  of_pair : (s t : Term) → AreAmong (all_equations a.shapes a.decls (subterms fs)) (pair_equations a.shapes a.decls s t) → are_comparable a.shapes a.decls s t ≡ true → is_number a s ≡ true → HasEquality a b.relations.items s t
  of_pair s t among c n =
      equality_of s t n (number_too a.shapes a.decls s t c n)
      (with_terms-has (passing (is_atom (is_truth a)) (subterms fs)) (all_equations a.shapes a.decls (subterms fs)) (equation s t) (among.each (equation s t) (own a.shapes a.decls s t c n)))

  id_in : (u : TermId) → IsNode b.trail.graph.nodes u → u.0 < length a.nodes
  id_in u node = slice_get_within a.nodes u.0 node.0 (h.sound.trail.of.node u node.0 node.1)

  pairs : (s t : TermId) → IsNode b.trail.graph.nodes s → IsNode b.trail.graph.nodes t → nat_eq s.0 t.0 ≡ false → is_number a (tree a s) ≡ true → are_comparable a.shapes a.decls (tree a s) (tree a t) ≡ true
      → HasEquality a b.relations.items (tree a s) (tree a t)
  pairs s t ms mt other n c =
      by_pair
      (paired a.shapes a.decls (subterms fs) (tree a s) (tree a t) (number_among s ms n) (number_among t mt (number_too a.shapes a.decls (tree a s) (tree a t) c n)))
    where
      by_pair : ArePaired a.shapes a.decls (all_equations a.shapes a.decls (subterms fs)) (tree a s) (tree a t) → HasEquality a b.relations.items (tree a s) (tree a t)
      by_pair (AreOne e) =
          let same : s ≡ t = HasOneId-arena a ok s t (id_in s ms) (id_in t mt) e in
          absurd (false≢true (sym other ∙ (ap (λ (x : TermId). nat_eq x.0 t.0) same ∙ eq_self t.0)))
      by_pair (IsEarlier among) = of_pair (tree a s) (tree a t) among c n
      by_pair (IsLater among) = turned (tree a s) (tree a t) (of_pair (tree a t) (tree a s) among (flip a.shapes a.decls (tree a s) (tree a t) c) (number_too a.shapes a.decls (tree a s) (tree a t) c n))

  -- an equation of whole numbers that is a question is an atom
  argument_atom : (x y : Term) → is_number a x ≡ true → is_number a y ≡ true → is_among (subterms fs) (equation x y) ≡ true → is_among (search.atoms a.shapes a.decls fs) (equation x y) ≡ true
  argument_atom x y nx ny m =
      has-with_terms (passing (is_atom (is_truth a)) (subterms fs)) (all_equations a.shapes a.decls (subterms fs)) (equation x y)
      (has-passing (is_atom (is_truth a)) (subterms fs) (equation x y) m
      (equation-atom a.shapes a.decls x y sort.Int (sort_known sort.Int (term_sort a.shapes a.decls x) nx) (sort_known sort.Int (term_sort a.shapes a.decls y) ny) (no_truth x nx)))
    where
      no_truth : (x : Term) → is_number a x ≡ true → is_truth a x ≡ false
      no_truth x n = by_case (is_truth a x) refl
        where
          by_case : (c : Bool) → is_truth a x ≡ c → is_truth a x ≡ false
          by_case false e = e
          by_case true e = absurd (not_both (term_sort a.shapes a.decls x) e n)

  question_atom : (x y : Term) → is_number a x ≡ true → is_number a y ≡ true → is_among (questions a.shapes a.decls fs) (equation x y) ≡ true → is_among (search.atoms a.shapes a.decls fs) (equation x y) ≡ true
  question_atom x y nx ny m =
      with_terms-parts (search.atoms a.shapes a.decls fs) (passing is_open (truth_arguments (is_truth a) (subterms fs))) (equation x y) m (λ k. k)
      (λ k. let open_one = passing-parts is_open (truth_arguments (is_truth a) (subterms fs)) (equation x y) k in
      let truth_one = passing-parts (is_truth a) (flat_map arguments (passing (is_plain (is_truth a)) (subterms fs))) (equation x y) open_one.among in
      let o = flat_map-parts arguments (passing (is_plain (is_truth a)) (subterms fs)) (equation x y) truth_one.among in
      argument_atom x y nx ny (part-arguments a.shapes a.decls fs is.formulas o.origin (equation x y) (passing-parts (is_plain (is_truth a)) (subterms fs) o.origin o.among).among o.there))

  equations : (place : ℕ) (l : Literal) (st : Pair) → slice_get (told b) place ≡ Some l → l.part ≡ True → equation_sides a l.atom ≡ Some st → is_number a (tree a st.0) ≡ true → HasEquality a b.relations.items (tree a st.0) (tree a st.1)
  equations place l st at part e n =
      let node = has-sides a l.atom st (sides-node a l.atom st e) in
      let other : is_number a (tree a st.1) ≡ true = side_too a ok l.atom st (slice_get_within a.nodes l.atom.0 node.node node.at) e n in
      equality_of (tree a st.0) (tree a st.1) n other
      (question_atom (tree a st.0) (tree a st.1) n other (ap (is_among (questions a.shapes a.decls fs)) (sym (sides-tree a ok l.atom st (sides-node a l.atom st e))) ∙ is.asked place l at))

  pub search_enough : AreEnough a b
  search_enough = record { equations = equations; pairs = pairs }
