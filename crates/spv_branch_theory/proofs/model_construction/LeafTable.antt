-- The table of both sides is that of a leaf.
use Rattle.std.proofs.Common.{◌≡◌, ℕ, zero, suc, ◌+◌, ◌<◌, ◌≤◌, Bool, true, false, cond, List, [], ◌∷◌, ◌++◌, map, take, length, nat_eq, pos, refl, sym, ap, ◌∙◌, Some, arith}
use mathlib.Core.Path.{ap₂}
use Rattle.std.specs.Prelude.{slice_get}
use Rattle.std.specs.Option.{option_map}
use Rattle.std.proofs.lemmas.Bool.Decides.{nat_tests}
use Rattle.std.proofs.lemmas.List.{append-nil, map-append, take_more}
use Rattle.std.proofs.lemmas.Option.{slice_get-get_or, slice_get-map, same_Some, slice_get_within}
use Rattle.spv_whole.specs.Fraction.{Fraction, whole}
use Rattle.spv_frac.specs.rational.Rational.{Rational}
use Rattle.spv_union_find.proofs.classes.Lists.{nat_same}
use Rattle.spv_logic.specs.declared.conditions.TermId.{TermId}
use Rattle.spv_logic.specs.Terms.{Term}
use Rattle.spv_term.specs.Arena.{Arena, tree}
use Rattle.spv_atoms.specs.Atoms.{is_truth, is_number, only_if}
use Rattle.spv_atoms.specs.Order.{passing}
use Rattle.spv_atoms.proofs.Members.{passing-append}
use Rattle.spv_congruence.specs.Graph.{are_same, label_of}
use Rattle.spv_table.specs.Values.{truth_value}
use Rattle.spv_simplex.specs.State.{value_of}
use Rattle.spv_share.specs.declared.both.Both.{Both}
use Rattle.spv_models.specs.leaf_models.Subterms.{subterms, is_listed}
use Rattle.spv_models.specs.leaf_models.Leaves.{Leaf, truth_at}
use Rattle.spv_models.specs.leaf_models.Tables.{class_of, truth_number, number_at, table}
use Rattle.spv_branch_theory.specs.model_construction.Firsts.{IsFirstOne, AreFirsts}
use Rattle.spv_branch_theory.specs.model_construction.Numbers.{number_of, with_value_if, id_at, flag_at, place_at, listed_to, IsFullTable}
use Rattle.spv_branch_theory.specs.model_construction.Laws.{AreSubterms, IsOne, IsLeafOf}

abbrev ids_of : List TermId → List TermId
ids_of ids = ids

no_item : (i : ℕ) (t : TermId) → slice_get (ids_of []) i ≡ Some t → ⊥
no_item i t h = cc

-- ---- the class of a term

-- the first of some terms that is the same as a term stands at a place, where no other one before it is
class_at : (same : Term → Term → Bool) (a : Arena) (ids : List TermId) (t u : TermId) (k : ℕ) → slice_get ids k ≡ Some u → same (tree a u) (tree a t) ≡ true
    → ((i : ℕ) (s : TermId) → i < k → slice_get ids i ≡ Some s → same (tree a s) (tree a t) ≡ false) → class_of same (map (tree a) ids) (tree a t) ≡ k
class_at same a [] t u k at e none = absurd (no_item k u at)
class_at same a (s ∷ ids) t u zero at e none = ap (λ b. cond b 0 (suc (class_of same (map (tree a) ids) (tree a t)))) (ap (λ x. same (tree a x) (tree a t)) (same_Some s u at) ∙ e)
class_at same a (s ∷ ids) t u (suc k) at e none =
    ap (λ b. cond b 0 (suc (class_of same (map (tree a) ids) (tree a t)))) (none 0 s (omega arith) refl)
    ∙ ap suc (class_at same a ids t u k at e (λ i r below there. none (suc i) r (omega (arith, below)) there))

plus_one : (n : ℕ) → n + 1 ≡ suc n
plus_one n = omega arith

not_true : (b : Bool) → (b ≡ true → ⊥) → b ≡ false
not_true true h = absurd (h refl)
not_true false h = refl

equal_of : (m n : ℕ) → nat_eq m n ≡ true → m ≡ n
equal_of m n h = grind (arith, nat_tests)

module _ (a : Arena) (b : Both) (fs : List Term) (ids : List TermId) (flags : List Bool) (leaf : Leaf) (subs : AreSubterms a fs ids flags) (of : IsLeafOf a b ids flags leaf) where
  abbrev label : TermId → ℕ
  label t = label_of b.trail.graph.joins t

  -- each id has a flag
  flag_of : (i : ℕ) (s : TermId) → slice_get ids i ≡ Some s → (f : Bool) × (slice_get flags i ≡ Some f)
  flag_of i s at = (is_listed (tree a s), ap (λ fl. slice_get fl i) subs.flags_are ∙ (slice_get-map (λ t. is_listed (tree a t)) ids i ∙ ap (option_map (λ t. is_listed (tree a t))) at))

  class_is : (t : TermId) (k : ℕ) → IsOne ids flags t → is_number a.shapes a.decls (tree a t) ≡ false → is_truth a.shapes a.decls (tree a t) ≡ false → IsFirstOne label ids flags (label t) k → class_of leaf.same (subterms fs) (tree a t) ≡ k
  class_is t k one number truth first =
      let u : TermId = first.one.term in
      let there : IsOne ids flags u = record { place = k; there = first.one.there; flagged = first.one.flagged } in
      let same : leaf.same (tree a u) (tree a t) ≡ true = of.classes u t there one ∙ (ap (λ n. nat_eq n (label t)) first.one.is ∙ nat_same (label t)) in
      ap (λ ts. class_of leaf.same ts (tree a t)) (sym subs.trees) ∙ class_at leaf.same a ids t u k first.one.there same before
    where
      before : (i : ℕ) (s : TermId) → i < k → slice_get ids i ≡ Some s → leaf.same (tree a s) (tree a t) ≡ false
      before i s below at = by_flag (flag_of i s at).0 (flag_of i s at).1
        where
          by_flag : (f : Bool) → slice_get flags i ≡ Some f → leaf.same (tree a s) (tree a t) ≡ false
          by_flag false e = of.others s t (record { place = i; there = at; flagged = e }) one number truth
          by_flag true e =
              of.classes s t (record { place = i; there = at; flagged = e }) one
              ∙ not_true (are_same b.trail.graph s t) (λ same. first.none i below (record { term = s; there = at; flagged = e; is = equal_of (label s) (label t) same }))

  -- the number of a listed term
  number_is : (t : TermId) (k : ℕ) → IsOne ids flags t → IsFirstOne label ids flags (label t) k → number_of a b t k ≡ number_at a.shapes a.decls (subterms fs) leaf (tree a t)
  number_is t k one first = by_sort (is_number a.shapes a.decls (tree a t)) refl (is_truth a.shapes a.decls (tree a t)) refl
    where
      by_sort : (n : Bool) → is_number a.shapes a.decls (tree a t) ≡ n → (c : Bool) → is_truth a.shapes a.decls (tree a t) ≡ c
          → cond n (value_of b.standing.tableau t).fraction (cond c (truth_value (are_same b.trail.graph t b.trail.truth)) (whole (pos k)))
          ≡ cond n (leaf.point (tree a t)).fraction (cond c (truth_number (truth_at (is_truth a.shapes a.decls) leaf.given (tree a t))) (whole (pos (class_of leaf.same (subterms fs) (tree a t)))))
      by_sort true e c f = ap (λ (r : Rational). r.fraction) (sym (of.numbers t one e))
      by_sort false e true f = sym (of.truths t one f)
      by_sort false e false f = ap (λ m. whole (pos m)) (sym (class_is t k one e f first))

  -- ---- the list

  abbrev pair_at : Term → Term × Fraction
  pair_at t = (t, number_at a.shapes a.decls (subterms fs) leaf t)

  abbrev pair_of : TermId × Fraction → Term × Fraction
  pair_of p = (tree a p.0, p.1)

  none_yet : (ts : List TermId) → map pair_at (passing is_listed (map (tree a) (take 0 ts))) ≡ []
  none_yet [] = refl
  none_yet (t ∷ ts) = refl

  module _ (places : List ℕ) (firsts : AreFirsts label ids flags (length ids) places) where
    place_there : (n : ℕ) → n < length ids → slice_get places n ≡ Some (place_at places n)
    place_there n below = slice_get-get_or places n 0 (omega (arith, below, firsts.count_is))

    -- one term more
    one_more : (front : List (Term × Fraction)) (values : List (TermId × Fraction)) (t : TermId) (x : Fraction) (f : Bool) → map pair_of values ≡ front → (f ≡ true → x ≡ number_at a.shapes a.decls (subterms fs) leaf (tree a t))
        → map pair_of (with_value_if f values t x) ≡ front ++ map pair_at (only_if f (tree a t) ++ [])
    one_more front values t x true done is = map-append pair_of values ((t, x) ∷ []) ∙ ap₂ (λ xs y. xs ++ (tree a t, y) ∷ []) done (is refl)
    one_more front values t x false done is = done ∙ sym (append-nil front)

    to_list : (n : ℕ) → n ≤ length ids → map pair_of (listed_to a b ids flags places n) ≡ map pair_at (passing is_listed (map (tree a) (take n ids)))
    to_list zero below = sym (none_yet ids)
    to_list (suc n) below =
        let within : n < length ids = omega (arith, below) in
        let t : TermId = id_at ids n in
        let here : slice_get ids n ≡ Some t = slice_get-get_or ids n (record { 0 = 0 }) within in
        let flag_is : slice_get flags n ≡ Some (is_listed (tree a t)) = ap (λ fl. slice_get fl n) subs.flags_are ∙ (slice_get-map (λ u. is_listed (tree a u)) ids n ∙ ap (option_map (λ u. is_listed (tree a u))) here) in
        let flags_within : n < length flags = slice_get_within flags n (is_listed (tree a t)) flag_is in
        let flag : flag_at flags n ≡ is_listed (tree a t) = same_Some (flag_at flags n) (is_listed (tree a t)) (sym (slice_get-get_or flags n false flags_within) ∙ flag_is) in
        let done = to_list n (omega (arith, below)) in
        let more : take (suc n) ids ≡ take n ids ++ t ∷ [] = ap (λ k. take k ids) (sym (plus_one n)) ∙ take_more ids n (record { 0 = 0 }) within in
        let front : List (Term × Fraction) = map pair_at (passing is_listed (map (tree a) (take n ids))) in
        ap (λ fl. map pair_of (with_value_if fl (listed_to a b ids flags places n) t (number_of a b t (place_at places n)))) flag
        ∙ (one_more front (listed_to a b ids flags places n) t (number_of a b t (place_at places n)) (is_listed (tree a t)) done
        (λ e.
        let flagged : slice_get flags n ≡ Some true = flag_is ∙ ap Some e in
        number_is t (place_at places n) (record { place = n; there = here; flagged = flagged }) (firsts.each n (place_at places n) t (place_there n within) here flagged))
        ∙ sym
        (ap (λ us. map pair_at (passing is_listed (map (tree a) us))) more
        ∙ (ap (λ us. map pair_at (passing is_listed us)) (map-append (tree a) (take n ids) (t ∷ []))
        ∙ (ap (map pair_at) (passing-append is_listed (map (tree a) (take n ids)) (tree a t ∷ [])) ∙ map-append pair_at (passing is_listed (map (tree a) (take n ids))) (only_if (is_listed (tree a t)) (tree a t) ++ [])))))

whole_list : (ids : List TermId) → take (length ids) ids ≡ ids
whole_list [] = refl
whole_list (t ∷ ids) = ap (λ xs. t ∷ xs) (whole_list ids)

below_itself : (n : ℕ) → n ≤ n
below_itself n = omega arith

pub table_is : (a : Arena) (b : Both) (fs : List Term) (ids : List TermId) (flags : List Bool) (leaf : Leaf) (values : List (TermId × Fraction)) → AreSubterms a fs ids flags → IsLeafOf a b ids flags leaf → IsFullTable a b ids flags values
    → map (λ p. (tree a p.0, p.1)) values ≡ table a.shapes a.decls fs leaf
table_is a b fs ids flags leaf values subs of full =
    ap (map (pair_of a b fs ids flags leaf subs of)) full.values_are
    ∙ (to_list a b fs ids flags leaf subs of full.places full.firsts (length ids) (below_itself (length ids))
    ∙ (ap (λ us. map (pair_at a b fs ids flags leaf subs of) (passing is_listed (map (tree a) us))) (whole_list ids) ∙ ap (λ ts. map (pair_at a b fs ids flags leaf subs of) (passing is_listed ts)) subs.trees))
