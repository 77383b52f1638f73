-- Links are what terms put together.
use Rattle.std.proofs.Common.{◌≡◌, ℕ, ◌<◌, Bool, true, false, ◌&&◌, ◌||◌, List, [], ◌∷◌, length, slice_get, refl, sym, ap, ◌∙◌, subst, nat_eq, Option, Some, None, arith}
use Rattle.std.proofs.lemmas.Bool.{false≢true}
use Rattle.std.proofs.lemmas.Bool.Decides.{nat_tests}
use Rattle.spv_logic.specs.declared.conditions.TermId.{TermId}
use Rattle.spv_logic.specs.declared.types.Sort.{Sort}
use Rattle.spv_logic.specs.declared.types.Sort.TheVariants as sort
use Rattle.spv_logic.specs.declared.operators.Head.{Head}
use Rattle.spv_logic.specs.declared.operators.Head.TheVariants as head
use Rattle.spv_logic.specs.Terms.{Term, Terms, term, no_terms, terms, head_eq, term_eq, terms_eq, sort_eq}
use Rattle.spv_logic.specs.Sorts.{term_sort}
use Rattle.spv_schemas.specs.Instances.{indexes, points, same_sort}
use Rattle.spv_term.specs.declared.nodes.Node.{Node}
use Rattle.spv_term.specs.Arena.{Arena, IsArena, AllBelow, sort_at, tree, trees}
use Rattle.spv_term.proofs.ArenaLemmas.{tree-node, args_in_range, term_sort-tree}
use Rattle.spv_atoms.specs.Order.{same_id}
use Rattle.spv_atoms.proofs.Walks.{term_eq-ids}
use Rattle.spv_proof.specs.declared.schema_facts.groups.Link.{Link}
use Rattle.spv_proof.specs.declared.schema_facts.relations.Relation.{Relation}
use Rattle.spv_proof.specs.declared.schema_facts.relations.Relation.TheVariants.{Indices, Pointers, Divisors, Quotients, Remainders, Lists}
use Rattle.spv_proof.specs.schema_facts.Relations.{IsDivision, IsKey, Tells, says, calls_for, numbered, is_array_head, is_class_head, is_membership_head, is_list_head, divides, takes_apart}

pub nat_flip : (m n : ℕ) → nat_eq m n ≡ nat_eq n m
nat_flip m n = grind (arith, nat_tests)

-- ---- heads

module _ (sorts : Term → Option Sort) (s : Option Sort) (j : Term) where
  index_other : (h : Head) (ts : Terms) → is_array_head h ≡ false → indexes sorts s j (term h ts) ≡ false
  index_other head.Select ts e = absurd (false≢true (sym e))
  index_other head.Store ts e = absurd (false≢true (sym e))
  index_other h ts e = refl

  index_pair : (h : Head) (x y : Term) (ts : Terms) → is_array_head h ≡ true → indexes sorts s j (term h (terms x (terms y ts))) ≡ (same_sort (sorts x) s && term_eq y j)
  index_pair head.Select x y ts e = refl
  index_pair head.Store x y ts e = refl
  index_pair h x y ts e = absurd (false≢true e)

  index_none : (h : Head) → indexes sorts s j (term h no_terms) ≡ false
  index_none head.Select = refl
  index_none head.Store = refl
  index_none h = refl

  index_one : (h : Head) (x : Term) → indexes sorts s j (term h (terms x no_terms)) ≡ false
  index_one head.Select x = refl
  index_one head.Store x = refl
  index_one h x = refl

  point_other : (h : Head) (ts : Terms) → is_class_head h ≡ false → is_membership_head h ≡ false → points sorts s j (term h ts) ≡ false
  point_other head.Cell ts e f = absurd (false≢true (sym e))
  point_other head.SetCell ts e f = absurd (false≢true (sym e))
  point_other head.Extend ts e f = absurd (false≢true (sym e))
  point_other head.PointerTo ts e f = absurd (false≢true (sym f))
  point_other h ts e f = refl

  point_pair : (h : Head) (x y : Term) (ts : Terms) → is_class_head h ≡ true → points sorts s j (term h (terms x (terms y ts))) ≡ (same_sort (sorts x) s && term_eq y j)
  point_pair head.Cell x y ts e = refl
  point_pair head.SetCell x y ts e = refl
  point_pair head.Extend x y ts e = refl
  point_pair h x y ts e = absurd (false≢true e)

  member_pair : (h : Head) (x y : Term) (ts : Terms) → is_membership_head h ≡ true → points sorts s j (term h (terms x (terms y ts))) ≡ (same_sort (sorts y) s && term_eq x j)
  member_pair head.PointerTo x y ts e = refl
  member_pair h x y ts e = absurd (false≢true e)

  point_none : (h : Head) → points sorts s j (term h no_terms) ≡ false
  point_none head.Cell = refl
  point_none head.SetCell = refl
  point_none head.Extend = refl
  point_none head.PointerTo = refl
  point_none h = refl

  point_one : (h : Head) (x : Term) → points sorts s j (term h (terms x no_terms)) ≡ false
  point_one head.Cell x = refl
  point_one head.SetCell x = refl
  point_one head.Extend x = refl
  point_one head.PointerTo x = refl
  point_one h x = refl

-- ---- nodes

module _ (a : Arena) (ok : IsArena a) (u : TermId) (n : Node) (at : slice_get a.nodes u.0 ≡ Some n) where
  abbrev sorts : Term → Option Sort
  sorts = term_sort a.shapes a.decls

  abbrev array_of : ℕ → Option Sort
  array_of q = Some (sort.Whole (record { 0 = q }))

  abbrev class_of : ℕ → Option Sort
  class_of q = Some (sort.Class (record { 0 = q }))

  few_indexed : (ts : List TermId) → length ts < 2 → (q : ℕ) (j : Term) → indexes sorts (array_of q) j (term n.head (trees a ts)) ≡ false
  few_indexed [] l q j = index_none sorts (array_of q) j n.head
  few_indexed (x ∷ []) l q j = index_one sorts (array_of q) j n.head (tree a x)
  few_indexed (x ∷ y ∷ ts) l q j = absurd (omega arith)

  few_pointed : (ts : List TermId) → length ts < 2 → (q : ℕ) (j : Term) → points sorts (class_of q) j (term n.head (trees a ts)) ≡ false
  few_pointed [] l q j = point_none sorts (class_of q) j n.head
  few_pointed (x ∷ []) l q j = point_one sorts (class_of q) j n.head (tree a x)
  few_pointed (x ∷ y ∷ ts) l q j = absurd (omega arith)

  pub not_indexed : is_array_head n.head ≡ false → Tells a Indices u None
  not_indexed e q t k h = sym (ap (indexes sorts (array_of q) (tree a t)) (tree-node a ok u n at) ∙ index_other sorts (array_of q) (tree a t) n.head (trees a n.args) e)

  pub no_index : length n.args < 2 → Tells a Indices u None
  no_index l q t k h = sym (ap (indexes sorts (array_of q) (tree a t)) (tree-node a ok u n at) ∙ few_indexed n.args l q (tree a t))

  pub not_pointed : is_class_head n.head ≡ false → is_membership_head n.head ≡ false → Tells a Pointers u None
  not_pointed e f q t k h = sym (ap (points sorts (class_of q) (tree a t)) (tree-node a ok u n at) ∙ point_other sorts (class_of q) (tree a t) n.head (trees a n.args) e f)

  pub no_pointer : length n.args < 2 → Tells a Pointers u None
  no_pointer l q t k h = sym (ap (points sorts (class_of q) (tree a t)) (tree-node a ok u n at) ∙ few_pointed n.args l q (tree a t))

  -- the first two arguments
  module _ (x y : TermId) (ts : List TermId) (are : n.args ≡ x ∷ y ∷ ts) where
    pub first_in : x.0 < length a.nodes
    first_in = (subst (AllBelow (length a.nodes)) are (args_in_range a ok u n at)).0

    pub second_in : y.0 < length a.nodes
    second_in = (subst (AllBelow (length a.nodes)) are (args_in_range a ok u n at)).1.0

    is : tree a u ≡ term n.head (terms (tree a x) (terms (tree a y) (trees a ts)))
    is = tree-node a ok u n at ∙ ap (λ us. term n.head (trees a us)) are

    -- a sort and a place among arguments, by their ids
    placed : (r : Sort) (v w t : TermId) → v.0 < length a.nodes → w.0 < length a.nodes → t.0 < length a.nodes
        → (sort_eq (sort_at a v) r && same_id w t) ≡ (same_sort (sorts (tree a v)) (Some r) && term_eq (tree a w) (tree a t))
    placed r v w t hv hw ht i = same_sort (sym (term_sort-tree a ok (tree a v) v hv refl) i) (Some r) && term_eq-ids a ok w t hw ht i

    pub index_told : is_array_head n.head ≡ true → (o : Option Link) → ((q : ℕ) (t : TermId) → says o q t ≡ (sort_eq (sort_at a x) (sort.Whole (record { 0 = q })) && same_id y t)) → Tells a Indices u o
    index_told e o told q t k h =
        told q t ∙ (placed (sort.Whole (record { 0 = q })) x y t first_in second_in h
        ∙ sym (ap (indexes sorts (array_of q) (tree a t)) is ∙ index_pair sorts (array_of q) (tree a t) n.head (tree a x) (tree a y) (trees a ts) e))

    pub pointer_told : is_class_head n.head ≡ true → (o : Option Link) → ((q : ℕ) (t : TermId) → says o q t ≡ (sort_eq (sort_at a x) (sort.Class (record { 0 = q })) && same_id y t)) → Tells a Pointers u o
    pointer_told e o told q t k h =
        told q t ∙ (placed (sort.Class (record { 0 = q })) x y t first_in second_in h
        ∙ sym (ap (points sorts (class_of q) (tree a t)) is ∙ point_pair sorts (class_of q) (tree a t) n.head (tree a x) (tree a y) (trees a ts) e))

    pub member_told : is_membership_head n.head ≡ true → (o : Option Link) → ((q : ℕ) (t : TermId) → says o q t ≡ (sort_eq (sort_at a y) (sort.Class (record { 0 = q })) && same_id x t)) → Tells a Pointers u o
    member_told e o told q t k h =
        told q t ∙ (placed (sort.Class (record { 0 = q })) y x t second_in first_in h
        ∙ sym (ap (points sorts (class_of q) (tree a t)) is ∙ member_pair sorts (class_of q) (tree a t) n.head (tree a x) (tree a y) (trees a ts) e))

-- ---- divisions

module _ (a : Arena) (q : ℕ) (t : Term) where
  -- division by two arguments, by its head
  quotient_at : (x y : Term) → (term_eq (numbered a q) x && (term_eq t y && true)) ≡ (term_eq (numbered a q) x && term_eq t y)
  quotient_at x y = by_case (term_eq (numbered a q) x) (term_eq t y)
    where
      by_case : (b c : Bool) → (b && (c && true)) ≡ (b && c)
      by_case true true = refl
      by_case true false = refl
      by_case false c = refl

  or_false : (b : Bool) → (b || false) ≡ b
  or_false true = refl
  or_false false = refl

  division_pair : (relation : Relation) (h : Head) (x y : Term) → divides relation h ≡ true
      → calls_for a relation q t (term h (terms x (terms y no_terms))) ≡ (term_eq (numbered a q) x && term_eq t y)
  division_pair Divisors head.Div x y e = or_false (term_eq (numbered a q) x && (term_eq t y && true)) ∙ quotient_at x y
  division_pair Divisors head.Mod x y e = quotient_at x y
  division_pair Quotients head.Div x y e = quotient_at x y
  division_pair Remainders head.Mod x y e = quotient_at x y
  division_pair relation h x y e = absurd (false≢true e)

  none : (b c : Bool) → (b && (c && false)) ≡ false
  none true true = refl
  none true false = refl
  none false c = refl

  sum_none : (b c : Bool) → b ≡ false → c ≡ false → (b || c) ≡ false
  sum_none b c e f = (λ i. e i || f i)

  -- of other arguments there is none
  terms_none : (x : Term) (ts : Terms) → ((z w : Term) → ts ≡ terms z (terms w no_terms) → ⊥) → terms_eq (terms x (terms t no_terms)) ts ≡ false
  terms_none x no_terms n = refl
  terms_none x (terms z no_terms) n = by_case (term_eq x z)
    where
      by_case : (b : Bool) → (b && false) ≡ false
      by_case true = refl
      by_case false = refl
  terms_none x (terms z (terms w no_terms)) n = absurd (n z w refl)
  terms_none x (terms z (terms w (terms v ts))) n = none (term_eq x z) (term_eq t w)

  and_none : (b c : Bool) → c ≡ false → (b && c) ≡ false
  and_none true c e = e
  and_none false c e = refl

  -- by arguments that are not two nothing is divided
  not_two : (relation : Relation) → IsDivision relation → (h : Head) (ts : Terms) → ((z w : Term) → ts ≡ terms z (terms w no_terms) → ⊥) → calls_for a relation q t (term h ts) ≡ false
  not_two Divisors d h ts n =
      let e = terms_none (numbered a q) ts n in
      sum_none (head_eq head.Div h && terms_eq (terms (numbered a q) (terms t no_terms)) ts) (head_eq head.Mod h && terms_eq (terms (numbered a q) (terms t no_terms)) ts) (and_none (head_eq head.Div h) _ e) (and_none (head_eq head.Mod h) _ e)
  not_two Quotients d h ts n = and_none (head_eq head.Div h) (terms_eq (terms (numbered a q) (terms t no_terms)) ts) (terms_none (numbered a q) ts n)
  not_two Remainders d h ts n = and_none (head_eq head.Mod h) (terms_eq (terms (numbered a q) (terms t no_terms)) ts) (terms_none (numbered a q) ts n)
  not_two Indices d h ts n = absurd d
  not_two Pointers d h ts n = absurd d
  not_two Lists d h ts n = absurd d

  other_quotient : (h : Head) (ts : Terms) → (h ≡ head.Div → ⊥) → (head_eq head.Div h && terms_eq (terms (numbered a q) (terms t no_terms)) ts) ≡ false
  other_quotient head.Div ts n = absurd (n refl)
  other_quotient h ts n = refl

  other_remainder : (h : Head) (ts : Terms) → (h ≡ head.Mod → ⊥) → (head_eq head.Mod h && terms_eq (terms (numbered a q) (terms t no_terms)) ts) ≡ false
  other_remainder head.Mod ts n = absurd (n refl)
  other_remainder h ts n = refl

  -- with another head nothing is
  division_other : (relation : Relation) → IsDivision relation → (h : Head) (ts : Terms) → divides relation h ≡ false → calls_for a relation q t (term h ts) ≡ false
  division_other Divisors d h ts e =
      sum_none (head_eq head.Div h && terms_eq (terms (numbered a q) (terms t no_terms)) ts) (head_eq head.Mod h && terms_eq (terms (numbered a q) (terms t no_terms)) ts)
      (other_quotient h ts (λ is. false≢true (sym e ∙ ap (divides Divisors) is))) (other_remainder h ts (λ is. false≢true (sym e ∙ ap (divides Divisors) is)))
  division_other Quotients d h ts e = other_quotient h ts (λ is. false≢true (sym e ∙ ap (divides Quotients) is))
  division_other Remainders d h ts e = other_remainder h ts (λ is. false≢true (sym e ∙ ap (divides Remainders) is))
  division_other Indices d h ts e = absurd d
  division_other Pointers d h ts e = absurd d
  division_other Lists d h ts e = absurd d

division_key : (a : Arena) (relation : Relation) → IsDivision relation → (q : ℕ) → IsKey a relation q → q < length a.nodes
division_key a Divisors d q k = k
division_key a Quotients d q k = k
division_key a Remainders d q k = k
division_key a Indices d q k = absurd d
division_key a Pointers d q k = absurd d
division_key a Lists d q k = absurd d

module _ (a : Arena) (ok : IsArena a) (u : TermId) (n : Node) (at : slice_get a.nodes u.0 ≡ Some n) (relation : Relation) (d : IsDivision relation) where
  pub not_divided : divides relation n.head ≡ false → Tells a relation u None
  not_divided e q t k h = sym (ap (calls_for a relation q (tree a t)) (tree-node a ok u n at) ∙ division_other a q (tree a t) relation d n.head (trees a n.args) e)

  two_trees : (ts : List TermId) (z w : Term) → trees a ts ≡ terms z (terms w no_terms) → length ts ≡ 2
  two_trees [] z w e = absurd (cc)
  two_trees (x ∷ []) z w e = absurd (cc)
  two_trees (x ∷ y ∷ []) z w e = refl
  two_trees (x ∷ y ∷ v ∷ ts) z w e = absurd (cc)

  pub no_divisor : (length n.args ≡ 2 → ⊥) → Tells a relation u None
  no_divisor l q t k h = sym (ap (calls_for a relation q (tree a t)) (tree-node a ok u n at) ∙ not_two a q (tree a t) relation d n.head (trees a n.args) (λ z w e. l (two_trees n.args z w e)))

  pub divisor_told : (x y : TermId) → n.args ≡ x ∷ y ∷ [] → divides relation n.head ≡ true → Tells a relation u (Some (record { key = x.0; member = y }))
  divisor_told x y are e q t k h =
      let key : TermId = record { 0 = q } in
      (λ i. (nat_flip x.0 q ∙ term_eq-ids a ok key x (division_key a relation d q k) (first_in a ok u n at x y [] are)) i && (nat_flip y.0 t.0 ∙ term_eq-ids a ok t y h (second_in a ok u n at x y [] are)) i)
      ∙ sym (ap (calls_for a relation q (tree a t)) (tree-node a ok u n at ∙ ap (λ us. term n.head (trees a us)) are) ∙ division_pair a q (tree a t) relation n.head (tree a x) (tree a y) e)

-- ---- lists

module _ (t : Term) where
  by_head : (b : Bool) → ((b && true) || (false || false)) ≡ b
  by_head true = refl
  by_head false = refl

  by_second : (b : Bool) → ((b && true) || false) ≡ b
  by_second true = refl
  by_second false = refl

  by_third : (b : Bool) → (b && true) ≡ b
  by_third true = refl
  by_third false = refl

  part_one : (h : Head) (x : Term) → is_list_head h ≡ true → takes_apart t (term h (terms x no_terms)) ≡ term_eq t x
  part_one head.Car x e = by_head (term_eq t x)
  part_one head.Cdr x e = by_second (term_eq t x)
  part_one head.Atom x e = by_third (term_eq t x)
  part_one h x e = absurd (false≢true e)

  part_other : (h : Head) (ts : Terms) → is_list_head h ≡ false → takes_apart t (term h ts) ≡ false
  part_other head.Car ts e = absurd (false≢true (sym e))
  part_other head.Cdr ts e = absurd (false≢true (sym e))
  part_other head.Atom ts e = absurd (false≢true (sym e))
  part_other h ts e = refl

  no_part : (b : Bool) → (b && false) ≡ false
  no_part true = refl
  no_part false = refl

  terms_not_one : (ts : Terms) → ((x : Term) → ts ≡ terms x no_terms → ⊥) → terms_eq (terms t no_terms) ts ≡ false
  terms_not_one no_terms n = refl
  terms_not_one (terms x no_terms) n = absurd (n x refl)
  terms_not_one (terms x (terms y ts)) n = no_part (term_eq t x)

  part_args : (h : Head) (ts : Terms) → ((x : Term) → ts ≡ terms x no_terms → ⊥) → takes_apart t (term h ts) ≡ false
  part_args h ts n =
      (λ i. (head_eq head.Car h && terms_not_one ts n i) || ((head_eq head.Cdr h && terms_not_one ts n i) || (head_eq head.Atom h && terms_not_one ts n i)))
      ∙ (λ i. no_part (head_eq head.Car h) i || (no_part (head_eq head.Cdr h) i || no_part (head_eq head.Atom h) i))

module _ (a : Arena) (ok : IsArena a) (u : TermId) (n : Node) (at : slice_get a.nodes u.0 ≡ Some n) where
  pub not_apart : is_list_head n.head ≡ false → Tells a Lists u None
  not_apart e q t k h =
      sym (ap (calls_for a Lists q (tree a t)) (tree-node a ok u n at)
      ∙ (λ i. part_other (numbered a q) n.head (trees a n.args) e i && part_other (tree a t) n.head (trees a n.args) e i))

  one_tree : (ts : List TermId) (x : Term) → trees a ts ≡ terms x no_terms → length ts ≡ 1
  one_tree [] x e = absurd (cc)
  one_tree (y ∷ []) x e = refl
  one_tree (y ∷ z ∷ ts) x e = absurd (cc)

  pub no_list : (length n.args ≡ 1 → ⊥) → Tells a Lists u None
  no_list l q t k h =
      sym (ap (calls_for a Lists q (tree a t)) (tree-node a ok u n at)
      ∙ (λ i. part_args (numbered a q) n.head (trees a n.args) (λ x e. l (one_tree n.args x e)) i && part_args (tree a t) n.head (trees a n.args) (λ x e. l (one_tree n.args x e)) i))

  pub list_told : (x : TermId) → n.args ≡ x ∷ [] → is_list_head n.head ≡ true → Tells a Lists u (Some (record { key = x.0; member = x }))
  list_told x are e q t k h =
      let key : TermId = record { 0 = q } in
      let x_in : x.0 < length a.nodes = (subst (AllBelow (length a.nodes)) are (args_in_range a ok u n at)).0 in
      (λ i. (nat_flip x.0 q ∙ term_eq-ids a ok key x k x_in) i && (nat_flip x.0 t.0 ∙ term_eq-ids a ok t x h x_in) i)
      ∙ sym (ap (calls_for a Lists q (tree a t)) (tree-node a ok u n at ∙ ap (λ us. term n.head (trees a us)) are)
      ∙ (λ i. part_one (numbered a q) n.head (tree a x) e i && part_one (tree a t) n.head (tree a x) e i))
