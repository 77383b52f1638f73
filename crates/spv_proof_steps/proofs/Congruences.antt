-- Terms of one head with equal arguments, over plain variables.
use Rattle.std.proofs.Common.{◌≡◌, ℕ, zero, suc, ◌<◌, ◌+◌, Bool, true, false, ◌&&◌, List, [], ◌∷◌, map, length, drop, get_or, slice_get, refl, sym, ap, ◌∙◌, Option, Some, None, add-one, arith}
use Rattle.std.specs.Option.{option_map}
use Rattle.std.proofs.lemmas.Bool.{false≢true}
use Rattle.std.proofs.lemmas.Option.{slice_get-map}
use Rattle.spv_logic.proofs.list.Tests.{left_true, right_true}
use Rattle.spv_logic.specs.declared.conditions.TermId.{TermId}
use Rattle.spv_logic.specs.declared.operators.Head.{Head}
use Rattle.spv_logic.specs.declared.operators.Head.TheVariants as head
use Rattle.spv_logic.specs.Terms.{Term, Terms, term, no_terms, terms, head_eq}
use Rattle.spv_logic.specs.Formulas.{equation}
use Rattle.spv_logic.specs.Sorts.{result_sort}
use Rattle.spv_logic.proofs.Equality.{term_eq-true, head_eq-true}
use Rattle.spv_term.specs.declared.nodes.Node.{Node}
use Rattle.spv_term.specs.Arena.{Arena, IsArena, AllBelow, tree, trees, sort_at, sorts_at}
use Rattle.spv_term.proofs.ArenaLemmas.{node_of, tree-node, sort-node, args_in_range, same_id}
use Rattle.spv_proof_rules.specs.Effects as spec
use Rattle.spv_proof_steps.proofs.Looks.{equation_node}
use Rattle.spv_proof_steps.proofs.StepLemmas.{AllBelow-at}

-- ---- sorts

-- a fact that is an equation has sides of one sort
module _ (a : Arena) (ok : IsArena a) where
  pub equal_sorts : (f t u : TermId) → f.0 < length a.nodes → t.0 < length a.nodes → u.0 < length a.nodes → tree a f ≡ equation (tree a t) (tree a u) → sort_at a t ≡ sort_at a u
  equal_sorts f t u hf ht hu e =
      let n = node_of a ok f hf in
      let is : term n.0.head (trees a n.0.args) ≡ equation (tree a t) (tree a u) = sym (tree-node a ok f n.0 n.1) ∙ e in
      let heads : n.0.head ≡ head.Eq = cc in
      let two = equation_node a ok f n.0 n.1 heads in
      let args : terms (tree a two.left) (terms (tree a two.right) no_terms) ≡ terms (tree a t) (terms (tree a u) no_terms) = ap (trees a) (sym two.args_are) ∙ list_of is in
      let both = pair_parts args in
      let left = same_id a ok (tree a t) two.left t two.left_in ht both.0 refl in
      let right = same_id a ok (tree a u) two.right u two.right_in hu both.1 refl in
      ap (sort_at a) (sym left) ∙ (two.same_sort ∙ ap (sort_at a) right)
    where
      list_of : {h : Head} {ts us : Terms} → term h ts ≡ term head.Eq us → ts ≡ us
      list_of e = cc

      pair_parts : {p q r s : Term} → terms p (terms q no_terms) ≡ terms r (terms s no_terms) → (p ≡ r) × (q ≡ s)
      pair_parts e = (cc, cc)

  -- arguments that cited facts put equal have the same sorts
  pub all_sorts : (facts : List TermId) → AllBelow (length a.nodes) facts → (ts us : List TermId) (ks : List ℕ) → AllBelow (length a.nodes) ts → AllBelow (length a.nodes) us
      → spec.all_equal (map (tree a) facts) (trees a ts) (trees a us) ks ≡ true → sorts_at a ts ≡ sorts_at a us
  all_sorts facts hf [] [] [] ht hu e = refl
  all_sorts facts hf [] [] (k ∷ ks) ht hu e = absurd (false≢true e)
  all_sorts facts hf [] (u ∷ us) ks ht hu e = absurd (false≢true e)
  all_sorts facts hf (t ∷ ts) [] ks ht hu e = absurd (false≢true e)
  all_sorts facts hf (t ∷ ts) (u ∷ us) [] ht hu e = absurd (false≢true e)
  all_sorts facts hf (t ∷ ts) (u ∷ us) (k ∷ ks) ht hu e =
      let first = fact_sorts k (left_true _ _ e) in
      let others = all_sorts facts hf ts us ks ht.1 hu.1 (right_true (spec.is_fact (spec.numbered (map (tree a) facts) k) (equation (tree a t) (tree a u))) _ e) in
      λ i. first i ∷ others i
    where
      found : (o : Option TermId) → spec.is_fact (option_map (tree a) o) (equation (tree a t) (tree a u)) ≡ true → (f : TermId) × (o ≡ Some f) × (tree a f ≡ equation (tree a t) (tree a u))
      found None h = absurd (false≢true h)
      found (Some f) h = (f, refl, term_eq-true (tree a f) (equation (tree a t) (tree a u)) h)

      fact_sorts : (n : ℕ) → spec.is_fact (spec.numbered (map (tree a) facts) n) (equation (tree a t) (tree a u)) ≡ true → sort_at a t ≡ sort_at a u
      fact_sorts zero h = absurd (false≢true h)
      fact_sorts (suc n) h =
          let f = found (slice_get facts n) (ap (λ o. spec.is_fact o (equation (tree a t) (tree a u))) (sym (slice_get-map (tree a) facts n)) ∙ h) in
          equal_sorts f.0 t u (AllBelow-at (length a.nodes) facts n f.0 hf f.1) ht.0 hu.0 f.2

  -- congruent terms have one sort
  pub congruent_sorts : (facts : List TermId) → AllBelow (length a.nodes) facts → (t u : TermId) (ks : List ℕ) → t.0 < length a.nodes → u.0 < length a.nodes
      → spec.congruent (map (tree a) facts) (tree a t) (tree a u) ks ≡ true → sort_at a t ≡ sort_at a u
  congruent_sorts facts hf t u ks ht hu e =
      let n = node_of a ok t ht in
      let m = node_of a ok u hu in
      let left = sym (tree-node a ok t n.0 n.1) in
      let right = sym (tree-node a ok u m.0 m.1) in
      let both : (head_eq n.0.head m.0.head && spec.all_equal (map (tree a) facts) (trees a n.0.args) (trees a m.0.args) ks) ≡ true =
      (λ i. spec.congruent (map (tree a) facts) (left i) (right i) ks) ∙ e in
      let heads = head_eq-true n.0.head m.0.head (left_true _ _ both) in
      let sorts = all_sorts facts hf n.0.args m.0.args ks (args_in_range a ok t n.0 n.1) (args_in_range a ok u m.0 m.1) (right_true (head_eq n.0.head m.0.head) _ both) in
      let one : Some (sort_at a t) ≡ Some (sort_at a u) =
      sym (sort-node a ok t n.0 n.1) ∙ ((λ i. result_sort a.shapes a.decls (heads i) (sorts i)) ∙ sort-node a ok u m.0 m.1) in
      cc

-- what two nodes say of their terms
module _ (a : Arena) (ok : IsArena a) (t u : TermId) (n m : Node) (at : slice_get a.nodes t.0 ≡ Some n) (un : slice_get a.nodes u.0 ≡ Some m) (facts : List Term) (ks : List ℕ) where
  parts : spec.congruent facts (tree a t) (tree a u) ks ≡ (head_eq n.head m.head && spec.all_equal facts (trees a n.args) (trees a m.args) ks)
  parts = let left = tree-node a ok t n at in let right = tree-node a ok u m un in (λ i. spec.congruent facts (left i) (right i) ks)

  pub congruent_nodes : (ts us : List TermId) → ts ≡ n.args → us ≡ m.args → (heads : Bool) → heads ≡ head_eq n.head m.head → (all : Bool) → all ≡ spec.all_equal facts (trees a ts) (trees a us) ks
      → heads ≡ true → all ≡ spec.congruent facts (tree a t) (tree a u) ks
  congruent_nodes ts us te ue heads he all ae yes_heads =
      ae ∙ ((λ i. spec.all_equal facts (trees a (te i)) (trees a (ue i)) ks) ∙ (ap (λ b. b && spec.all_equal facts (trees a n.args) (trees a m.args) ks) (sym yes_heads ∙ he) ∙ sym parts))

  pub other_heads : (heads : Bool) → heads ≡ head_eq n.head m.head → heads ≡ false → heads ≡ spec.congruent facts (tree a t) (tree a u) ks
  other_heads heads he none = none ∙ (ap (λ b. b && spec.all_equal facts (trees a n.args) (trees a m.args) ks) (sym none ∙ he) ∙ sym parts)

-- ---- the loop over arguments

abbrev pub equal_from : Arena → List TermId → List TermId → List TermId → List ℕ → ℕ → Bool
equal_from a facts left right ks i = spec.all_equal (map (tree a) facts) (trees a (drop i left)) (trees a (drop i right)) (drop i ks)

-- lists of other lengths are not put equal
pub other_lengths : (facts : List Term) (a : Arena) (ts us : List TermId) (ks : List ℕ) → (length ts ≡ length us → ⊥) → false ≡ spec.all_equal facts (trees a ts) (trees a us) ks
other_lengths facts a [] [] ks e = absurd (e refl)
other_lengths facts a [] (u ∷ us) ks e = refl
other_lengths facts a (t ∷ ts) [] ks e = refl
other_lengths facts a (t ∷ ts) (u ∷ us) [] e = refl
other_lengths facts a (t ∷ ts) (u ∷ us) (k ∷ ks) e =
    sym (never (spec.is_fact (spec.numbered facts k) (equation (tree a t) (tree a u))) (sym (other_lengths facts a ts us ks (λ same. e (ap suc same)))))
  where
    never : (b : Bool) {c : Bool} → c ≡ false → (b && c) ≡ false
    never true e = e
    never false e = refl

pub other_count : (facts : List Term) (a : Arena) (ts us : List TermId) (ks : List ℕ) → (length ts ≡ length ks → ⊥) → false ≡ spec.all_equal facts (trees a ts) (trees a us) ks
other_count facts a [] [] [] e = absurd (e refl)
other_count facts a [] [] (k ∷ ks) e = refl
other_count facts a [] (u ∷ us) ks e = refl
other_count facts a (t ∷ ts) [] ks e = refl
other_count facts a (t ∷ ts) (u ∷ us) [] e = refl
other_count facts a (t ∷ ts) (u ∷ us) (k ∷ ks) e =
    sym (never (spec.is_fact (spec.numbered facts k) (equation (tree a t) (tree a u))) (sym (other_count facts a ts us ks (λ same. e (ap suc same)))))
  where
    never : (b : Bool) {c : Bool} → c ≡ false → (b && c) ≡ false
    never true e = e
    never false e = refl

-- the arguments at a place, and those behind it
one_after : (a : Arena) (facts left right : List TermId) (ks : List ℕ) (i d : ℕ) (t u : TermId) → i < length left → length left ≡ length right → length left ≡ length ks
    → equal_from a facts left right ks i
    ≡ (spec.is_fact (spec.numbered (map (tree a) facts) (get_or ks i d)) (equation (tree a (get_or left i t)) (tree a (get_or right i u))) && equal_from a facts left right ks (suc i))
one_after a facts [] right ks i d t u h e f = absurd (omega arith)
one_after a facts (x ∷ left) [] ks i d t u h e f = absurd (omega arith)
one_after a facts (x ∷ left) (y ∷ right) [] i d t u h e f = absurd (omega arith)
one_after a facts (x ∷ left) (y ∷ right) (k ∷ ks) zero d t u h e f = refl
one_after a facts (x ∷ left) (y ∷ right) (k ∷ ks) (suc i) d t u h e f = one_after a facts left right ks i d t u (omega arith) (omega arith) (omega arith)

pub one_pair : (a : Arena) (facts left right : List TermId) (ks : List ℕ) (i d : ℕ) (t u : TermId) → i < length left → length left ≡ length right → length left ≡ length ks
    → equal_from a facts left right ks i
    ≡ (spec.is_fact (spec.numbered (map (tree a) facts) (get_or ks i d)) (equation (tree a (get_or left i t)) (tree a (get_or right i u))) && equal_from a facts left right ks (i + 1))
one_pair a facts left right ks i d t u h e f = rw add-one (one_after a facts left right ks i d t u h e f)
