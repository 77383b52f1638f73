-- A tree that splits on each atom at most once on a path has few splits.
use Rattle.std.proofs.Common.{◌≡◌, ℕ, zero, suc, ◌+◌, ◌*◌, ◌^◌, ◌<◌, Bool, true, false, cond, ◌&&◌, ◌||◌, not, nat_le, List, [], ◌∷◌, ◌++◌, length, refl, sym, ap, ◌∙◌, subst, Option, Some, None, arith}
use Rattle.std.proofs.Math.Nat.{pow-succ'}
use Rattle.std.proofs.lemmas.Bool.{false≢true}
use Rattle.std.proofs.lemmas.Bool.Decides.{nat_tests}
use Rattle.std.specs.Cmp.Derive.{both_true}
use Rattle.spv_logic.proofs.list.Tests.{left_true, right_true, left_false, right_false}
use Rattle.spv_logic.specs.Terms.{Term, term_eq}
use Rattle.spv_logic.proofs.Equality.{term_eq-true}
use Rattle.spv_atoms.proofs.Members.{has, or_cases, or_left, or_right}
use Rattle.spv_proof_rules.specs.Evaluation.{sides}
use Rattle.spv_proof_rules.specs.Effects.{Question, is_number}
use Rattle.spv_proof_rules.specs.Accepted.{two_cases, three_cases, cases_by_sides, cases_of}
use Rattle.spv_models.specs.split_trees.Trees.{Tree, Trees, Open, Closed, Split, no_trees, trees, splits, splits_all, count, splits_once, each_once}
use Rattle.spv_models.specs.split_trees.Paths.{atoms}
use Rattle.spv_models.specs.split_trees.Kept.{Stands, PartsStand, IsKept}

not_true : (b : Bool) → not b ≡ true → b ≡ false
not_true true h = sym h
not_true false h = refl

-- ---- lists without one of their terms

abbrev without : Term → List Term → List Term
without t [] = []
without t (u ∷ us) = cond (term_eq t u) us (u ∷ without t us)

without-shorter : (t : Term) (us : List Term) → has us t ≡ true → length us ≡ suc (length (without t us))
without-shorter t [] h = absurd (false≢true h)
without-shorter t (u ∷ us) h = by_case (term_eq t u) h (without-shorter t us)
  where
    by_case : (b : Bool) → (b || has us t) ≡ true → (has us t ≡ true → length us ≡ suc (length (without t us))) → suc (length us) ≡ suc (length (cond b us (u ∷ without t us)))
    by_case true k later = refl
    by_case false k later = ap suc (later k)

without-keeps : (t u : Term) (us : List Term) → has us u ≡ true → term_eq u t ≡ false → (same : (v : Term) → term_eq t v ≡ true → term_eq u v ≡ false) → has (without t us) u ≡ true
without-keeps t u [] h n same = absurd (false≢true h)
without-keeps t u (v ∷ us) h n same = by_case (term_eq t v) refl (without-keeps t u us)
  where
    by_case : (b : Bool) → term_eq t v ≡ b → (has us u ≡ true → term_eq u t ≡ false → ((w : Term) → term_eq t w ≡ true → term_eq u w ≡ false) → has (without t us) u ≡ true) → has (cond b us (v ∷ without t us)) u ≡ true
    by_case true e later = or_cases (term_eq u v) (has us u) h (λ k. absurd (false≢true (sym (same v e) ∙ k))) (λ k. k)
    by_case false e later = or_cases (term_eq u v) (has us u) h (λ k. or_left (term_eq u v) (has (without t us) u) k) (λ k. or_right (term_eq u v) (has (without t us) u) (later k n same))

-- ---- numbers

three_above : (n : ℕ) → zero < 3 ^ n
three_above zero = arith_one
  where
    arith_one : zero < 1
    arith_one = omega arith
three_above (suc n) = subst (λ m. zero < m) (sym (pow-succ' 3 n)) (above (3 ^ n) (three_above n))
  where
    above : (m : ℕ) → zero < m → zero < 3 * m
    above m h = omega arith

no_parts : (m : ℕ) → zero < m → suc zero < 3 * m
no_parts m p = omega arith

one_part : (m a : ℕ) → zero < m → a < m → suc (a + zero) < 3 * m
one_part m a p h = omega arith

two_parts : (m a b : ℕ) → zero < m → a < m → b < m → suc (a + (b + zero)) < 3 * m
two_parts m a b p h k = omega arith

three_parts : (m a b c : ℕ) → zero < m → a < m → b < m → c < m → suc (a + (b + (c + zero))) < 3 * m
three_parts m a b c p h k l = omega arith

too_many : (n : ℕ) → nat_le (suc (suc (suc (suc n)))) 3 ≡ true → ⊥
too_many n h = grind (arith, nat_tests)

abbrev AreBelow : ℕ → Trees → Type 0
AreBelow m no_trees = Unit {0}
AreBelow m (trees part parts) = (splits part < m) × AreBelow m parts

sum_below : (m : ℕ) (parts : Trees) → zero < m → nat_le (count parts) 3 ≡ true → AreBelow m parts → suc (splits_all parts) < 3 * m
sum_below m no_trees p n h = no_parts m p
sum_below m (trees a no_trees) p n h = one_part m (splits a) p h.0
sum_below m (trees a (trees b no_trees)) p n h = two_parts m (splits a) (splits b) p h.0 h.1.0
sum_below m (trees a (trees b (trees c no_trees))) p n h = three_parts m (splits a) (splits b) (splits c) p h.0 h.1.0 h.1.1.0
sum_below m (trees a (trees b (trees c (trees d more)))) p n h = absurd (too_many (count more) n)

-- ---- trees

abbrev AreFree : List Term → List Term → List Term → Type 0
AreFree atoms above free = (u : Term) → has atoms u ≡ true → has above u ≡ false → has free u ≡ true

free_next : (atoms above free : List Term) (t : Term) → AreFree atoms above free → AreFree atoms (t ∷ above) (without t free)
free_next atoms above free t f u m n =
    without-keeps t u free (f u m (right_false (term_eq u t) (has above u) n)) (left_false (term_eq u t) (has above u) n) (differs (left_false (term_eq u t) (has above u) n))
  where
    differs : term_eq u t ≡ false → (v : Term) → term_eq t v ≡ true → term_eq u v ≡ false
    differs e v k = sym (ap (term_eq u) (term_eq-true t v k)) ∙ e

split_below : (free : List Term) (t : Term) (parts : Trees) → has free t ≡ true → nat_le (count parts) 3 ≡ true → AreBelow (3 ^ length (without t free)) parts → suc (splits_all parts) < 3 ^ length free
split_below free t parts m n h =
    let power : 3 ^ length free ≡ 3 * 3 ^ length (without t free) = ap (λ k. 3 ^ k) (without-shorter t free m) ∙ pow-succ' 3 (length (without t free)) in
    subst (λ k. suc (splits_all parts) < k) (sym power) (sum_below (3 ^ length (without t free)) parts (three_above (length (without t free))) n h)

mutual
  few : (atoms above free : List Term) → AreFree atoms above free → (tree : Tree) → splits_once atoms above tree ≡ true → splits tree < 3 ^ length free
  few atoms above free f Open o = three_above (length free)
  few atoms above free f (Closed steps) o = three_above (length free)
  few atoms above free f (Split t parts) o =
      let fresh = right_true (has atoms t) _ o in
      let other = right_true (not (has above t)) _ fresh in
      split_below free t parts (f t (left_true (has atoms t) _ o) (not_true (has above t) (left_true (not (has above t)) _ fresh))) (left_true (nat_le (count parts) 3) _ other)
      (few_all atoms (t ∷ above) (without t free) (free_next atoms above free t f) parts (right_true (nat_le (count parts) 3) _ other))

  few_all : (atoms above free : List Term) → AreFree atoms above free → (parts : Trees) → each_once atoms above parts ≡ true → AreBelow (3 ^ length free) parts
  few_all atoms above free f no_trees o = tt
  few_all atoms above free f (trees part parts) o =
      (few atoms above free f part (left_true (splits_once atoms above part) _ o), few_all atoms above free f parts (right_true (splits_once atoms above part) _ o))

pub few-splits : (atoms : List Term) (tree : Tree) → splits_once atoms [] tree ≡ true → splits tree < 3 ^ length atoms
few-splits atoms tree o = few atoms [] atoms (λ u m n. m) tree o

-- ---- kept trees

most_cases : (q : Question) (t : Term) → nat_le (length (cases_of q t)) 3 ≡ true
most_cases q t = by_sides (sides t)
  where
    by_number : (st : Term × Term) (b : Bool) → nat_le (length (cond b (three_cases st) (two_cases t))) 3 ≡ true
    by_number st true = refl
    by_number st false = refl

    by_sides : (o : Option (Term × Term)) → nat_le (length (cases_by_sides (is_number q) o t)) 3 ≡ true
    by_sides None = refl
    by_sides (Some st) = by_number st (is_number q st.0 && is_number q st.1)

as_many : (q : Question) (cases above fs : List Term) (parts : Trees) → PartsStand q cases above fs parts → count parts ≡ length fs
as_many q cases above [] no_trees h = refl
as_many q cases above [] (trees part parts) h = absurd h
as_many q cases above (f ∷ fs) no_trees h = absurd h
as_many q cases above (f ∷ fs) (trees part parts) h = ap suc (as_many q cases above fs parts h.1)

mutual
  stands-once : (q : Question) (cases above : List Term) (tree : Tree) → Stands q cases above tree → splits_once (atoms q) above tree ≡ true
  stands-once q cases above Open h = refl
  stands-once q cases above (Closed steps) h = refl
  stands-once q cases above (Split t parts) h =
      both_true h.0.is_atom (both_true (ap not h.0.is_new)
      (both_true (ap (λ n. nat_le n 3) (as_many q cases (t ∷ above) (cases_of q t) parts h.1) ∙ most_cases q t) (parts-once q cases (t ∷ above) (cases_of q t) parts h.1)))

  parts-once : (q : Question) (cases above fs : List Term) (parts : Trees) → PartsStand q cases above fs parts → each_once (atoms q) above parts ≡ true
  parts-once q cases above [] no_trees h = refl
  parts-once q cases above [] (trees part parts) h = absurd h
  parts-once q cases above (f ∷ fs) no_trees h = absurd h
  parts-once q cases above (f ∷ fs) (trees part parts) h = both_true (stands-once q (cases ++ f ∷ []) above part h.0) (parts-once q cases above fs parts h.1)

pub kept-once : (q : Question) (limit : ℕ) (tree : Tree) → IsKept q limit tree → splits_once (atoms q) [] tree ≡ true
kept-once q limit tree k = stands-once q [] [] tree k.stands

pub kept-small : (q : Question) (limit : ℕ) (tree : Tree) → IsKept q limit tree → limit < 3 ^ length (atoms q)
kept-small q limit tree k = subst (λ n. n < 3 ^ length (atoms q)) k.so_many (few-splits (atoms q) tree (kept-once q limit tree k))
