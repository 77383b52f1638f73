-- What differences of terms and rows are worth at a point.
use Rattle.std.proofs.Common.{◌≡◌, ℕ, zero, suc, ◌<◌, Bool, true, false, cond, ◌||◌, List, [], ◌∷◌, ◌++◌, map, length, ℤ, pos, negsuc, ◌+ℤ◌, ◌*ℤ◌, refl, sym, ap, ◌∙◌, subst, Option, Some}
use mathlib.Core.Path.{ap₂}
use Rattle.std.specs.Prelude.{slice_get}
use Rattle.std.specs.List.{list_any}
use Rattle.std.proofs.lemmas.Bool.{false≢true}
use Rattle.std.proofs.lemmas.Option.{slice_get_within}
use Rattle.std.proofs.lemmas.List.Folds.{list_any-append}
use Rattle.spv_frac.specs.rational.Rational.{Rational, whole, plus, times}
use Rattle.spv_frac.proofs.rational.Field.{plus_comm, plus_assoc, plus_zero, zero_plus, plus_middle, times_assoc, times_zero, zero_times, times_plus, plus_times, whole_plus, whole_times}
use Rattle.spv_logic.specs.declared.conditions.TermId.{TermId}
use Rattle.spv_logic.specs.Terms.{Term, term, terms, no_terms, term_eq}
use Rattle.spv_logic.specs.declared.operators.Head.TheVariants.{Sub}
use Rattle.spv_logic.proofs.Equality.{term_eq-true}
use Rattle.spv_term.specs.Arena.{Arena, IsArena, AllBelow, tree}
use Rattle.spv_term.proofs.NodeLemmas.{id_from}
use Rattle.spv_atoms.specs.Forms.{Form, with_part, with_parts, form, multiple}
use Rattle.spv_atoms.specs.Forms as forms
use Rattle.spv_atoms.specs.Order.{same_id, with_id}
use Rattle.spv_atoms.specs.Linear.{IdForm, coefficient, coefficient_at}
use Rattle.spv_atoms.proofs.Coefficients.{AreDifferent, has_part, none_listed, form-different}
use Rattle.spv_atoms.proofs.Forming.{over-at}
use Rattle.spv_atoms.proofs.Walks.{term_eq-ids}
use Rattle.spv_proof_rules.specs.Sums.{difference}
use Rattle.spv_tableau_rules.specs.tableaux.Numbers.{nothing, minus, minus_one, sum_to}
use Rattle.spv_tableau_rules.specs.tableaux.Rows.{column_of, Point, IsSolution}
use Rattle.spv_tableau_rules.specs.tableaux.Forms.{part_ids, coefficient_in, rows_of}
use Rattle.spv_tableau_rules.specs.tableaux.Forms as columns
use Rattle.spv_tableau_rules.proofs.pivots.Algebra.{minus_one_times}
use Rattle.spv_tableau_rules.proofs.pivots.Sums.{eq_is, eq_self, eq_flip}
use Rattle.spv_tableau_rules.proofs.pivots.Tests.{or_left, or_right}
use Rattle.spv_tableau_rules.specs.constraints.Relations.{IsRowOf, AreIn}
use Rattle.spv_tableau_rules.specs.constraints.Values.{parts_value, form_value, value_among, part_value, value_in}
use Rattle.spv_tableau_rules.proofs.constraints.Columns.{ids_in}

plus_swap : (a b c : Rational) → plus a (plus b c) ≡ plus b (plus a c)
plus_swap a b c = sym (plus_assoc a b c) ∙ (ap (λ x. plus x c) (plus_comm a b) ∙ plus_assoc b a c)

-- ---- differences

module _ (w : Term → Rational) where
  part-value : (t : Term) (n : ℤ) (parts : List (Term × ℤ)) → parts_value w (with_part ◌+ℤ◌ t n parts) ≡ plus (times (whole n) (w t)) (parts_value w parts)
  part-value t n [] = refl
  part-value t n (p ∷ parts) = by_case (term_eq p.0 t) refl (part-value t n parts)
    where
      by_case : (b : Bool) → term_eq p.0 t ≡ b → parts_value w (with_part ◌+ℤ◌ t n parts) ≡ plus (times (whole n) (w t)) (parts_value w parts)
          → parts_value w (cond b ((p.0, p.1 +ℤ n) ∷ parts) (p ∷ with_part ◌+ℤ◌ t n parts)) ≡ plus (times (whole n) (w t)) (plus (times (whole p.1) (w p.0)) (parts_value w parts))
      by_case true e later =
          ap (λ x. plus x (parts_value w parts))
          (ap (λ x. times x (w p.0)) (sym (whole_plus p.1 n))
          ∙ (plus_times (whole p.1) (whole n) (w p.0) ∙ ap (λ u. plus (times (whole p.1) (w p.0)) (times (whole n) (w u))) (term_eq-true p.0 t e)))
          ∙ (plus_assoc (times (whole p.1) (w p.0)) (times (whole n) (w t)) (parts_value w parts) ∙ plus_swap (times (whole p.1) (w p.0)) (times (whole n) (w t)) (parts_value w parts))
      by_case false e later = ap (plus (times (whole p.1) (w p.0))) later ∙ plus_swap (times (whole p.1) (w p.0)) (times (whole n) (w t)) (parts_value w parts)

  pub sum-value : (others parts : List (Term × ℤ)) → parts_value w (with_parts ◌+ℤ◌ (λ n. n) others parts) ≡ plus (parts_value w parts) (parts_value w others)
  sum-value [] parts = sym (plus_zero (parts_value w parts))
  sum-value (p ∷ others) parts =
      sum-value others (with_part ◌+ℤ◌ p.0 p.1 parts)
      ∙ (ap (λ x. plus x (parts_value w others)) (part-value p.0 p.1 parts)
      ∙ (plus_assoc (times (whole p.1) (w p.0)) (parts_value w parts) (parts_value w others) ∙ plus_swap (times (whole p.1) (w p.0)) (parts_value w parts) (parts_value w others)))

  pub multiple-value : (z : ℤ) (parts : List (Term × ℤ)) → parts_value w (map (λ (p : Term × ℤ). (p.0, z *ℤ p.1)) parts) ≡ times (whole z) (parts_value w parts)
  multiple-value z [] = sym (times_zero (whole z))
  multiple-value z (p ∷ parts) =
      ap₂ plus (ap (λ x. times x (w p.0)) (sym (whole_times z p.1)) ∙ times_assoc (whole z) (whole p.1) (w p.0)) (multiple-value z parts)
      ∙ sym (times_plus (whole z) (times (whole p.1) (w p.0)) (parts_value w parts))

  pub minus-value : (f g : Form) → form_value w (forms.minus f g) ≡ minus (form_value w f) (form_value w g)
  minus-value f g =
      ap₂ plus
      (sum-value (multiple (negsuc 0) g).parts f.parts ∙ ap (plus (parts_value w f.parts)) (multiple-value (negsuc 0) g.parts))
      (sym (whole_plus f.constant (negsuc 0 *ℤ g.constant)) ∙ ap (plus (whole f.constant)) (sym (whole_times (negsuc 0) g.constant)))
      ∙ (plus_middle (parts_value w f.parts) (times minus_one (parts_value w g.parts)) (whole f.constant) (times minus_one (whole g.constant))
      ∙ ap (plus (form_value w f)) (sym (times_plus minus_one (parts_value w g.parts) (whole g.constant)) ∙ minus_one_times (form_value w g)))

  -- a form with another constant
  pub more-value : (f : Form) (z : ℤ) → plus (parts_value w f.parts) (whole (f.constant +ℤ z)) ≡ plus (form_value w f) (whole z)
  more-value f z = ap (plus (parts_value w f.parts)) (sym (whole_plus f.constant z)) ∙ sym (plus_assoc (parts_value w f.parts) (whole f.constant) (whole z))

  pub difference-value : (s t : Term) (z : ℤ) → form_value w (difference s t z) ≡ plus (minus (form_value w (form s)) (form_value w (form t))) (whole z)
  difference-value s t z = more-value (forms.minus (form s) (form t)) z ∙ ap (λ x. plus x (whole z)) (minus-value (form s) (form t))

-- ---- sums over columns

sum_first : (n : ℕ) (f : ℕ → Rational) → sum_to (suc n) f ≡ plus (f 0) (sum_to n (λ c. f (suc c)))
sum_first zero f = plus_comm nothing (f 0)
sum_first (suc n) f = ap (λ x. plus x (f (suc n))) (sum_first n f) ∙ plus_assoc (f 0) (sum_to n (λ c. f (suc c))) (f (suc n))

-- the numbers of these ids times the values of their columns
abbrev ids_sum : List TermId → (TermId → Rational) → Point → Rational
ids_sum [] g v = nothing
ids_sum (t ∷ ids) g v = plus (times (g t) (v 0)) (ids_sum ids g (λ c. v (suc c)))

sum_over_ids : (ids : List TermId) (g : Option TermId → Rational) (v : Point) → sum_to (length ids) (λ c. times (g (slice_get ids c)) (v c)) ≡ ids_sum ids (λ t. g (Some t)) v
sum_over_ids [] g v = refl
sum_over_ids (t ∷ ids) g v =
    sum_first (length ids) (λ c. times (g (slice_get (t ∷ ids) c)) (v c)) ∙ ap (plus (times (g (Some t)) (v 0))) (sum_over_ids ids g (λ c. v (suc c)))

ids_same : (n : ℕ) (ids : List TermId) (g h : TermId → Rational) (v : Point) → AllBelow n ids → ((t : TermId) → t.0 < n → g t ≡ h t) → ids_sum ids g v ≡ ids_sum ids h v
ids_same n [] g h v below e = refl
ids_same n (t ∷ ids) g h v below e = ap₂ plus (ap (λ x. times x (v 0)) (e t below.0)) (ids_same n ids g h (λ c. v (suc c)) below.1 e)

ids_plus : (ids : List TermId) (g h : TermId → Rational) (v : Point) → ids_sum ids (λ t. plus (g t) (h t)) v ≡ plus (ids_sum ids g v) (ids_sum ids h v)
ids_plus [] g h v = sym (plus_zero nothing)
ids_plus (t ∷ ids) g h v =
    ap₂ plus (plus_times (g t) (h t) (v 0)) (ids_plus ids g h (λ c. v (suc c)))
    ∙ plus_middle (times (g t) (v 0)) (times (h t) (v 0)) (ids_sum ids g (λ c. v (suc c))) (ids_sum ids h (λ c. v (suc c)))

ids_nothing : (ids : List TermId) (g : TermId → Rational) (v : Point) → ((t : TermId) → list_any (same_id t) ids ≡ true → g t ≡ nothing) → ids_sum ids g v ≡ nothing
ids_nothing [] g v h = refl
ids_nothing (t ∷ ids) g v h =
    ap₂ plus (ap (λ x. times x (v 0)) (h t (first (same_id t t) (list_any (same_id t) ids) (eq_self t.0))) ∙ zero_times (v 0)) (ids_nothing ids g (λ c. v (suc c)) (λ u k. h u (behind (same_id u t) (list_any (same_id u) ids) k)))
    ∙ plus_zero nothing
  where
    first : (a b : Bool) → a ≡ true → (a || b) ≡ true
    first true b h = refl
    first false b h = absurd (false≢true h)

    behind : (a b : Bool) → b ≡ true → (a || b) ≡ true
    behind true b h = refl
    behind false b h = h

-- ---- different columns stand for different terms

abbrev AreDistinct : List TermId → Type 0
AreDistinct [] = Unit {0}
AreDistinct (t ∷ ids) = (list_any (same_id t) ids ≡ false) × AreDistinct ids

distinct_last : (ids : List TermId) (t : TermId) → AreDistinct ids → list_any (same_id t) ids ≡ false → AreDistinct (ids ++ t ∷ [])
distinct_last [] t d h = (refl, tt)
distinct_last (u ∷ ids) t d h = (
  list_any-append (same_id u) ids (t ∷ []) ∙ neither (list_any (same_id u) ids) (same_id u t || false) d.0 (neither (same_id u t) false (eq_flip t.0 u.0 (or_left (same_id t u) (list_any (same_id t) ids) h)) refl),
  distinct_last ids t d.1 (or_right (same_id t u) (list_any (same_id t) ids) h),
)
  where
    neither : (a b : Bool) → a ≡ false → b ≡ false → (a || b) ≡ false
    neither true b h k = h
    neither false b h k = k

distinct_with : (ids : List TermId) (t : TermId) → AreDistinct ids → AreDistinct (with_id ids t)
distinct_with ids t d = by_case (list_any (same_id t) ids) refl
  where
    by_case : (b : Bool) → list_any (same_id t) ids ≡ b → AreDistinct (cond b ids (ids ++ t ∷ []))
    by_case true e = d
    by_case false e = distinct_last ids t d e

distinct_parts : (parts : List (TermId × ℤ)) (ids : List TermId) → AreDistinct ids → AreDistinct (columns.with_parts ids parts)
distinct_parts [] ids d = d
distinct_parts (p ∷ parts) ids d = distinct_parts parts (with_id ids p.0) (distinct_with ids p.0 d)

distinct_forms : (fs : List IdForm) (ids : List TermId) → AreDistinct ids → AreDistinct (columns.with_forms ids fs)
distinct_forms [] ids d = d
distinct_forms (f ∷ fs) ids d = distinct_forms fs (columns.with_parts ids f.parts) (distinct_parts f.parts ids d)

-- ---- a sum of parts over columns

module _ (a : Arena) (ok : IsArena a) where
  -- a term's number at its own column alone
  abbrev alone : Term × ℤ → TermId → Rational
  alone p t = cond (term_eq p.0 (tree a t)) (whole p.1) nothing

  below_of : (n : ℕ) (ids : List TermId) (t : TermId) → AllBelow n ids → list_any (same_id t) ids ≡ true → t.0 < n
  below_of n [] t b h = absurd (false≢true h)
  below_of n (u ∷ ids) t b h = by_case (same_id t u) refl h (below_of n ids t b.1)
    where
      by_case : (c : Bool) → same_id t u ≡ c → (c || list_any (same_id t) ids) ≡ true → (list_any (same_id t) ids ≡ true → t.0 < n) → t.0 < n
      by_case true e k later = subst (λ (m : ℕ). m < n) (sym (eq_is t.0 u.0 e)) b.0
      by_case false e k later = later k

  -- an id that is not listed differs from all that are
  others_differ : (t u : TermId) (ids : List TermId) → list_any (same_id t) ids ≡ false → list_any (same_id u) ids ≡ true → same_id t u ≡ false
  others_differ t u ids h k = by_case (same_id t u) refl
    where
      by_case : (c : Bool) → same_id t u ≡ c → c ≡ false
      by_case true e = sym (ap (λ (i : TermId). list_any (same_id i) ids) (id_from t u (eq_is t.0 u.0 e)) ∙ k) ∙ h
      by_case false e = refl

  sum_alone : (p : Term × ℤ) (ids : List TermId) (v : Point) → AllBelow (length a.nodes) ids → AreDistinct ids → ids_sum ids (alone p) v ≡ times (whole p.1) (value_among a ids v p.0)
  sum_alone p [] v b d = sym (times_zero (whole p.1))
  sum_alone p (t ∷ ids) v b d = by_case (term_eq p.0 (tree a t)) refl (sum_alone p ids (λ c. v (suc c)) b.1 d.1)
    where
      not_there : term_eq p.0 (tree a t) ≡ true → (u : TermId) → list_any (same_id u) ids ≡ true → alone p u ≡ nothing
      not_there e u k =
          ap (λ c. cond c (whole p.1) nothing)
          (ap (λ x. term_eq x (tree a u)) (term_eq-true p.0 (tree a t) e) ∙ (sym (term_eq-ids a ok t u b.0 (below_of (length a.nodes) ids u b.1 k)) ∙ others_differ t u ids d.0 k))

      by_case : (c : Bool) → term_eq p.0 (tree a t) ≡ c → ids_sum ids (alone p) (λ n. v (suc n)) ≡ times (whole p.1) (value_among a ids (λ n. v (suc n)) p.0)
          → plus (times (cond c (whole p.1) nothing) (v 0)) (ids_sum ids (alone p) (λ n. v (suc n))) ≡ times (whole p.1) (cond c (v 0) (value_among a ids (λ n. v (suc n)) p.0))
      by_case true e later = ap (plus (times (whole p.1) (v 0))) (ids_nothing ids (alone p) (λ n. v (suc n)) (not_there e)) ∙ plus_zero (times (whole p.1) (v 0))
      by_case false e later = ap (λ x. plus x (ids_sum ids (alone p) (λ n. v (suc n)))) (zero_times (v 0)) ∙ (zero_plus (ids_sum ids (alone p) (λ n. v (suc n))) ∙ later)

  abbrev number_in : List (Term × ℤ) → TermId → Rational
  number_in parts t = whole (coefficient parts (tree a t))

  -- the number of a term in parts: that of the one in front, and that of those behind it
  in_front : (p : Term × ℤ) (parts : List (Term × ℤ)) → has_part parts p.0 ≡ false → (t : TermId) → number_in (p ∷ parts) t ≡ plus (alone p t) (number_in parts t)
  in_front p parts d t = by_case (term_eq p.0 (tree a t)) refl
    where
      by_case : (c : Bool) → term_eq p.0 (tree a t) ≡ c → whole (cond c p.1 (coefficient parts (tree a t))) ≡ plus (cond c (whole p.1) nothing) (number_in parts t)
      by_case true e = sym (ap (λ z. plus (whole p.1) (whole z)) (none_listed parts (tree a t) (ap (has_part parts) (sym (term_eq-true p.0 (tree a t) e)) ∙ d)) ∙ plus_zero (whole p.1))
      by_case false e = sym (zero_plus (number_in parts t))

  parts_over : (ids : List TermId) (v : Point) → AllBelow (length a.nodes) ids → AreDistinct ids → (parts : List (Term × ℤ)) → AreDifferent parts
      → parts_value (value_among a ids v) parts ≡ ids_sum ids (number_in parts) v
  parts_over ids v b d [] e = sym (ids_nothing ids (number_in []) v (λ t h. refl))
  parts_over ids v b d (p ∷ parts) e =
      ap₂ plus (sym (sum_alone p ids v b d)) (parts_over ids v b d parts e.1)
      ∙ (sym (ids_plus ids (alone p) (number_in parts) v) ∙ ids_same (length a.nodes) ids (λ t. plus (alone p t) (number_in parts t)) (number_in (p ∷ parts)) v b (λ t below. sym (in_front p parts e.0 t)))

  -- ---- rows

  module _ (fs : List IdForm) (inside : AreIn a fs) (v : Point) (solution : IsSolution (rows_of fs) v) (i : ℕ) (f : IdForm) (at : slice_get fs i ≡ Some f) (s t : Term) (row : IsRowOf a (s, t) f) where
    abbrev exact : Form
    exact = difference s t (pos 0)

    -- the column of a row holds what the parts of the difference are worth
    pub row_value : v (column_of (rows_of fs) i) ≡ parts_value (part_value a fs v) exact.parts
    row_value =
        solution i (slice_get_within fs i f at)
        ∙ (sum_over_ids (part_ids fs) (coefficient_in (slice_get fs i)) v
        ∙ (ap (λ (o : Option IdForm). ids_sum (part_ids fs) (λ u. coefficient_in o (Some u)) v) at
        ∙ (ids_same (length a.nodes) (part_ids fs) (λ u. whole (coefficient_at f.parts u)) (number_in exact.parts) v below
        (λ u k. ap whole (sym (over-at a ok f.parts u row.in_range k) ∙ row.same.parts (tree a u)))
        ∙ sym (parts_over (part_ids fs) v below (distinct_forms fs [] tt) exact.parts (form-different (term Sub (terms s (terms t no_terms))))))))
      where
        below : AllBelow (length a.nodes) (part_ids fs)
        below = ids_in a fs inside

    pub row_worth : plus (v (column_of (rows_of fs) i)) (whole f.constant) ≡ minus (value_in a fs v s) (value_in a fs v t)
    row_worth =
        ap₂ plus row_value (ap whole row.same.constant)
        ∙ (difference-value (part_value a fs v) s t (pos 0) ∙ plus_zero (minus (value_in a fs v s) (value_in a fs v t)))
