-- Points and places that agree.
use Rattle.std.proofs.Common.{◌≡◌, ℕ, ◌+◌, ◌<◌, Bool, List, refl, sym, ap, ◌∙◌, arith, if◌then◌else◌}
use Rattle.spv_frac.specs.rational.Rational.{Rational, times}
use Rattle.spv_tableau_rules.specs.tableaux.Numbers.{sum_to}
use Rattle.spv_tableau_rules.specs.tableaux.Rows.{Rows, columns, column_of, Point, IsSolution}
use Rattle.spv_tableau_rules.specs.tableaux.Bounds.{Limits}
use Rattle.spv_tableau_rules.specs.tableaux.Solved.{Places, is_basic, Entries, point, at_rest, resting}
use Rattle.spv_tableau_rules.proofs.pivots.Stepping.{basis_alone}
use Rattle.spv_tableau_rules.proofs.pivots.Sums.{sum_same}
use Rattle.spv_dictionary.specs.Dictionary.{Dictionary, entries}
use Rattle.spv_simplex.specs.pivot_runs.Along.{IsAt}

pub point_same : (rows : Rows) (limits : Limits) (g h : Point) (p q : Places) (t : Entries) → ((c : ℕ) → c < columns rows → is_basic (p c) ≡ is_basic (q c))
    → ((c : ℕ) → c < columns rows → at_rest limits g p c ≡ at_rest limits h q c) → (c : ℕ) → c < columns rows → point rows limits g p t c ≡ point rows limits h q t c
point_same rows limits g h p q t basis rest c below = by_place (is_basic (p c)) refl (is_basic (q c)) refl
  where
    same_sum : sum_to (columns rows) (λ x. times (t c x) (at_rest limits g p x)) ≡ sum_to (columns rows) (λ x. times (t c x) (at_rest limits h q x))
    same_sum = sum_same (columns rows) _ _ (λ x k. ap (times (t c x)) (rest x k))

    choice : (b d : Bool) → b ≡ d → (x y z w : Rational) → x ≡ z → y ≡ w → (if b then x else y) ≡ (if d then z else w)
    choice b d e x y z w f g = rw (e, f, g) refl

    by_place : (b : Bool) → is_basic (p c) ≡ b → (d : Bool) → is_basic (q c) ≡ d → point rows limits g p t c ≡ point rows limits h q t c
    by_place b e d f = choice (is_basic (p c)) (is_basic (q c)) (basis c below) _ _ _ _ same_sum (rest c below)

-- places that agree below the last column
pub at_same : (rows : Rows) (limits : Limits) (held : Point) (p q : Places) (d : Dictionary) (values : List Rational) → ((c : ℕ) → c < columns rows → p c ≡ q c)
    → IsAt rows limits held p d values → IsAt rows limits held q d values
at_same rows limits held p q d values same at = record {
  solved = basis_alone rows p q (entries d) (λ c h. ap is_basic (sym (same c h))) at.solved;
  spots = at.spots;
  basis = λ c h. at.basis c h ∙ ap is_basic (same c h);
  count = at.count;
  point_is = λ c h. at.point_is c h ∙ point_same rows limits held held p q (entries d) (λ x k. ap is_basic (same x k)) (λ x k. ap (resting limits held x) (same x k)) c h;
}

-- points that agree below the last column
pub solution_same : (rows : Rows) (v w : Point) → ((c : ℕ) → c < columns rows → v c ≡ w c) → IsSolution rows v → IsSolution rows w
solution_same rows v w same s i below =
    sym (same (column_of rows i) (more rows.parts i rows.count below)) ∙ s i below
    ∙ sum_same rows.parts _ _ (λ c h. ap (times (rows.coefficient i c)) (same c (fewer c rows.parts rows.count h)))
  where
    more : (p i n : ℕ) → i < n → p + i < p + n
    more p i n h = omega arith

    fewer : (c p n : ℕ) → c < p → c < p + n
    fewer c p n h = omega arith
