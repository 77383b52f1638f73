-- Whether a bound may be asserted.
use Rattle.std.proofs.Common.{◌≡◌, ℕ, ◌<◌, Bool, true, false, not, List, length, Option, Some, None, Result, Ok, Err, IfOk, IfErr, ◌↔◌, refl, sym, ap, ◌∙◌, subst}
use Rattle.std.specs.Bool.{IsTrue}
use Rattle.std.proofs.lemmas.Bool.{false≢true}
use Rattle.spv_logic.specs.declared.conditions.TermId.{TermId}
use Rattle.spv_frac.specs.rational.Rational.{Rational}
use Rattle.spv_tableau_rules.specs.declared.tableaux.side.Side.{Side}
use Rattle.spv_tableau_rules.specs.tableaux.Bounds.{Bound, bound_on, other_side}
use Rattle.spv_dictionary.specs.pivoting.Trail.{Trail, IsFree, bound_of}
use Rattle.spv_simplex.specs.State.{State, IsKept, clashes, LeavesValue, IsUncomparable, MayAssert}

module _ (s : State) (t : Trail) (bounds : s.bounds ≡ t.bounds) (room : s.trail ≡ t.most) (rows : t.rows ≡ length s.forms) (row : ℕ) (side : Side) (value : Rational) where
  -- a bound that may be asserted is free
  pub is_free : MayAssert s (bound_of row side value) → IsFree t row side
  is_free m = record {
    inside = subst (λ (n : ℕ). row < n) (sym rows) m.row_in;
    room = subst (λ (n : ℕ). length t.bounds < n) room (subst (λ (xs : List Bound). length xs < s.trail) bounds m.room);
    free = subst (λ (xs : List Bound). bound_on xs row side ≡ None) bounds m.free;
  }

  pub may : IsFree t row side → (other : Option Rational) → other ≡ bound_on t.bounds row (other_side side) → LeavesValue side value other → MayAssert s (bound_of row side value)
  may f other is leaves = record {
    row_in = subst (λ (n : ℕ). row < n) rows f.inside;
    room = subst (λ (xs : List Bound). length xs < s.trail) (sym bounds) (subst (λ (n : ℕ). length t.bounds < n) (sym room) f.room);
    free = subst (λ (xs : List Bound). bound_on xs row side ≡ None) (sym bounds) f.free;
    ordered = subst (λ (o : Option Rational). LeavesValue side value o) (is ∙ ap (λ xs. bound_on xs row (other_side side)) (sym bounds)) leaves;
  }

  pub leaves : (other : Option Rational) → other ≡ bound_on t.bounds row (other_side side) → MayAssert s (bound_of row side value) → LeavesValue side value other
  leaves other is m = subst (λ (o : Option Rational). LeavesValue side value o) (sym (is ∙ ap (λ xs. bound_on xs row (other_side side)) (sym bounds))) m.ordered

-- what clashes leaves no value, and what does not leaves one
pub leaves_some : (side : Side) (value against : Rational) (o : Option Rational) (clash : Bool) → clash ≡ clashes side value against → o ≡ Some against
    → IsTrue (not clash) ↔ LeavesValue side value o
leaves_some side value against o clash is at = (to_all, of_one)
  where
    some_is : (x y : Rational) → Some x ≡ Some y → x ≡ y
    some_is x y e = ap (read x) e
      where
        read : Rational → Option Rational → Rational
        read d None = d
        read d (Some z) = z

    not_true : (b : Bool) → IsTrue (not b) → b ≡ false
    not_true true h = absurd (false≢true h)
    not_true false h = refl

    of_false : (b : Bool) → b ≡ false → IsTrue (not b)
    of_false b e = rw e refl

    to_all : IsTrue (not clash) → LeavesValue side value o
    to_all h other e = subst (λ (x : Rational). clashes side value x ≡ false) (some_is against other (sym at ∙ e)) (sym is ∙ not_true clash h)

    of_one : LeavesValue side value o → IsTrue (not clash)
    of_one l = of_false clash (is ∙ l against at)

pub if_ok_iff : {E : Type 0} (r : Result Bool E) (P Q : Type 0) → IfOk r (λ b. IsTrue b ↔ P) → (P → Q) → (Q → P) → IfOk r (λ b. IsTrue b ↔ Q)
if_ok_iff (Ok b) P Q h f g = (λ x. f (h.0 x), λ y. h.1 (g y))
if_ok_iff (Err e) P Q h f g = tt

pub accepts_as : {E : Type 0} (s now : State) (ids : List TermId) (t : Trail) (met capacity : ℕ) → IsKept s ids t met capacity → s.bounds ≡ t.bounds → s.trail ≡ t.most → s ≡ now
    → (row : ℕ) (side : Side) (x y : Rational) → x ≡ y → IsFree t row side → (other : Option Rational) → other ≡ bound_on t.bounds row (other_side side)
    → (r : Result Bool E) → IfOk r (λ b. IsTrue b ↔ LeavesValue side x other) → IfOk r (λ b. IsTrue b ↔ MayAssert now (bound_of row side y))
accepts_as s now ids t met capacity k bounds room view row side x y value free other is r h =
    subst (λ (z : State). IfOk r (λ b. IsTrue b ↔ MayAssert z (bound_of row side y))) view
    (subst (λ (z : Rational). IfOk r (λ b. IsTrue b ↔ MayAssert s (bound_of row side z))) value
    (if_ok_iff r (LeavesValue side x other) (MayAssert s (bound_of row side x)) h (may s t bounds room k.rows_are row side x free other is) (leaves s t bounds room k.rows_are row side x other is)))

pub uncomparable_as : {T E : Type 0} (s now : State) → s ≡ now → (row : ℕ) (side : Side) (x y : Rational) → x ≡ y → (other : Option Rational) → other ≡ bound_on s.bounds row (other_side side)
    → (r : Result T E) → IfErr r (λ e. IsUncomparable side x other) → IfErr r (λ e. IsUncomparable side y (bound_on now.bounds row (other_side side)))
uncomparable_as s now view row side x y value other is (Ok t) h = tt
uncomparable_as s now view row side x y value other is (Err e) h =
    subst (λ (z : State). IsUncomparable side y (bound_on z.bounds row (other_side side))) view
    (subst (λ (z : Rational). IsUncomparable side z (bound_on s.bounds row (other_side side))) value (subst (IsUncomparable side x) is h))
