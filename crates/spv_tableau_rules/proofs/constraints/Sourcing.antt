-- Where bounds come from, as they are added and taken back.
use Rattle.std.proofs.Common.{◌≡◌, ℕ, zero, suc, Bool, true, false, cond, ◌&&◌, List, [], ◌∷◌, ◌++◌, take, drop, nat_eq, ℤ, refl, sym, ap, ◌∙◌, subst, Option, Some, None}
use Rattle.std.specs.Prelude.{slice_get}
use Rattle.std.proofs.lemmas.List.{take-append-drop}
use Rattle.spv_frac.specs.rational.Rational.{Rational}
use Rattle.spv_logic.specs.Terms.{Term}
use Rattle.spv_term.specs.Arena.{Arena}
use Rattle.spv_atoms.specs.Linear.{IdForm}
use Rattle.spv_proof_rules.specs.Sums.{Reading, read_cited, cited_reading}
use Rattle.spv_tableau_rules.specs.declared.tableaux.side.Side.{Side}
use Rattle.spv_tableau_rules.specs.declared.tableaux.side.Side.TheVariants.{Lower, Upper}
use Rattle.spv_tableau_rules.specs.tableaux.Bounds.{Bound, same_side, bound_on}
use Rattle.spv_tableau_rules.proofs.pivots.Sums.{eq_is}
use Rattle.spv_tableau_rules.proofs.pivots.Tests.{and_left, and_right}
use Rattle.spv_tableau_rules.specs.declared.constraints.saying.RowConstraint.{RowConstraint}
use Rattle.spv_tableau_rules.specs.declared.constraints.saying.RowConstraint.TheVariants.{Equal, Below, AtMost, Above, AtLeast, Differs}
use Rattle.spv_tableau_rules.specs.declared.constraints.source.Source.{Source}
use Rattle.spv_tableau_rules.specs.constraints.Sayings.{reading_of, bounds_of}
use Rattle.spv_tableau_rules.specs.constraints.Sources.{fact_reading, Sources, IsSourced, AreSourced, with_source}

-- ---- bounds behind others

abbrev first_bound : Option Rational → Option Rational → Option Rational
first_bound None o = o
first_bound (Some x) o = Some x

bound_behind : (bounds others : List Bound) (i : ℕ) (side : Side) → bound_on (bounds ++ others) i side ≡ first_bound (bound_on bounds i side) (bound_on others i side)
bound_behind [] others i side = refl
bound_behind (b ∷ bounds) others i side = by_case (nat_eq b.row i && same_side b.side side) (bound_behind bounds others i side)
  where
    by_case : (c : Bool) → bound_on (bounds ++ others) i side ≡ first_bound (bound_on bounds i side) (bound_on others i side)
        → cond c (Some b.value) (bound_on (bounds ++ others) i side) ≡ first_bound (cond c (Some b.value) (bound_on bounds i side)) (bound_on others i side)
    by_case true later = refl
    by_case false later = later

pub bound_stays : (bounds others : List Bound) (i : ℕ) (side : Side) (value : Rational) → bound_on bounds i side ≡ Some value → bound_on (bounds ++ others) i side ≡ Some value
bound_stays bounds others i side value e = bound_behind bounds others i side ∙ ap (λ o. first_bound o (bound_on others i side)) e

same_side_is : (s t : Side) → same_side s t ≡ true → s ≡ t
same_side_is Lower Lower h = refl
same_side_is Upper Upper h = refl
same_side_is Lower Upper h = absurd (cc)
same_side_is Upper Lower h = absurd (cc)

-- ---- bounds that are added and taken back

pub none_sourced : (a : Arena) (facts : ℕ → Option Reading) (forms : List IdForm) (sources : Sources) → AreSourced a facts forms [] sources
none_sourced a facts forms sources = record { each = λ i f side value at bound. absurd (cc) }

module _ (a : Arena) (facts : ℕ → Option Reading) (forms : List IdForm) (bounds : List Bound) (sources : Sources) (are : AreSourced a facts forms bounds sources) where
  pub first_sourced : (n : ℕ) → AreSourced a facts forms (take n bounds) sources
  first_sourced n = record {
    each = λ i f side value at bound.
        are.each i f side value at (subst (λ (bs : List Bound). bound_on bs i side ≡ Some value) (take-append-drop n bounds) (bound_stays (take n bounds) (drop n bounds) i side value bound));
  }

  module _ (b : Bound) (s : Source) (free : bound_on bounds b.row b.side ≡ None) (new : (f : IdForm) → slice_get forms b.row ≡ Some f → IsSourced a facts b.row f b.side b.value s) where
    abbrev last : ℕ → Side → Source
    last i side = cond (nat_eq b.row i && same_side b.side side) s (sources i side)

    -- on the side of the new bound
    here : (i : ℕ) (f : IdForm) (side : Side) (value : Rational) → slice_get forms i ≡ Some f → b.row ≡ i → b.side ≡ side → b.value ≡ value → IsSourced a facts i f side value s
    here i f side value at row_is side_is value_is =
        subst (λ (x : Rational). IsSourced a facts i f side x s) value_is
        (subst (λ (d : Side). IsSourced a facts i f d b.value s) side_is
        (subst (λ (j : ℕ). slice_get forms j ≡ Some f → IsSourced a facts j f b.side b.value s) row_is (new f) at))

    -- on a side that was free
    by_new : (i : ℕ) (f : IdForm) (side : Side) (value : Rational) → slice_get forms i ≡ Some f → (c : Bool) → (nat_eq b.row i && same_side b.side side) ≡ c → cond c (Some b.value) None ≡ Some value
        → IsSourced a facts i f side value (cond c s (sources i side))
    by_new i f side value at true e bound =
        here i f side value at (eq_is b.row i (and_left (nat_eq b.row i) (same_side b.side side) e)) (same_side_is b.side side (and_right (nat_eq b.row i) (same_side b.side side) e)) (cc)
    by_new i f side value at false e bound = absurd (cc)

    -- on a side that had a bound
    by_old : (i : ℕ) (f : IdForm) (side : Side) (value : Rational) → slice_get forms i ≡ Some f → bound_on bounds i side ≡ Some value → (c : Bool) → (nat_eq b.row i && same_side b.side side) ≡ c
        → IsSourced a facts i f side value (cond c s (sources i side))
    by_old i f side value at bound true e =
        let row_is : b.row ≡ i = eq_is b.row i (and_left (nat_eq b.row i) (same_side b.side side) e) in
        let side_is : b.side ≡ side = same_side_is b.side side (and_right (nat_eq b.row i) (same_side b.side side) e) in
        absurd (clash (sym free ∙ (ap (λ (j : ℕ). bound_on bounds j b.side) row_is ∙ (ap (bound_on bounds i) side_is ∙ bound))))
      where
        clash : None ≡ Some value → ⊥
        clash h = cc
    by_old i f side value at bound false e = are.each i f side value at bound

    either : (i : ℕ) (f : IdForm) (side : Side) (value : Rational) → slice_get forms i ≡ Some f → (o : Option Rational) → bound_on bounds i side ≡ o
        → first_bound o (bound_on (b ∷ []) i side) ≡ Some value → IsSourced a facts i f side value (last i side)
    either i f side value at None e bound = by_new i f side value at (nat_eq b.row i && same_side b.side side) refl bound
    either i f side value at (Some x) e bound = by_old i f side value at (e ∙ bound) (nat_eq b.row i && same_side b.side side) refl

    pub one_more_sourced : AreSourced a facts forms (bounds ++ b ∷ []) (with_source sources b.row b.side s)
    one_more_sourced = record { each = λ i f side value at bound. either i f side value at (bound_on bounds i side) refl (sym (bound_behind bounds (b ∷ []) i side) ∙ bound) }

-- ---- facts

module _ (a : Arena) (facts others : ℕ → Option Reading) (kept : (k : ℕ) (r : Reading) → facts k ≡ Some r → others k ≡ Some r) where
  read_again : (k i : ℕ) (z : ℤ) (side : Side) (value : Rational) (s t : Term) (x : RowConstraint) → bound_on (bounds_of i z x) i side ≡ Some value → facts k ≡ reading_of x s t → others k ≡ reading_of x s t
  read_again k i z side value s t Equal bound read = kept k _ read
  read_again k i z side value s t Below bound read = kept k _ read
  read_again k i z side value s t AtMost bound read = kept k _ read
  read_again k i z side value s t Above bound read = kept k _ read
  read_again k i z side value s t AtLeast bound read = kept k _ read
  read_again k i z side value s t Differs bound read = absurd (cc)

  pub kept_sourced : (forms : List IdForm) (bounds : List Bound) (sources : Sources) → AreSourced a facts forms bounds sources → AreSourced a others forms bounds sources
  kept_sourced forms bounds sources are = record {
    each = λ i f side value at bound.
        let s = are.each i f side value at bound in
        record {
          left = s.left;
          right = s.right;
          saying = s.saying;
          row = s.row;
          bound = s.bound;
          read = read_again (sources i side).fact i f.constant side value s.left s.right s.saying s.bound s.read;
          equal = s.equal;
        };
  }

still_there : {A : Type 0} (xs ys : List A) (k : ℕ) (x : A) → slice_get xs k ≡ Some x → slice_get (xs ++ ys) k ≡ Some x
still_there [] ys k x e = absurd (cc)
still_there (y ∷ xs) ys zero x e = e
still_there (y ∷ xs) ys (suc k) x e = still_there xs ys k x e

pub kept_with_facts : (is_number : Term → Bool) (a : Arena) (facts more : List Term) (forms : List IdForm) (bounds : List Bound) (sources : Sources)
    → AreSourced a (fact_reading is_number facts) forms bounds sources → AreSourced a (fact_reading is_number (facts ++ more)) forms bounds sources
kept_with_facts is_number a facts more forms bounds sources are = kept_sourced a (fact_reading is_number facts) (fact_reading is_number (facts ++ more)) kept forms bounds sources are
  where
    by_fact : (k : ℕ) (r : Reading) (o : Option Term) → slice_get facts k ≡ o → read_cited is_number o ≡ Some r → read_cited is_number (slice_get (facts ++ more) k) ≡ Some r
    by_fact k r None e h = absurd (cc)
    by_fact k r (Some t) e h = ap (read_cited is_number) (still_there facts more k t e) ∙ h

    kept : (k : ℕ) (r : Reading) → fact_reading is_number facts k ≡ Some r → fact_reading is_number (facts ++ more) k ≡ Some r
    kept zero r h = absurd (cc)
    kept (suc k) r h = by_fact k r (slice_get facts k) refl h

pub kept_in_step : (is_number : Term → Bool) (a : Arena) (facts : List Term) (denied : Reading) (forms : List IdForm) (bounds : List Bound) (sources : Sources)
    → AreSourced a (fact_reading is_number facts) forms bounds sources → AreSourced a (cited_reading is_number facts denied) forms bounds sources
kept_in_step is_number a facts denied forms bounds sources are = kept_sourced a (fact_reading is_number facts) (cited_reading is_number facts denied) kept forms bounds sources are
  where
    kept : (k : ℕ) (r : Reading) → fact_reading is_number facts k ≡ Some r → cited_reading is_number facts denied k ≡ Some r
    kept zero r h = absurd (cc)
    kept (suc k) r h = h
