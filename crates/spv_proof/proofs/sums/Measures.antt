-- The difference of two terms, from the difference of their forms over ids.
use Rattle.std.proofs.Common.{◌≡◌, ℕ, zero, suc, ◌<◌, ◌≤◌, Bool, true, false, cond, ◌&&◌, List, [], ◌∷◌, length, ℤ, pos, negsuc, ◌+ℤ◌, ◌*ℤ◌, nat_eq, refl, sym, ap, ◌∙◌, subst, Option, Some, None, inl, inr, arith}
use mathlib.Core.Path.{ap₂}
use Rattle.std.proofs.lemmas.Bool.{cases_lt, eqb-true}
use Rattle.std.proofs.lemmas.Bool.Decides.{nat_tests}
use Rattle.spv_logic.specs.declared.conditions.TermId.{TermId}
use Rattle.spv_logic.specs.Terms.{Term, term, no_terms, terms, term_eq}
use Rattle.spv_logic.specs.declared.operators.Head.TheVariants.{Sub}
use Rattle.spv_logic.proofs.Equality.{term_eq-true}
use Rattle.spv_term.specs.Arena.{Arena, IsArena, tree}
use Rattle.spv_frac.specs.Range.{fits}
use Rattle.spv_atoms.specs.Forms.{form, form_fits, is_narrow}
use Rattle.spv_atoms.specs.Linear.{coefficient, IsSameForm, IdForm, coefficient_at, ArePartsFrom, IsIdForm, PartsIn, over_trees, form_over, IsFormOf}
use Rattle.spv_atoms.proofs.Coefficients.{AreDifferent, minus-coefficient, form-different, both_true, same-fits, not-all-fit}
use Rattle.spv_atoms.proofs.Forming.{out-of-range, id-form-fits, over-at}
use Rattle.spv_proof_rules.specs.Sums.{difference}
use Rattle.spv_proof_rules.specs.Stops.{is_measured}
use Rattle.spv_proof.specs.sums.Differences.{more, IsDifferenceWith, IsWideWith, IsDifferenceForm, IsNarrowForm, IsMeasureOf, IsMeasure}

-- ---- where a term stands

record IsHere (a : Arena) (x : Term) : Type 0 where
  id : TermId
  in_range : id.0 < length a.nodes
  is : tree a id ≡ x

abbrev NotUnder : Arena → Term → ℕ → Type 0
NotUnder a x n = (t : TermId) → t.0 < n → term_eq (tree a t) x ≡ false

data Place (a : Arena) (x : Term) (n : ℕ) : Type 0 where
  Here : IsHere a x → Place a x n
  Nowhere : NotUnder a x n → Place a x n

look : (a : Arena) (x : Term) (n : ℕ) → n ≤ length a.nodes → Place a x n
look a x zero h = Nowhere (λ t k. absurd (omega (arith, k)))
look a x (suc n) h = by_place (look a x n (omega (arith, h)))
  where
    last : NotUnder a x n → (b : Bool) → term_eq (tree a (record { 0 = n })) x ≡ b → Place a x (suc n)
    last others true e = Here (record { id = record { 0 = n }; in_range = omega (arith, h); is = term_eq-true (tree a (record { 0 = n })) x e })
    last others false e = Nowhere (λ t k. by_case t k (nat_eq t.0 n) refl)
      where
        before : (m n : ℕ) → m < suc n → nat_eq m n ≡ false → m < n
        before m n k f = grind (arith, nat_tests)

        by_case : (t : TermId) → t.0 < suc n → (c : Bool) → nat_eq t.0 n ≡ c → term_eq (tree a t) x ≡ false
        by_case t k true f = ap (λ m. term_eq (tree a (record { 0 = m })) x) (eqb-true t.0 n f) ∙ e
        by_case t k false f = others t (before t.0 n k f)

    by_place : Place a x n → Place a x (suc n)
    by_place (Here i) = Here i
    by_place (Nowhere others) = last others (term_eq (tree a (record { 0 = n })) x) refl

nowhere : (a : Arena) (x : Term) → NotUnder a x (length a.nodes) → (parts : List (TermId × ℤ)) → PartsIn a parts → coefficient (over_trees a parts) x ≡ pos 0
nowhere a x h [] i = refl
nowhere a x h (p ∷ parts) i = ap (λ b. cond b p.1 (coefficient (over_trees a parts) x)) (h p.0 i.0) ∙ nowhere a x h parts i.1

-- ---- differences of parts

-- parts that are not zero are in the arena where no id beyond it is listed
parts-in : (a : Arena) (low : ℕ) (parts : List (TermId × ℤ)) → ArePartsFrom low parts → ((t : TermId) → length a.nodes ≤ t.0 → coefficient_at parts t ≡ pos 0) → PartsIn a parts
parts-in a low [] h k = tt
parts-in a low (p ∷ parts) h k = elim (cases_lt p.0.0 (length a.nodes)) [
  | inl below ↦ (below, parts-in a (suc p.0.0) parts h.1 (λ t g. sym (ap (λ b. cond b p.1 (coefficient_at parts t)) (differ p.0.0 t.0 (length a.nodes) below g)) ∙ k t g))
  | inr above ↦ absurd (h.0.nonzero (sym (ap (λ b. cond b p.1 (coefficient_at parts p.0)) (same p.0.0)) ∙ k p.0 above))
]
  where
    differ : (n m l : ℕ) → n < l → l ≤ m → nat_eq n m ≡ false
    differ n m l h k = grind (arith, nat_tests)

    same : (n : ℕ) → nat_eq n n ≡ true
    same n = grind (arith, nat_tests)

abbrev less : ℤ → ℤ → ℤ
less m n = m +ℤ negsuc 0 *ℤ n

module _ (a : Arena) (ok : IsArena a) (left right : List (TermId × ℤ)) (left_in : PartsIn a left) (right_in : PartsIn a right) where
  differences-in : (parts : List (TermId × ℤ)) → ArePartsFrom 0 parts → ((t : TermId) → coefficient_at parts t ≡ less (coefficient_at left t) (coefficient_at right t)) → PartsIn a parts
  differences-in parts h made = parts-in a 0 parts h (λ t k. made t ∙ ap₂ less (out-of-range a left t left_in k) (out-of-range a right t right_in k))

  differences-over : (parts : List (TermId × ℤ)) → PartsIn a parts → ((t : TermId) → coefficient_at parts t ≡ less (coefficient_at left t) (coefficient_at right t)) → (x : Term)
      → coefficient (over_trees a parts) x ≡ less (coefficient (over_trees a left) x) (coefficient (over_trees a right) x)
  differences-over parts parts_in made x = by_place (look a x (length a.nodes) (omega arith))
    where
      by_place : Place a x (length a.nodes) → coefficient (over_trees a parts) x ≡ less (coefficient (over_trees a left) x) (coefficient (over_trees a right) x)
      by_place (Here i) = subst (λ (y : Term). coefficient (over_trees a parts) y ≡ less (coefficient (over_trees a left) y) (coefficient (over_trees a right) y)) i.is
          (over-at a ok parts i.id parts_in i.in_range ∙ (made i.id ∙ sym (ap₂ less (over-at a ok left i.id left_in i.in_range) (over-at a ok right i.id right_in i.in_range))))
      by_place (Nowhere h) = nowhere a x h parts parts_in ∙ sym (ap₂ less (nowhere a x h left left_in) (nowhere a x h right right_in))

-- ---- differences of terms

module _ (a : Arena) (ok : IsArena a) (x y : Term) (b : Bool) (f g : IdForm) (left : IsFormOf a x f) (right : IsFormOf a y g) where
  parts_are : (t : Term) → coefficient (difference x y (more b)).parts t ≡ less (coefficient (over_trees a f.parts) t) (coefficient (over_trees a g.parts) t)
  parts_are t = minus-coefficient (form x) (form y) t (form-different y) ∙ sym (ap₂ less (left.same.parts t) (right.same.parts t))

  constant_is : less f.constant g.constant +ℤ more b ≡ (difference x y (more b)).constant
  constant_is = ap (λ z. z +ℤ more b) (ap₂ less left.same.constant right.same.constant)

  different : AreDifferent (difference x y (more b)).parts
  different = form-different (term Sub (terms x (terms y no_terms)))

  pub measured : (d : IdForm) → IsIdForm d → IsDifferenceWith b f g d → IsMeasureOf a x y b d
  measured d k made = record {
    fits =
        both_true (is_narrow x) (is_narrow y && form_fits (difference x y (more b))) left.narrow
        (both_true (is_narrow y) (form_fits (difference x y (more b))) right.narrow (same-fits (form_over a d) (difference x y (more b)) same different (id-form-fits a d k)));
    over = record { in_range = inside; same = same };
  }
    where
      inside : PartsIn a d.parts
      inside = differences-in a ok f.parts g.parts left.in_range right.in_range d.parts k.parts made.parts

      same : IsSameForm (form_over a d) (difference x y (more b))
      same = record {
        parts = λ t. differences-over a ok f.parts g.parts left.in_range right.in_range d.parts inside made.parts t ∙ sym (parts_are t);
        constant = made.constant ∙ constant_is;
      }

  pub too_wide : IsWideWith b f g → is_measured x y (more b) ≡ false
  too_wide wide = ap₂ (λ c d. c && (d && form_fits (difference x y (more b)))) left.narrow right.narrow ∙ not-all-fit (difference x y (more b)) (λ h k. wide.not_all (fit h) (ap fits constant_is ∙ k))
    where
      fit : ((t : Term) → fits (coefficient (difference x y (more b)).parts t) ≡ true) → (t : TermId) → fits (less (coefficient_at f.parts t) (coefficient_at g.parts t)) ≡ true
      fit h t = elim (cases_lt t.0 (length a.nodes)) [
        | inl below ↦
            ap fits (sym (ap₂ less (over-at a ok f.parts t left.in_range below) (over-at a ok g.parts t right.in_range below)) ∙ sym (parts_are (tree a t))) ∙ h (tree a t)
        | inr above ↦ ap fits (ap₂ less (out-of-range a f.parts t left.in_range above) (out-of-range a g.parts t right.in_range above))
      ]

-- ---- what was found

pub narrow_some : (a : Arena) (x : Term) (o : Option IdForm) (f : IdForm) → IsNarrowForm a x o → o ≡ Some f → IsFormOf a x f
narrow_some a x None f h e = absurd (cc)
narrow_some a x (Some g) f h e = let same : g ≡ f = cc in subst (IsFormOf a x) same h

pub difference_some : (b : Bool) (f g : IdForm) (o : Option IdForm) (d : IdForm) → IsDifferenceForm b f g o → o ≡ Some d → IsDifferenceWith b f g d
difference_some b f g None d h e = absurd (cc)
difference_some b f g (Some c) d h e = let same : c ≡ d = cc in subst (IsDifferenceWith b f g) same h

pub difference_none : (b : Bool) (f g : IdForm) (o : Option IdForm) → IsDifferenceForm b f g o → o ≡ None → IsWideWith b f g
difference_none b f g None h e = h
difference_none b f g (Some c) h e = absurd (cc)

pub measure_some : (a : Arena) (x y : Term) (b : Bool) (o : Option IdForm) (d : IdForm) → IsMeasure a x y b o → o ≡ Some d → IsMeasureOf a x y b d
measure_some a x y b None d h e = absurd (cc)
measure_some a x y b (Some c) d h e = let same : c ≡ d = cc in subst (IsMeasureOf a x y b) same h

pub measure_none : (a : Arena) (x y : Term) (b : Bool) (o : Option IdForm) → IsMeasure a x y b o → o ≡ None → is_measured x y (more b) ≡ false
measure_none a x y b None h e = h
measure_none a x y b (Some c) h e = absurd (cc)
