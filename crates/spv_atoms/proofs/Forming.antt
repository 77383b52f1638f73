-- Forms over ids are forms of the terms that the ids stand for.
use Rattle.std.proofs.Common.{◌≡◌, ℕ, suc, ◌<◌, ◌≤◌, Bool, true, false, cond, ◌&&◌, ◌||◌, List, [], ◌∷◌, length, ℤ, pos, negsuc, ◌+ℤ◌, ◌*ℤ◌, nat_eq, refl, sym, ap, ◌∙◌, subst, Option, Some, None, inl, inr, arith}
use mathlib.Core.Path.{ap₂}
use Rattle.std.proofs.lemmas.Bool.{false≢true, cases_lt}
use Rattle.std.proofs.lemmas.Bool.Decides.{nat_tests}
use Rattle.std.proofs.lemmas.Int.{ints}
use Rattle.spv_logic.specs.declared.conditions.TermId.{TermId}
use Rattle.spv_logic.specs.declared.operators.Head.{Head}
use Rattle.spv_logic.specs.declared.operators.Head.TheVariants.{Add, Sub, Mul}
use Rattle.spv_logic.specs.Terms.{Term, Terms, term, no_terms, terms, term_eq}
use Rattle.spv_logic.proofs.Equality.{term_eq-true, term_eq-refl}
use Rattle.spv_term.specs.Arena.{Arena, IsArena, tree}
use Rattle.spv_frac.specs.Range.{fits}
use Rattle.spv_atoms.specs.Forms.{Form, plus, minus, multiple, constant_value, constant_values, product_form, linear_form, form_or_own, form, forms, form_fits, is_linear, is_narrow, all_narrow}
use Rattle.spv_atoms.specs.Linear.{coefficient, IsSameForm, stands_in, IdForm, coefficient_at, ArePartsFrom, IsIdForm, PartsIn, over_trees, form_over, IsFormOf, IsWideIn}
use Rattle.spv_atoms.specs.Sums.{IsSumOf, IsWideSum, IsDifferenceOf, IsWideDifference, IsMultipleOf, IsWideMultiple}
use Rattle.spv_atoms.proofs.Walks.{term_eq-ids}
use Rattle.spv_atoms.proofs.Coefficients.{has_part, none_listed, plus-coefficient, minus-coefficient, multiple-coefficient, form-different, all_fit, both_true, same-fits, not-all-fit, constant_is}

-- ---- coefficients of ids and of terms

-- an id of the arena that stands for a term
record IsAt (a : Arena) (x : Term) : Type 0 where
  id : TermId
  in_range : id.0 < length a.nodes
  is : tree a id ≡ x

pub out-of-range : (a : Arena) (parts : List (TermId × ℤ)) (t : TermId) → PartsIn a parts → length a.nodes ≤ t.0 → coefficient_at parts t ≡ pos 0
out-of-range a [] t h k = refl
out-of-range a (p ∷ parts) t h k =
    ap (λ b. cond b p.1 (coefficient_at parts t)) (differ p.0.0 t.0 (length a.nodes) h.0 k) ∙ out-of-range a parts t h.1 k
  where
    differ : (n m l : ℕ) → n < l → l ≤ m → nat_eq n m ≡ false
    differ n m l h k = grind (arith, nat_tests)

-- parts that are not zero are in the arena where no id beyond it is listed
parts-in : (a : Arena) (low : ℕ) (parts : List (TermId × ℤ)) → ArePartsFrom low parts → ((t : TermId) → length a.nodes ≤ t.0 → coefficient_at parts t ≡ pos 0) → PartsIn a parts
parts-in a low [] h k = tt
parts-in a low (p ∷ parts) h k = elim (cases_lt p.0.0 (length a.nodes)) [
  | inl below ↦ (below, parts-in a (suc p.0.0) parts h.1 (λ t g. sym (ap (λ b. cond b p.1 (coefficient_at parts t)) (differ p.0.0 t.0 (length a.nodes) below g)) ∙ k t g))
  | inr above ↦ absurd (h.0.nonzero (sym (ap (λ b. cond b p.1 (coefficient_at parts p.0)) (same p.0.0)) ∙ k p.0 above))
]
  where
    differ : (n m l : ℕ) → n < l → l ≤ m → nat_eq n m ≡ false
    differ n m l h k = grind (arith, nat_tests)

    same : (n : ℕ) → nat_eq n n ≡ true
    same n = grind (arith, nat_tests)

over-fit : (a : Arena) (low : ℕ) (parts : List (TermId × ℤ)) → ArePartsFrom low parts → all_fit (over_trees a parts) ≡ true
over-fit a low [] h = refl
over-fit a low (p ∷ parts) h = both_true (fits p.1) (all_fit (over_trees a parts)) h.0.fits (over-fit a (suc p.0.0) parts h.1)

pub id-form-fits : (a : Arena) (s : IdForm) → IsIdForm s → form_fits (form_over a s) ≡ true
id-form-fits a s k = both_true (all_fit (over_trees a s.parts)) (fits s.constant) (over-fit a 0 s.parts k.parts) k.constant

abbrev pub pair : Term → Term → Terms
pair x y = terms x (terms y no_terms)

module _ (a : Arena) (ok : IsArena a) where
  pub over-at : (parts : List (TermId × ℤ)) (t : TermId) → PartsIn a parts → t.0 < length a.nodes → coefficient (over_trees a parts) (tree a t) ≡ coefficient_at parts t
  over-at [] t h k = refl
  over-at (p ∷ parts) t h k =
      ap (λ z. cond (term_eq (tree a p.0) (tree a t)) p.1 z) (over-at parts t h.1 k)
      ∙ ap (λ b. cond b p.1 (coefficient_at parts t)) (sym (term_eq-ids a ok p.0 t h.0 k))

  listed-at : (parts : List (TermId × ℤ)) (x : Term) → PartsIn a parts → has_part (over_trees a parts) x ≡ true → IsAt a x
  listed-at [] x h e = absurd (false≢true e)
  listed-at (p ∷ parts) x h e = by_case (term_eq (tree a p.0) x) refl e (listed-at parts x h.1)
    where
      by_case : (b : Bool) → term_eq (tree a p.0) x ≡ b → (b || has_part (over_trees a parts) x) ≡ true → (has_part (over_trees a parts) x ≡ true → IsAt a x) → IsAt a x
      by_case true f e later = record { id = p.0; in_range = h.0; is = term_eq-true (tree a p.0) x f }
      by_case false f e later = later e

  -- ---- forms that are made of two others, number by number

  module _ (op : ℤ → ℤ → ℤ) (nothing : op (pos 0) (pos 0) ≡ pos 0) (left right : List (TermId × ℤ)) (left_in : PartsIn a left) (right_in : PartsIn a right) where
    made-over : (parts : List (TermId × ℤ)) → PartsIn a parts → ((t : TermId) → coefficient_at parts t ≡ op (coefficient_at left t) (coefficient_at right t))
        → (x : Term) → coefficient (over_trees a parts) x ≡ op (coefficient (over_trees a left) x) (coefficient (over_trees a right) x)
    made-over parts parts_in made x =
        by_case (has_part (over_trees a parts) x) refl (has_part (over_trees a left) x) refl (has_part (over_trees a right) x) refl
      where
        at : IsAt a x → coefficient (over_trees a parts) x ≡ op (coefficient (over_trees a left) x) (coefficient (over_trees a right) x)
        at i = subst (λ (y : Term). coefficient (over_trees a parts) y ≡ op (coefficient (over_trees a left) y) (coefficient (over_trees a right) y)) i.is
            (over-at parts i.id parts_in i.in_range ∙ (made i.id ∙ sym (ap₂ op (over-at left i.id left_in i.in_range) (over-at right i.id right_in i.in_range))))

        by_case : (b : Bool) → has_part (over_trees a parts) x ≡ b → (c : Bool) → has_part (over_trees a left) x ≡ c → (d : Bool) → has_part (over_trees a right) x ≡ d
            → coefficient (over_trees a parts) x ≡ op (coefficient (over_trees a left) x) (coefficient (over_trees a right) x)
        by_case true e c f d g = at (listed-at parts x parts_in e)
        by_case false e true f d g = at (listed-at left x left_in f)
        by_case false e false f true g = at (listed-at right x right_in g)
        by_case false e false f false g =
            none_listed (over_trees a parts) x e ∙ (sym nothing ∙ sym (ap₂ op (none_listed (over_trees a left) x f) (none_listed (over_trees a right) x g)))

    made-in : (parts : List (TermId × ℤ)) → ArePartsFrom 0 parts → ((t : TermId) → coefficient_at parts t ≡ op (coefficient_at left t) (coefficient_at right t)) → PartsIn a parts
    made-in parts h made = parts-in a 0 parts h (λ t k. made t ∙ (ap₂ op (out-of-range a left t left_in k) (out-of-range a right t right_in k) ∙ nothing))

    -- where all terms' numbers fit, so do those of all ids
    made-fits : ((x : Term) → fits (op (coefficient (over_trees a left) x) (coefficient (over_trees a right) x)) ≡ true) → (t : TermId) → fits (op (coefficient_at left t) (coefficient_at right t)) ≡ true
    made-fits h t = elim (cases_lt t.0 (length a.nodes)) [
      | inl below ↦ ap fits (sym (ap₂ op (over-at left t left_in below) (over-at right t right_in below))) ∙ h (tree a t)
      | inr above ↦ ap fits (ap₂ op (out-of-range a left t left_in above) (out-of-range a right t right_in above) ∙ nothing)
    ]

    module _ (h : Head) (ts : Terms) (f : Form) (is : linear_form h (constant_values ts) (forms ts) ≡ Some f)
        (parts_are : (x : Term) → coefficient f.parts x ≡ op (coefficient (over_trees a left) x) (coefficient (over_trees a right) x)) where
      form-is : form (term h ts) ≡ f
      form-is = ap (λ (o : Option Form). form_or_own o (term h ts)) is

      pub made-narrow : (s : IdForm) → IsIdForm s → all_narrow ts ≡ true → ((t : TermId) → coefficient_at s.parts t ≡ op (coefficient_at left t) (coefficient_at right t)) → s.constant ≡ f.constant
          → IsFormOf a (term h ts) s
      made-narrow s k narrow made constant = record {
        in_range = inside;
        same = same;
        narrow =
            both_true (form_fits (form (term h ts))) (cond (is_linear (linear_form h (constant_values ts) (forms ts))) (all_narrow ts) true)
            (same-fits (form_over a s) (form (term h ts)) same (form-different (term h ts)) (id-form-fits a s k))
            (ap (λ (o : Option Form). cond (is_linear o) (all_narrow ts) true) is ∙ narrow);
      }
        where
          inside : PartsIn a s.parts
          inside = made-in s.parts k.parts made

          same : IsSameForm (form_over a s) (form (term h ts))
          same = subst (λ (g : Form). IsSameForm (form_over a s) g) (sym form-is) (record { parts = λ x. made-over s.parts inside made x ∙ sym (parts_are x); constant = constant })

      pub made-wide : (t : TermId) (z : ℤ) → t.0 < length a.nodes → tree a t ≡ term h ts → z ≡ f.constant
          → (((u : TermId) → fits (op (coefficient_at left u) (coefficient_at right u)) ≡ true) → fits z ≡ true → ⊥) → IsWideIn a (term h ts) t
      made-wide t z t_in at constant wide = record {
        in_range = t_in;
        inside = subst (λ (y : Term). stands_in y (term h ts) ≡ true) (sym at) (or_first (term_eq (term h ts) (term h ts)) _ (term_eq-refl (term h ts)));
        wide = ap (λ y. form_fits (form y)) at ∙ (ap form_fits form-is ∙ not-all-fit f (λ k l. wide (made-fits (λ x. ap fits (sym (parts_are x)) ∙ k x)) (ap fits constant ∙ l)));
      }
        where
          or_first : (b c : Bool) → b ≡ true → (b || c) ≡ true
          or_first true c h = refl
          or_first false c h = absurd (false≢true h)

  -- ---- sums, differences and products

  times_zero : (z : ℤ) → z *ℤ pos 0 ≡ pos 0
  times_zero z = omega (arith, ints)

  module _ (x y : Term) (f g : IdForm) (left : IsFormOf a x f) (right : IsFormOf a y g) where
    narrow_pair : all_narrow (pair x y) ≡ true
    narrow_pair = both_true (is_narrow x) (is_narrow y && true) left.narrow (both_true (is_narrow y) true right.narrow refl)

    add_parts : (t : Term) → coefficient (plus (form x) (form y)).parts t ≡ coefficient (over_trees a f.parts) t +ℤ coefficient (over_trees a g.parts) t
    add_parts t = plus-coefficient (form x) (form y) t (form-different y) ∙ sym (ap₂ ◌+ℤ◌ (left.same.parts t) (right.same.parts t))

    pub add_narrow : (s : IdForm) → IsIdForm s → IsSumOf f g s → IsFormOf a (term Add (pair x y)) s
    add_narrow s k sum =
        made-narrow ◌+ℤ◌ refl f.parts g.parts left.in_range right.in_range Add (pair x y) (plus (form x) (form y)) refl add_parts s k narrow_pair sum.parts
        (sum.constant ∙ ap₂ ◌+ℤ◌ left.same.constant right.same.constant)

    pub add_wide : (t : TermId) → t.0 < length a.nodes → tree a t ≡ term Add (pair x y) → IsWideSum f g → IsWideIn a (term Add (pair x y)) t
    add_wide t t_in at wide =
        made-wide ◌+ℤ◌ refl f.parts g.parts left.in_range right.in_range Add (pair x y) (plus (form x) (form y)) refl add_parts t (f.constant +ℤ g.constant) t_in at
        (ap₂ ◌+ℤ◌ left.same.constant right.same.constant) wide.not_all

    abbrev less : ℤ → ℤ → ℤ
    less m n = m +ℤ negsuc 0 *ℤ n

    sub_parts : (t : Term) → coefficient (minus (form x) (form y)).parts t ≡ less (coefficient (over_trees a f.parts) t) (coefficient (over_trees a g.parts) t)
    sub_parts t = minus-coefficient (form x) (form y) t (form-different y) ∙ sym (ap₂ less (left.same.parts t) (right.same.parts t))

    pub sub_narrow : (s : IdForm) → IsIdForm s → IsDifferenceOf f g s → IsFormOf a (term Sub (pair x y)) s
    sub_narrow s k difference =
        made-narrow less refl f.parts g.parts left.in_range right.in_range Sub (pair x y) (minus (form x) (form y)) refl sub_parts s k narrow_pair difference.parts
        (difference.constant ∙ ap₂ less left.same.constant right.same.constant)

    pub sub_wide : (t : TermId) → t.0 < length a.nodes → tree a t ≡ term Sub (pair x y) → IsWideDifference f g → IsWideIn a (term Sub (pair x y)) t
    sub_wide t t_in at wide =
        made-wide less refl f.parts g.parts left.in_range right.in_range Sub (pair x y) (minus (form x) (form y)) refl sub_parts t (less f.constant g.constant) t_in at
        (ap₂ less left.same.constant right.same.constant) wide.not_all

    -- a product whose first side is constant
    module _ (z : ℤ) (known : constant_value x ≡ Some z) where
      first_is : f.constant ≡ z
      first_is = left.same.constant ∙ ap (λ (k : Form). k.constant) ((constant_is x).is z known)

      first_form : linear_form Mul (constant_values (pair x y)) (forms (pair x y)) ≡ Some (multiple z (form y))
      first_form = ap (λ (o : Option ℤ). product_form o (constant_value y) (form x) (form y)) known

      first_parts : (t : Term) → coefficient (multiple z (form y)).parts t ≡ f.constant *ℤ coefficient (over_trees a g.parts) t
      first_parts t = multiple-coefficient z (form y).parts t ∙ sym (ap₂ ◌*ℤ◌ first_is (right.same.parts t))

      pub first_narrow : (s : IdForm) → IsIdForm s → IsMultipleOf f.constant g s → IsFormOf a (term Mul (pair x y)) s
      first_narrow s k made =
          made-narrow (λ m n. f.constant *ℤ m) (times_zero f.constant) g.parts g.parts right.in_range right.in_range Mul (pair x y) (multiple z (form y)) first_form first_parts s k narrow_pair made.parts
          (made.constant ∙ ap₂ ◌*ℤ◌ first_is right.same.constant)

      pub first_wide : (t : TermId) → t.0 < length a.nodes → tree a t ≡ term Mul (pair x y) → IsWideMultiple f.constant g → IsWideIn a (term Mul (pair x y)) t
      first_wide t t_in at wide =
          made-wide (λ m n. f.constant *ℤ m) (times_zero f.constant) g.parts g.parts right.in_range right.in_range Mul (pair x y) (multiple z (form y)) first_form first_parts t (f.constant *ℤ g.constant) t_in at
          (ap₂ ◌*ℤ◌ first_is right.same.constant) wide.not_all

    -- a product whose second side alone is constant
    module _ (z : ℤ) (unknown : constant_value x ≡ None) (known : constant_value y ≡ Some z) where
      second_is : g.constant ≡ z
      second_is = right.same.constant ∙ ap (λ (k : Form). k.constant) ((constant_is y).is z known)

      second_form : linear_form Mul (constant_values (pair x y)) (forms (pair x y)) ≡ Some (multiple z (form x))
      second_form = ap₂ (λ (o p : Option ℤ). product_form o p (form x) (form y)) unknown known

      second_parts : (t : Term) → coefficient (multiple z (form x)).parts t ≡ g.constant *ℤ coefficient (over_trees a f.parts) t
      second_parts t = multiple-coefficient z (form x).parts t ∙ sym (ap₂ ◌*ℤ◌ second_is (left.same.parts t))

      pub second_narrow : (s : IdForm) → IsIdForm s → IsMultipleOf g.constant f s → IsFormOf a (term Mul (pair x y)) s
      second_narrow s k made =
          made-narrow (λ m n. g.constant *ℤ m) (times_zero g.constant) f.parts f.parts left.in_range left.in_range Mul (pair x y) (multiple z (form x)) second_form second_parts s k narrow_pair made.parts
          (made.constant ∙ ap₂ ◌*ℤ◌ second_is left.same.constant)

      pub second_wide : (t : TermId) → t.0 < length a.nodes → tree a t ≡ term Mul (pair x y) → IsWideMultiple g.constant f → IsWideIn a (term Mul (pair x y)) t
      second_wide t t_in at wide =
          made-wide (λ m n. g.constant *ℤ m) (times_zero g.constant) f.parts f.parts left.in_range left.in_range Mul (pair x y) (multiple z (form x)) second_form second_parts t (g.constant *ℤ f.constant) t_in at
          (ap₂ ◌*ℤ◌ second_is left.same.constant) wide.not_all
