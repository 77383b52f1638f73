-- Terms whose heads have no meaning of their own: their value is the listed one, they are their own part, and no connective.
use Rattle.std.proofs.Common.{◌≡◌, Bool, true, false, cond, List, [], ◌∷◌, refl, sym, ap, Option, Some, None, ℤ, Ok}
use Rattle.std.specs.Prelude.{is_some}
use Rattle.std.proofs.lemmas.Bool.{false≢true}
use Rattle.spv_whole.specs.Fraction.{Fraction}
use Rattle.spv_logic.specs.declared.operators.Head.{Head}
use Rattle.spv_logic.specs.declared.operators.Head.TheVariants.{Num, Add, Sub, Mul, Eq, Lt, Le, Not, And, Or, Implies, True, False}
use Rattle.spv_atoms.specs.Atoms.{connects, is_fixed}
use Rattle.spv_atoms.specs.Forms.{Form, linear_form}
use Rattle.spv_table.specs.Values.{Outcome, has_meaning_over, both, of_pair, pair_or, value_over}
use Rattle.spv_models.specs.leaf_models.Subterms.{is_one_constant, means}

not_true : (b : Bool) → true ≡ b → b ≡ false → ⊥
not_true true e f = false≢true (sym f)
not_true false e f = false≢true (sym e)

-- whether a head over these two arguments has a meaning of its own
abbrev takes_two : Head → List (Option ℤ) → Bool
takes_two h (c ∷ d ∷ []) = has_meaning_over h (is_some c) (is_some d)
takes_two h _ = false

pair_own : (h : Head) (constants : List (Option ℤ)) (vs : List Outcome) (own : Fraction) → takes_two h constants ≡ false → pair_or h constants vs own ≡ Ok own
pair_own h [] vs own e = refl
pair_own h (c ∷ []) vs own e = refl
pair_own h (c ∷ d ∷ []) [] own e = refl
pair_own h (c ∷ d ∷ []) (a ∷ []) own e = refl
pair_own h (c ∷ d ∷ []) (a ∷ b ∷ []) own e = ap (λ t. cond t (both (of_pair h) a b) (Ok own)) e
pair_own h (c ∷ d ∷ []) (a ∷ b ∷ x ∷ vs) own e = refl
pair_own h (c ∷ d ∷ x ∷ constants) vs own e = refl

never_two : (h : Head) (constants : List (Option ℤ)) → ((a b : Bool) → has_meaning_over h a b ≡ false) → takes_two h constants ≡ false
never_two h [] e = refl
never_two h (c ∷ []) e = refl
never_two h (c ∷ d ∷ []) e = e (is_some c) (is_some d)
never_two h (c ∷ d ∷ x ∷ constants) e = refl

product_own : (constants : List (Option ℤ)) → is_one_constant constants ≡ false → takes_two Mul constants ≡ false
product_own [] e = refl
product_own (c ∷ []) e = refl
product_own (c ∷ d ∷ []) e = e
product_own (c ∷ d ∷ x ∷ constants) e = refl

pub own-value : (h : Head) (constants : List (Option ℤ)) (vs : List Outcome) (own : Fraction) → means h constants ≡ false → value_over h constants vs own ≡ Ok own
own-value (Num z) constants vs own e = absurd (false≢true (sym e))
own-value True constants vs own e = absurd (false≢true (sym e))
own-value False constants vs own e = absurd (false≢true (sym e))
own-value Not constants vs own e = absurd (false≢true (sym e))
own-value Add constants vs own e = absurd (false≢true (sym e))
own-value Sub constants vs own e = absurd (false≢true (sym e))
own-value Mul constants vs own e = pair_own Mul constants vs own (product_own constants e)
own-value Eq constants vs own e = absurd (false≢true (sym e))
own-value Lt constants vs own e = absurd (false≢true (sym e))
own-value Le constants vs own e = absurd (false≢true (sym e))
own-value And constants vs own e = absurd (false≢true (sym e))
own-value Or constants vs own e = absurd (false≢true (sym e))
own-value Implies constants vs own e = absurd (false≢true (sym e))
own-value h constants vs own e = pair_own h constants vs own (never_two h constants (λ a b. refl))

product_none : (constants : List (Option ℤ)) (fs : List Form) → is_one_constant constants ≡ false → linear_form Mul constants fs ≡ None
product_none [] fs e = refl
product_none (a ∷ []) fs e = refl
product_none (a ∷ b ∷ []) [] e = refl
product_none (a ∷ b ∷ []) (f ∷ []) e = refl
product_none (Some y ∷ b ∷ []) (f ∷ g ∷ []) e = absurd (false≢true (sym e))
product_none (None ∷ Some z ∷ []) (f ∷ g ∷ []) e = absurd (false≢true (sym e))
product_none (None ∷ None ∷ []) (f ∷ g ∷ []) e = refl
product_none (a ∷ b ∷ []) (f ∷ g ∷ h ∷ fs) e = refl
product_none (a ∷ b ∷ c ∷ constants) fs e = refl

pub own-form : (h : Head) (constants : List (Option ℤ)) (fs : List Form) → means h constants ≡ false → linear_form h constants fs ≡ None
own-form (Num z) constants fs e = absurd (false≢true (sym e))
own-form Add constants fs e = absurd (false≢true (sym e))
own-form Sub constants fs e = absurd (false≢true (sym e))
own-form Mul constants fs e = product_none constants fs e
own-form h constants fs e = refl

pub own-plain : (h : Head) (constants : List (Option ℤ)) (truths : Bool) → means h constants ≡ false → connects truths h ≡ false
own-plain Not constants truths e = absurd (false≢true (sym e))
own-plain And constants truths e = absurd (false≢true (sym e))
own-plain Or constants truths e = absurd (false≢true (sym e))
own-plain Implies constants truths e = absurd (false≢true (sym e))
own-plain Eq constants truths e = absurd (false≢true (sym e))
own-plain h constants truths e = refl

pub own-open : (h : Head) (constants : List (Option ℤ)) → means h constants ≡ false → is_fixed h ≡ false
own-open True constants e = absurd (false≢true (sym e))
own-open False constants e = absurd (false≢true (sym e))
own-open h constants e = refl
