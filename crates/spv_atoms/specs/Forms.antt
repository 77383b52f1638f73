-- The exact linear form of a whole-number term: what each part of it is multiplied by, and a constant.
use Rattle.std.specs.Prelude.{Bool, true, false, ◌&&◌, List, [], ◌∷◌, map, Option, Some, None, ℤ, pos, negsuc, ◌+ℤ◌, ◌*ℤ◌, if◌then◌else◌}
use Rattle.std.specs.List.{list_all}
use Rattle.spv_logic.specs.declared.operators.Head.{Head}
use Rattle.spv_logic.specs.declared.operators.Head.TheVariants.{Num, Add, Sub, Mul}
use Rattle.spv_logic.specs.Terms.{Term, Terms, term, no_terms, terms, term_eq}
use Rattle.spv_frac.specs.Range.{fits}

-- a sum of terms times numbers, and a constant; each term stands once
pub record Sum (N : Type 0) : Type 0 where
  pub parts : List (Term × N)
  pub constant : N

-- a linear form: a sum with whole numbers
abbrev pub Form : Type 0
Form = Sum ℤ

-- ---- sums

-- the parts with a number more for a term: added to what it has, or put last where it has none
abbrev pub with_part : {N : Type 0} → (N → N → N) → Term → N → List (Term × N) → List (Term × N)
with_part plus t n [] = (t, n) ∷ []
with_part plus t n (p ∷ parts) = if term_eq p.0 t then (p.0, plus p.1 n) ∷ parts else p ∷ with_part plus t n parts

-- the parts with others, each multiplied first
abbrev pub with_parts : {M N : Type 0} → (N → N → N) → (M → N) → List (Term × M) → List (Term × N) → List (Term × N)
with_parts plus times [] parts = parts
with_parts plus times (p ∷ others) parts = with_parts plus times others (with_part plus p.0 (times p.1) parts)

-- ---- forms

abbrev pub constant_form : ℤ → Form
constant_form z = record { parts = []; constant = z }

-- a term that is no sum and no multiple: it is its own part
abbrev pub own_part : Term → Form
own_part t = record { parts = (t, pos 1) ∷ []; constant = pos 0 }

abbrev pub plus : Form → Form → Form
plus f g = record { parts = with_parts ◌+ℤ◌ (λ n. n) g.parts f.parts; constant = f.constant +ℤ g.constant }

abbrev pub multiple : ℤ → Form → Form
multiple z f = record { parts = map (λ p. (p.0, z *ℤ p.1)) f.parts; constant = z *ℤ f.constant }

abbrev pub minus : Form → Form → Form
minus f g = plus f (multiple (negsuc 0) g)

-- ---- constant terms: numerals, and sums, differences and products of constant terms

abbrev pub both_known : (ℤ → ℤ → ℤ) → Option ℤ → Option ℤ → Option ℤ
both_known op None b = None
both_known op (Some x) None = None
both_known op (Some x) (Some y) = Some (op x y)

-- the value of a head over arguments with these values, where it is constant
abbrev pub constant_over : Head → List (Option ℤ) → Option ℤ
constant_over (Num z) values = Some z
constant_over Add (a ∷ b ∷ []) = both_known ◌+ℤ◌ a b
constant_over Sub (a ∷ b ∷ []) = both_known (λ x y. x +ℤ negsuc 0 *ℤ y) a b
constant_over Mul (a ∷ b ∷ []) = both_known ◌*ℤ◌ a b
constant_over _ values = None

abbrev mutual
  -- the value of a constant term, none of another one
  pub constant_value : Term → Option ℤ
  constant_value (term h ts) = constant_over h (constant_values ts)

  pub constant_values : Terms → List (Option ℤ)
  constant_values no_terms = []
  constant_values (terms t ts) = constant_value t ∷ constant_values ts

-- ---- the form of a term

-- the form of a product of which one side is constant; of every other product, none
abbrev pub product_form : Option ℤ → Option ℤ → Form → Form → Option Form
product_form (Some z) b f g = Some (multiple z g)
product_form None (Some z) f g = Some (multiple z f)
product_form None None f g = None

-- the form of a head over arguments with these values, where they are constant, and these forms: of a linear head; of another, none
abbrev pub linear_form : Head → List (Option ℤ) → List Form → Option Form
linear_form (Num z) values fs = Some (constant_form z)
linear_form Add values (f ∷ g ∷ []) = Some (plus f g)
linear_form Sub values (f ∷ g ∷ []) = Some (minus f g)
linear_form Mul (a ∷ b ∷ []) (f ∷ g ∷ []) = product_form a b f g
linear_form _ values fs = None

abbrev pub form_or_own : Option Form → Term → Form
form_or_own None t = own_part t
form_or_own (Some f) t = f

abbrev mutual
  -- the exact linear form of a term
  pub form : Term → Form
  form (term h ts) = form_or_own (linear_form h (constant_values ts) (forms ts)) (term h ts)

  pub forms : Terms → List Form
  forms no_terms = []
  forms (terms t ts) = form t ∷ forms ts

-- ---- forms that fit

-- whether each number of a form lies in the range of fractions' numbers
abbrev pub form_fits : Form → Bool
form_fits f = list_all (λ p. fits p.1) f.parts && fits f.constant

abbrev pub is_linear : Option Form → Bool
is_linear None = false
is_linear (Some f) = true

abbrev mutual
  -- whether the form of a term fits, and that of each term in a linear position of it
  pub is_narrow : Term → Bool
  is_narrow (term h ts) =
      form_fits (form (term h ts)) && (if is_linear (linear_form h (constant_values ts) (forms ts)) then all_narrow ts else true)

  pub all_narrow : Terms → Bool
  all_narrow no_terms = true
  all_narrow (terms t ts) = is_narrow t && all_narrow ts

-- ---- what a form is worth

-- what parts are worth, where `worth` says it of each term
abbrev pub parts_worth : (Term → ℤ) → List (Term × ℤ) → ℤ
parts_worth worth [] = pos 0
parts_worth worth (p ∷ parts) = p.1 *ℤ worth p.0 +ℤ parts_worth worth parts

abbrev pub form_worth : (Term → ℤ) → Form → ℤ
form_worth worth f = parts_worth worth f.parts +ℤ f.constant
