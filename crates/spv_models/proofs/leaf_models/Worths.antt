-- What forms are worth at a point: sums, differences and multiples, and constant terms.
use Rattle.std.proofs.Common.{◌≡◌, ℤ, pos, negsuc, ◌+ℤ◌, ◌*ℤ◌, refl, sym, ap, ◌∙◌, Option, Some, None}
use mathlib.Core.Path.{ap₂}
use Rattle.spv_frac.specs.rational.Rational.{Rational, whole, plus, times}
use Rattle.spv_frac.proofs.rational.Field.{plus_zero, zero_plus, plus_middle, times_comm, times_plus, whole_plus, whole_times}
use Rattle.spv_logic.specs.declared.operators.Head.{Head}
use Rattle.spv_logic.specs.declared.operators.Head.TheVariants.{Num, Add, Sub, Mul}
use Rattle.spv_logic.specs.Terms.{Term, Terms, term, no_terms, terms}
use Rattle.spv_atoms.specs.Forms.{Form, constant_form, own_part, multiple, both_known, constant_over, constant_value, constant_values, product_form, linear_form, form_or_own, form, forms}
use Rattle.spv_atoms.specs.Forms as forms
use Rattle.spv_tableau_rules.specs.tableaux.Numbers.{minus}
use Rattle.spv_tableau_rules.proofs.pivots.Algebra.{one_times, minus_one_times}
use Rattle.spv_tableau_rules.specs.constraints.Values.{parts_value, form_value}
use Rattle.spv_tableau_rules.proofs.constraints.Values.{sum-value, multiple-value, minus-value}
use Rattle.spv_models.specs.leaf_models.Leaves.{worth_at}

module _ (w : Term → Rational) where
  pub own-worth : (t : Term) → form_value w (own_part t) ≡ w t
  own-worth t = plus_zero (plus (times (whole (pos 1)) (w t)) (whole (pos 0))) ∙ (plus_zero (times (whole (pos 1)) (w t)) ∙ one_times (w t))

  pub constant-worth : (z : ℤ) → form_value w (constant_form z) ≡ whole z
  constant-worth z = zero_plus (whole z)

  pub plus-worth : (f g : Form) → form_value w (forms.plus f g) ≡ plus (form_value w f) (form_value w g)
  plus-worth f g = ap₂ plus (sum-value w g.parts f.parts) (sym (whole_plus f.constant g.constant)) ∙ plus_middle (parts_value w f.parts) (parts_value w g.parts) (whole f.constant) (whole g.constant)

  pub multiple-worth : (z : ℤ) (f : Form) → form_value w (multiple z f) ≡ times (whole z) (form_value w f)
  multiple-worth z f = ap₂ plus (multiple-value w z f.parts) (sym (whole_times z f.constant)) ∙ sym (times_plus (whole z) (parts_value w f.parts) (whole f.constant))

  -- ---- constant terms

  -- a value that is known is the number
  pub record IsWhole (x : Rational) (o : Option ℤ) : Type 0 where
    pub is : (z : ℤ) → o ≡ Some z → x ≡ whole z

  unknown : (x : Rational) → IsWhole x None
  unknown x = record { is = λ z e. cc }

  known : (x : Rational) (z : ℤ) → x ≡ whole z → IsWhole x (Some z)
  known x z e = record { is = λ y f. cc }

  known_both : (op : ℤ → ℤ → ℤ) (over : Rational → Rational → Rational) → ((y z : ℤ) → over (whole y) (whole z) ≡ whole (op y z)) → (x y : Rational) (a b : Option ℤ) → IsWhole x a → IsWhole y b → IsWhole (over x y) (both_known op a b)
  known_both op over keeps x y None b h k = unknown (over x y)
  known_both op over keeps x y (Some a) None h k = unknown (over x y)
  known_both op over keeps x y (Some a) (Some b) h k = known (over x y) (op a b) (ap₂ over (h.is a refl) (k.is b refl) ∙ keeps a b)

  whole_minus : (y z : ℤ) → minus (whole y) (whole z) ≡ whole (y +ℤ negsuc 0 *ℤ z)
  whole_minus y z = ap (plus (whole y)) (sym (minus_one_times (whole z)) ∙ whole_times (negsuc 0) z) ∙ whole_plus y (negsuc 0 *ℤ z)

  -- the form of a product with a constant side
  pub scaled-worth : (a b : Option ℤ) (f g : Form) (t : Term) → IsWhole (form_value w f) a → IsWhole (form_value w g) b → (a ≡ None → b ≡ None → ⊥) → form_value w (form_or_own (product_form a b f g) t) ≡ times (form_value w f) (form_value w g)
  scaled-worth (Some z) b f g t h k one = multiple-worth z g ∙ ap (λ x. times x (form_value w g)) (sym (h.is z refl))
  scaled-worth None (Some z) f g t h k one = multiple-worth z f ∙ (times_comm (whole z) (form_value w f) ∙ ap (times (form_value w f)) (sym (k.is z refl)))
  scaled-worth None None f g t h k one = absurd (one refl refl)

  abbrev AllWhole : Terms → Type 0
  AllWhole no_terms = Unit {0}
  AllWhole (terms t ts) = IsWhole (worth_at w t) (constant_value t) × AllWhole ts

  product-whole : (a b : Option ℤ) (f g : Form) (t : Term) → IsWhole (form_value w f) a → IsWhole (form_value w g) b → IsWhole (form_value w (form_or_own (product_form a b f g) t)) (both_known ◌*ℤ◌ a b)
  product-whole None b f g t h k = unknown _
  product-whole (Some y) None f g t h k = unknown _
  product-whole (Some y) (Some z) f g t h k = known _ (y *ℤ z) (multiple-worth y g ∙ (ap (times (whole y)) (k.is z refl) ∙ whole_times y z))

  whole_over : (h : Head) (ts : Terms) → AllWhole ts → IsWhole (form_value w (form_or_own (linear_form h (constant_values ts) (forms ts)) (term h ts))) (constant_over h (constant_values ts))
  whole_over (Num z) ts all = known _ z (constant-worth z)
  whole_over Add (terms t (terms u no_terms)) all =
      record { is = λ z e. plus-worth (form t) (form u) ∙ (known_both ◌+ℤ◌ plus whole_plus (worth_at w t) (worth_at w u) (constant_value t) (constant_value u) all.0 all.1.0).is z e }
  whole_over Sub (terms t (terms u no_terms)) all =
      record { is = λ z e. minus-value w (form t) (form u) ∙ (known_both (λ x y. x +ℤ negsuc 0 *ℤ y) minus whole_minus (worth_at w t) (worth_at w u) (constant_value t) (constant_value u) all.0 all.1.0).is z e }
  whole_over Mul (terms t (terms u no_terms)) all = product-whole (constant_value t) (constant_value u) (form t) (form u) (term Mul (terms t (terms u no_terms))) all.0 all.1.0
  whole_over h ts all = unknown _

  mutual
    pub whole-constant : (t : Term) → IsWhole (worth_at w t) (constant_value t)
    whole-constant (term h ts) = whole_over h ts (all_whole ts)

    all_whole : (ts : Terms) → AllWhole ts
    all_whole no_terms = tt
    all_whole (terms t ts) = (whole-constant t, all_whole ts)
