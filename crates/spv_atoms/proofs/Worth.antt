-- A term is worth what its form is worth.
use Rattle.std.proofs.Common.{◌≡◌, Bool, true, false, cond, List, [], ◌∷◌, map, ℤ, pos, negsuc, ◌+ℤ◌, ◌-ℤ◌, ◌*ℤ◌, refl, sym, ap, ◌∙◌, Option, Some, None, arith}
use mathlib.Core.Path.{ap₂}
use Rattle.std.proofs.lemmas.Int.{ints}
use Rattle.std.proofs.Math.IntN.{*ℤ_comm}
use Rattle.spv_whole.proofs.Ring.{*ℤ_assoc, *ℤ-+ℤ}
use Rattle.spv_logic.specs.declared.operators.Head.{Head}
use Rattle.spv_logic.specs.declared.operators.Head.TheVariants.{Num, Add, Sub, Mul}
use Rattle.spv_logic.specs.Values.{number_of}
use Rattle.spv_logic.specs.Terms.{Term, Terms, term, no_terms, terms, term_eq, eval, eval_all, worth}
use Rattle.spv_logic.specs.Conditions.{Meaning, Valuation}
use Rattle.spv_logic.proofs.Equality.{term_eq-true}
use Rattle.spv_atoms.specs.Forms.{Form, with_part, with_parts, constant_form, plus, minus, multiple, both_known, constant_over, constant_value, constant_values, product_form, linear_form, form_or_own, form, forms, parts_worth, form_worth}

-- ---- identities

+ℤ_assoc : (a b c : ℤ) → a +ℤ b +ℤ c ≡ a +ℤ (b +ℤ c)
+ℤ_assoc a b c = omega (arith, ints)

+ℤ-swap : (a b c : ℤ) → a +ℤ (b +ℤ c) ≡ b +ℤ (a +ℤ c)
+ℤ-swap a b c = omega (arith, ints)

+ℤ-middle : (a b c d : ℤ) → a +ℤ b +ℤ (c +ℤ d) ≡ a +ℤ c +ℤ (b +ℤ d)
+ℤ-middle a b c d = omega (arith, ints)

sum-*ℤ : (a b c : ℤ) → (a +ℤ b) *ℤ c ≡ a *ℤ c +ℤ b *ℤ c
sum-*ℤ a b c = *ℤ_comm (a +ℤ b) c ∙ *ℤ-+ℤ c a b ∙ ap₂ ◌+ℤ◌ (*ℤ_comm c a) (*ℤ_comm c b)

zero-+ℤ : (a : ℤ) → pos 0 +ℤ a ≡ a
zero-+ℤ a = omega (arith, ints)

+ℤ-zero : (a : ℤ) → a +ℤ pos 0 ≡ a
+ℤ-zero a = omega (arith, ints)

times_zero : (a : ℤ) → a *ℤ pos 0 ≡ pos 0
times_zero a = omega (arith, ints)

minus_one : (a b : ℤ) → a +ℤ negsuc 0 *ℤ b ≡ a -ℤ b
minus_one a b = omega (arith, ints)

own : (a : ℤ) → a ≡ pos 1 *ℤ a +ℤ pos 0 +ℤ pos 0
own a = omega (arith, ints)

-- ---- sums of parts

module _ (w : Term → ℤ) where
  with_part-worth : (t : Term) (n : ℤ) (parts : List (Term × ℤ)) → parts_worth w (with_part ◌+ℤ◌ t n parts) ≡ n *ℤ w t +ℤ parts_worth w parts
  with_part-worth t n [] = refl
  with_part-worth t n (p ∷ parts) = by_case (term_eq p.0 t) refl (with_part-worth t n parts)
    where
      by_case : (b : Bool) → term_eq p.0 t ≡ b → parts_worth w (with_part ◌+ℤ◌ t n parts) ≡ n *ℤ w t +ℤ parts_worth w parts
          → parts_worth w (cond b ((p.0, p.1 +ℤ n) ∷ parts) (p ∷ with_part ◌+ℤ◌ t n parts)) ≡ n *ℤ w t +ℤ (p.1 *ℤ w p.0 +ℤ parts_worth w parts)
      by_case true e later =
          ap (λ z. z +ℤ parts_worth w parts) (sum-*ℤ p.1 n (w p.0) ∙ ap (λ u. p.1 *ℤ w p.0 +ℤ n *ℤ w u) (term_eq-true p.0 t e))
          ∙ +ℤ_assoc (p.1 *ℤ w p.0) (n *ℤ w t) (parts_worth w parts) ∙ +ℤ-swap (p.1 *ℤ w p.0) (n *ℤ w t) (parts_worth w parts)
      by_case false e later = ap (λ z. p.1 *ℤ w p.0 +ℤ z) later ∙ +ℤ-swap (p.1 *ℤ w p.0) (n *ℤ w t) (parts_worth w parts)

  with_parts-worth : (others parts : List (Term × ℤ)) → parts_worth w (with_parts ◌+ℤ◌ (λ n. n) others parts) ≡ parts_worth w parts +ℤ parts_worth w others
  with_parts-worth [] parts = sym (+ℤ-zero (parts_worth w parts))
  with_parts-worth (p ∷ others) parts =
      with_parts-worth others (with_part ◌+ℤ◌ p.0 p.1 parts)
      ∙ ap (λ x. x +ℤ parts_worth w others) (with_part-worth p.0 p.1 parts)
      ∙ regroup (p.1 *ℤ w p.0) (parts_worth w parts) (parts_worth w others)
    where
      regroup : (a b c : ℤ) → a +ℤ b +ℤ c ≡ b +ℤ (a +ℤ c)
      regroup a b c = omega (arith, ints)

  pub plus-worth : (f g : Form) → form_worth w (plus f g) ≡ form_worth w f +ℤ form_worth w g
  plus-worth f g =
      ap (λ x. x +ℤ (f.constant +ℤ g.constant)) (with_parts-worth g.parts f.parts) ∙ +ℤ-middle (parts_worth w f.parts) (parts_worth w g.parts) f.constant g.constant

  multiple_parts-worth : (z : ℤ) (parts : List (Term × ℤ)) → parts_worth w (map (λ (p : Term × ℤ). (p.0, z *ℤ p.1)) parts) ≡ z *ℤ parts_worth w parts
  multiple_parts-worth z [] = sym (times_zero z)
  multiple_parts-worth z (p ∷ parts) =
      ap₂ ◌+ℤ◌ (*ℤ_assoc z p.1 (w p.0)) (multiple_parts-worth z parts) ∙ sym (*ℤ-+ℤ z (p.1 *ℤ w p.0) (parts_worth w parts))

  multiple-worth : (z : ℤ) (f : Form) → form_worth w (multiple z f) ≡ z *ℤ form_worth w f
  multiple-worth z f = ap (λ x. x +ℤ z *ℤ f.constant) (multiple_parts-worth z f.parts) ∙ sym (*ℤ-+ℤ z (parts_worth w f.parts) f.constant)

  pub minus-worth : (f g : Form) → form_worth w (minus f g) ≡ form_worth w f -ℤ form_worth w g
  minus-worth f g = plus-worth f (multiple (negsuc 0) g) ∙ ap (λ x. form_worth w f +ℤ x) (multiple-worth (negsuc 0) g) ∙ minus_one (form_worth w f) (form_worth w g)

-- ---- constant terms and forms

module _ (symbols : Meaning) (v : Valuation) where
  abbrev pub number_in : Term → ℤ
  number_in t = number_of (eval symbols v t)

  -- a value that is known is the number
  record Told (z : ℤ) (o : Option ℤ) : Type 0 where
    is : (x : ℤ) → o ≡ Some x → z ≡ x

  told_none : (z : ℤ) → Told z None
  told_none z = record { is = λ x e. cc }

  told_some : (z x : ℤ) → z ≡ x → Told z (Some x)
  told_some z x h = record { is = λ y e. cc }

  told_both : (op : ℤ → ℤ → ℤ) (x y : ℤ) (a b : Option ℤ) → Told x a → Told y b → Told (op x y) (both_known op a b)
  told_both op x y None b h k = told_none (op x y)
  told_both op x y (Some a) None h k = told_none (op x y)
  told_both op x y (Some a) (Some b) h k = told_some (op x y) (op a b) (ap₂ op (h.is a refl) (k.is b refl))

  -- the values of these terms are those that are known of them
  abbrev AllTold : Terms → Type 0
  AllTold no_terms = Unit {0}
  AllTold (terms t ts) = Told (number_in t) (constant_value t) × AllTold ts

  told_over : (h : Head) (ts : Terms) → AllTold ts → Told (number_of (worth symbols v h (eval_all symbols v ts))) (constant_over h (constant_values ts))
  told_over (Num z) ts k = told_some z z refl
  told_over Add (terms t (terms u no_terms)) k = told_both ◌+ℤ◌ (number_in t) (number_in u) (constant_value t) (constant_value u) k.0 k.1.0
  told_over Sub (terms t (terms u no_terms)) k =
      difference (constant_value t) (constant_value u) (told_both (λ x y. x +ℤ negsuc 0 *ℤ y) (number_in t) (number_in u) (constant_value t) (constant_value u) k.0 k.1.0)
    where
      difference : (a b : Option ℤ) → Told (number_in t +ℤ negsuc 0 *ℤ number_in u) (both_known (λ x y. x +ℤ negsuc 0 *ℤ y) a b) → Told (number_in t -ℤ number_in u) (both_known (λ x y. x +ℤ negsuc 0 *ℤ y) a b)
      difference a b known = record { is = λ x e. sym (minus_one (number_in t) (number_in u)) ∙ known.is x e }
  told_over Mul (terms t (terms u no_terms)) k = told_both ◌*ℤ◌ (number_in t) (number_in u) (constant_value t) (constant_value u) k.0 k.1.0
  told_over h ts k = told_none (number_of (worth symbols v h (eval_all symbols v ts)))

  mutual
    told : (t : Term) → Told (number_in t) (constant_value t)
    told (term h ts) = told_over h ts (all_told ts)

    all_told : (ts : Terms) → AllTold ts
    all_told no_terms = tt
    all_told (terms t ts) = (told t, all_told ts)

  -- a form, where there is one, is worth the number
  record Formed (z : ℤ) (o : Option Form) : Type 0 where
    is : (f : Form) → o ≡ Some f → z ≡ form_worth number_in f

  formed_none : (z : ℤ) → Formed z None
  formed_none z = record { is = λ f e. cc }

  formed_some : (z : ℤ) (f : Form) → z ≡ form_worth number_in f → Formed z (Some f)
  formed_some z f h = record { is = λ g e. cc }

  -- each of these terms is worth what its form is worth
  abbrev AllFormed : Terms → Type 0
  AllFormed no_terms = Unit {0}
  AllFormed (terms t ts) = (number_in t ≡ form_worth number_in (form t)) × AllFormed ts

  product_formed : (x y : ℤ) (a b : Option ℤ) (f g : Form) → Told x a → Told y b → x ≡ form_worth number_in f → y ≡ form_worth number_in g → Formed (x *ℤ y) (product_form a b f g)
  product_formed x y (Some z) b f g h k fh gh =
      formed_some (x *ℤ y) (multiple z g) (ap₂ ◌*ℤ◌ (h.is z refl) gh ∙ sym (multiple-worth number_in z g))
  product_formed x y None (Some z) f g h k fh gh =
      formed_some (x *ℤ y) (multiple z f) (*ℤ_comm x y ∙ ap₂ ◌*ℤ◌ (k.is z refl) fh ∙ sym (multiple-worth number_in z f))
  product_formed x y None None f g h k fh gh = formed_none (x *ℤ y)

  formed_over : (h : Head) (ts : Terms) → AllTold ts → AllFormed ts → Formed (number_of (worth symbols v h (eval_all symbols v ts))) (linear_form h (constant_values ts) (forms ts))
  formed_over (Num z) ts k l = formed_some z (constant_form z) (sym (zero-+ℤ z))
  formed_over Add (terms t (terms u no_terms)) k l =
      formed_some (number_in t +ℤ number_in u) (plus (form t) (form u)) (ap₂ ◌+ℤ◌ l.0 l.1.0 ∙ sym (plus-worth number_in (form t) (form u)))
  formed_over Sub (terms t (terms u no_terms)) k l =
      formed_some (number_in t -ℤ number_in u) (minus (form t) (form u)) (ap₂ ◌-ℤ◌ l.0 l.1.0 ∙ sym (minus-worth number_in (form t) (form u)))
  formed_over Mul (terms t (terms u no_terms)) k l =
      product_formed (number_in t) (number_in u) (constant_value t) (constant_value u) (form t) (form u) k.0 k.1.0 l.0 l.1.0
  formed_over h ts k l = formed_none (number_of (worth symbols v h (eval_all symbols v ts)))

  or_own : (t : Term) (o : Option Form) → Formed (number_in t) o → number_in t ≡ form_worth number_in (form_or_own o t)
  or_own t None h = own (number_in t)
  or_own t (Some f) h = h.is f refl

  mutual
    pub worth_is : (t : Term) → number_in t ≡ form_worth number_in (form t)
    worth_is (term h ts) =
        or_own (term h ts) (linear_form h (constant_values ts) (forms ts)) (formed_over h ts (all_told ts) (all_formed ts))

    all_formed : (ts : Terms) → AllFormed ts
    all_formed no_terms = tt
    all_formed (terms t ts) = (worth_is t, all_formed ts)
