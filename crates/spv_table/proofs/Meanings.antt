-- What heads make of what is kept of their arguments.
use Rattle.std.proofs.Common.{◌≡◌, Bool, true, false, cond, ◌&&◌, List, [], ◌∷◌, ℤ, negsuc, ◌+ℤ◌, ◌*ℤ◌, refl, sym, ap, ◌∙◌, Option, Some, None, Ok, is_some}
use mathlib.Core.Path.{ap₂}
use Rattle.std.proofs.lemmas.Bool.{false≢true}
use Rattle.spv_whole.specs.Fraction.{Fraction}
use Rattle.spv_logic.specs.declared.operators.Head.{Head}
use Rattle.spv_logic.specs.declared.operators.Head.TheVariants.{Num, Add, Sub, Mul, Eq, Lt, Le, Not, And, Or, Implies, True, False}
use Rattle.spv_logic.specs.Terms.{Term, Terms, term, no_terms, terms}
use Rattle.spv_atoms.specs.Forms.{both_known, constant_over, constant_value, constant_values}
use Rattle.spv_atoms.specs.Order.{is_sum_head, has_meaning_head}
use Rattle.spv_table.specs.declared.kept.Kept.{Kept}
use Rattle.spv_table.specs.Values.{Outcome, has_meaning_over, both, of_pair, negation, pair_or, value_over, value, values}
use Rattle.spv_table.specs.Kept.{pair_over, single_over, alone_constant, alone_value, IsKept}

-- ---- heads that take no values

no_meaning : (h : Head) → has_meaning_head h ≡ false → (a b : Bool) → has_meaning_over h a b ≡ false
no_meaning Add e a b = absurd (false≢true (sym e))
no_meaning Sub e a b = absurd (false≢true (sym e))
no_meaning Mul e a b = absurd (false≢true (sym e))
no_meaning Eq e a b = absurd (false≢true (sym e))
no_meaning Lt e a b = absurd (false≢true (sym e))
no_meaning Le e a b = absurd (false≢true (sym e))
no_meaning Not e a b = absurd (false≢true (sym e))
no_meaning And e a b = absurd (false≢true (sym e))
no_meaning Or e a b = absurd (false≢true (sym e))
no_meaning Implies e a b = absurd (false≢true (sym e))
no_meaning _ e a b = refl

pair_own : (h : Head) → ((a b : Bool) → has_meaning_over h a b ≡ false) → (constants : List (Option ℤ)) (vs : List Outcome) (own : Fraction) → pair_or h constants vs own ≡ Ok own
pair_own h e [] vs own = refl
pair_own h e (c ∷ []) vs own = refl
pair_own h e (c ∷ d ∷ []) [] own = refl
pair_own h e (c ∷ d ∷ []) (a ∷ []) own = refl
pair_own h e (c ∷ d ∷ []) (a ∷ b ∷ []) own = ap (λ t. cond t (both (of_pair h) a b) (Ok own)) (e (is_some c) (is_some d))
pair_own h e (c ∷ d ∷ []) (a ∷ b ∷ x ∷ vs) own = refl
pair_own h e (c ∷ d ∷ x ∷ constants) vs own = refl

alone_values : (h : Head) → has_meaning_head h ≡ false → (constants : List (Option ℤ)) (vs : List Outcome) (own : Fraction) → value_over h constants vs own ≡ alone_value h own
alone_values (Num z) e constants vs own = refl
alone_values True e constants vs own = refl
alone_values False e constants vs own = refl
alone_values Not e constants vs own = absurd (false≢true (sym e))
alone_values Add e constants vs own = absurd (false≢true (sym e))
alone_values Sub e constants vs own = absurd (false≢true (sym e))
alone_values Mul e constants vs own = absurd (false≢true (sym e))
alone_values Eq e constants vs own = absurd (false≢true (sym e))
alone_values Lt e constants vs own = absurd (false≢true (sym e))
alone_values Le e constants vs own = absurd (false≢true (sym e))
alone_values And e constants vs own = absurd (false≢true (sym e))
alone_values Or e constants vs own = absurd (false≢true (sym e))
alone_values Implies e constants vs own = absurd (false≢true (sym e))
alone_values h e constants vs own = pair_own h (no_meaning h e) constants vs own

alone_constants : (h : Head) → has_meaning_head h ≡ false → (constants : List (Option ℤ)) → is_some (constant_over h constants) ≡ alone_constant h
alone_constants (Num z) e constants = refl
alone_constants Add e constants = absurd (false≢true (sym e))
alone_constants Sub e constants = absurd (false≢true (sym e))
alone_constants Mul e constants = absurd (false≢true (sym e))
alone_constants _ e constants = refl

-- ---- heads over one term

single_values : (h : Head) → has_meaning_head h ≡ true → (c : Option ℤ) (a : Outcome) (kept : Kept) (own : Fraction) → kept.value ≡ a → value_over h (c ∷ []) (a ∷ []) own ≡ single_over h kept own
single_values Not e c a kept own f = ap negation (sym f)
single_values Add e c a kept own f = refl
single_values Sub e c a kept own f = refl
single_values Mul e c a kept own f = refl
single_values Eq e c a kept own f = refl
single_values Lt e c a kept own f = refl
single_values Le e c a kept own f = refl
single_values And e c a kept own f = refl
single_values Or e c a kept own f = refl
single_values Implies e c a kept own f = refl
single_values h e c a kept own f = absurd (false≢true e)

single_constants : (h : Head) → has_meaning_head h ≡ true → (c : Option ℤ) → is_some (constant_over h (c ∷ [])) ≡ false
single_constants Not e c = refl
single_constants Add e c = refl
single_constants Sub e c = refl
single_constants Mul e c = refl
single_constants Eq e c = refl
single_constants Lt e c = refl
single_constants Le e c = refl
single_constants And e c = refl
single_constants Or e c = refl
single_constants Implies e c = refl
single_constants h e c = absurd (false≢true e)

-- ---- heads over two terms

pair_values : (h : Head) → has_meaning_head h ≡ true → (c d : Option ℤ) (a b : Outcome) (own : Fraction)
    → value_over h (c ∷ d ∷ []) (a ∷ b ∷ []) own ≡ cond (has_meaning_over h (is_some c) (is_some d)) (both (of_pair h) a b) (Ok own)
pair_values Not e c d a b own = refl
pair_values Add e c d a b own = refl
pair_values Sub e c d a b own = refl
pair_values Mul e c d a b own = refl
pair_values Eq e c d a b own = refl
pair_values Lt e c d a b own = refl
pair_values Le e c d a b own = refl
pair_values And e c d a b own = refl
pair_values Or e c d a b own = refl
pair_values Implies e c d a b own = refl
pair_values h e c d a b own = absurd (false≢true e)

both_some : (op : ℤ → ℤ → ℤ) (c d : Option ℤ) → is_some (both_known op c d) ≡ (is_some c && is_some d)
both_some op None d = refl
both_some op (Some x) None = refl
both_some op (Some x) (Some y) = refl

pair_constants : (h : Head) → has_meaning_head h ≡ true → (c d : Option ℤ) → is_some (constant_over h (c ∷ d ∷ [])) ≡ (is_sum_head h && (is_some c && is_some d))
pair_constants Not e c d = refl
pair_constants Add e c d = both_some ◌+ℤ◌ c d
pair_constants Sub e c d = both_some (λ x y. x +ℤ negsuc 0 *ℤ y) c d
pair_constants Mul e c d = both_some ◌*ℤ◌ c d
pair_constants Eq e c d = refl
pair_constants Lt e c d = refl
pair_constants Le e c d = refl
pair_constants And e c d = refl
pair_constants Or e c d = refl
pair_constants Implies e c d = refl
pair_constants h e c d = absurd (false≢true e)

-- ---- heads over none, or more than two

none_of : (h : Head) → has_meaning_head h ≡ true → (own : Fraction) → (value_over h [] [] own ≡ Ok own) × (is_some (constant_over h []) ≡ false)
none_of Not e own = (refl, refl)
none_of Add e own = (refl, refl)
none_of Sub e own = (refl, refl)
none_of Mul e own = (refl, refl)
none_of Eq e own = (refl, refl)
none_of Lt e own = (refl, refl)
none_of Le e own = (refl, refl)
none_of And e own = (refl, refl)
none_of Or e own = (refl, refl)
none_of Implies e own = (refl, refl)
none_of h e own = absurd (false≢true e)

many_of : (h : Head) → has_meaning_head h ≡ true → (c d x : Option ℤ) (constants : List (Option ℤ)) (a b y : Outcome) (vs : List Outcome) (own : Fraction)
    → (value_over h (c ∷ d ∷ x ∷ constants) (a ∷ b ∷ y ∷ vs) own ≡ Ok own) × (is_some (constant_over h (c ∷ d ∷ x ∷ constants)) ≡ false)
many_of Not e c d x constants a b y vs own = (refl, refl)
many_of Add e c d x constants a b y vs own = (refl, refl)
many_of Sub e c d x constants a b y vs own = (refl, refl)
many_of Mul e c d x constants a b y vs own = (refl, refl)
many_of Eq e c d x constants a b y vs own = (refl, refl)
many_of Lt e c d x constants a b y vs own = (refl, refl)
many_of Le e c d x constants a b y vs own = (refl, refl)
many_of And e c d x constants a b y vs own = (refl, refl)
many_of Or e c d x constants a b y vs own = (refl, refl)
many_of Implies e c d x constants a b y vs own = (refl, refl)
many_of h e c d x constants a b y vs own = absurd (false≢true e)

-- ---- what is kept

module _ (listed : Term → Fraction) (h : Head) (kept : Kept) where
  pub alone_kept : (ts : Terms) → has_meaning_head h ≡ false → kept.is_constant ≡ alone_constant h → kept.value ≡ alone_value h (listed (term h ts)) → IsKept listed (term h ts) kept
  alone_kept ts e f g = record {
    constant = f ∙ sym (alone_constants h e (constant_values ts));
    value = g ∙ sym (alone_values h e (constant_values ts) (values listed ts) (listed (term h ts)));
  }

  module _ (meaning : has_meaning_head h ≡ true) where
    pub single_kept : (x : Term) (child : Kept) → IsKept listed x child → kept.is_constant ≡ false → kept.value ≡ single_over h child (listed (term h (terms x no_terms))) → IsKept listed (term h (terms x no_terms)) kept
    single_kept x child is f g = record {
      constant = f ∙ sym (single_constants h meaning (constant_value x));
      value = g ∙ sym (single_values h meaning (constant_value x) (value listed x) child (listed (term h (terms x no_terms))) is.value);
    }

    pub pair_kept : (x y : Term) (left right : Kept) → IsKept listed x left → IsKept listed y right → kept.is_constant ≡ (is_sum_head h && (left.is_constant && right.is_constant))
        → kept.value ≡ pair_over h left right (listed (term h (terms x (terms y no_terms)))) → IsKept listed (term h (terms x (terms y no_terms))) kept
    pair_kept x y left right is_left is_right f g = record {
      constant = f ∙ (ap₂ (λ a b. is_sum_head h && (a && b)) is_left.constant is_right.constant ∙ sym (pair_constants h meaning (constant_value x) (constant_value y)));
      value =
          g ∙ ((λ i. cond (has_meaning_over h (is_left.constant i) (is_right.constant i)) (both (of_pair h) (is_left.value i) (is_right.value i)) (Ok (listed (term h (terms x (terms y no_terms))))))
          ∙ sym (pair_values h meaning (constant_value x) (constant_value y) (value listed x) (value listed y) (listed (term h (terms x (terms y no_terms))))));
    }

    pub none_kept : kept.is_constant ≡ false → kept.value ≡ Ok (listed (term h no_terms)) → IsKept listed (term h no_terms) kept
    none_kept f g = let n = none_of h meaning (listed (term h no_terms)) in record { constant = f ∙ sym n.1; value = g ∙ sym n.0 }

    pub many_kept : (x y z : Term) (ts : Terms) → kept.is_constant ≡ false → kept.value ≡ Ok (listed (term h (terms x (terms y (terms z ts))))) → IsKept listed (term h (terms x (terms y (terms z ts)))) kept
    many_kept x y z ts f g =
        let n = many_of h meaning (constant_value x) (constant_value y) (constant_value z) (constant_values ts) (value listed x) (value listed y) (value listed z) (values listed ts) (listed (term h (terms x (terms y (terms z ts))))) in
        record { constant = f ∙ sym n.1; value = g ∙ sym n.0 }
