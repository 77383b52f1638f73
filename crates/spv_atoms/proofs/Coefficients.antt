-- Forms as functions that give each term its number.
use Rattle.std.proofs.Common.{◌≡◌, Bool, true, false, cond, ◌&&◌, ◌||◌, List, [], ◌∷◌, map, ℤ, pos, negsuc, ◌+ℤ◌, ◌*ℤ◌, refl, sym, ap, ◌∙◌, subst, Option, Some, None, arith}
use Rattle.std.specs.List.{list_all}
use Rattle.std.proofs.lemmas.Bool.{false≢true}
use Rattle.std.proofs.lemmas.Int.{ints}
use Rattle.std.proofs.lemmas.Option.{same_Some}
use Rattle.spv_logic.proofs.list.Tests.{left_true, right_true}
use Rattle.spv_logic.specs.declared.operators.Head.{Head}
use Rattle.spv_logic.specs.declared.operators.Head.TheVariants.{Num, Add, Sub, Mul}
use Rattle.spv_logic.specs.Terms.{Term, Terms, term, no_terms, terms, term_eq}
use Rattle.spv_logic.proofs.Equality.{term_eq-true, term_eq-refl}
use Rattle.spv_frac.specs.Range.{fits}
use Rattle.spv_atoms.specs.Forms.{Form, with_part, with_parts, constant_form, plus, minus, multiple, both_known, constant_over, constant_value, constant_values, product_form, linear_form, form_or_own, form, forms, form_fits}
use Rattle.spv_atoms.specs.Linear.{coefficient, IsSameForm}

-- ---- numbers

zero-+ℤ : (a : ℤ) → a ≡ pos 0 +ℤ a
zero-+ℤ a = omega (arith, ints)

+ℤ-zero : (a : ℤ) → a ≡ a +ℤ pos 0
+ℤ-zero a = omega (arith, ints)

times_zero : (a : ℤ) → pos 0 ≡ a *ℤ pos 0
times_zero a = omega (arith, ints)

+ℤ_assoc : (a b c : ℤ) → a +ℤ b +ℤ c ≡ a +ℤ (b +ℤ c)
+ℤ_assoc a b c = omega (arith, ints)

-- ---- terms that are the same

-- a term that is one of two which differ is not the other
same_differs : (p t x : Term) → term_eq p x ≡ true → term_eq p t ≡ false → term_eq t x ≡ false
same_differs p t x e f = by_case (term_eq t x) refl
  where
    by_case : (b : Bool) → term_eq t x ≡ b → b ≡ false
    by_case true g =
        let same : p ≡ t = term_eq-true p x e ∙ sym (term_eq-true t x g) in
        absurd (false≢true (sym f ∙ (ap (λ u. term_eq u t) same ∙ term_eq-refl t)))
    by_case false g = refl

differs-sym : (p t : Term) → term_eq p t ≡ false → term_eq t p ≡ false
differs-sym p t f = same_differs p t p (term_eq-refl p) f

-- ---- parts

-- whether a term is one of the parts
abbrev pub has_part : List (Term × ℤ) → Term → Bool
has_part [] x = false
has_part (p ∷ parts) x = term_eq p.0 x || has_part parts x

-- no term stands twice
abbrev pub AreDifferent : List (Term × ℤ) → Type 0
AreDifferent [] = Unit {0}
AreDifferent (p ∷ parts) = (has_part parts p.0 ≡ false) × AreDifferent parts

-- what one part gives a term
abbrev pub number_of_part : Term × ℤ → Term → ℤ
number_of_part p x = cond (term_eq p.0 x) p.1 (pos 0)

pub none_listed : (parts : List (Term × ℤ)) (x : Term) → has_part parts x ≡ false → coefficient parts x ≡ pos 0
none_listed [] x h = refl
none_listed (p ∷ parts) x h = by_case (term_eq p.0 x) h (none_listed parts x)
  where
    by_case : (b : Bool) → (b || has_part parts x) ≡ false → (has_part parts x ≡ false → coefficient parts x ≡ pos 0) → cond b p.1 (coefficient parts x) ≡ pos 0
    by_case true h later = absurd (false≢true (sym h))
    by_case false h later = later h

-- ---- one part more

with_part-coefficient : (t : Term) (n : ℤ) (parts : List (Term × ℤ)) (x : Term) → coefficient (with_part ◌+ℤ◌ t n parts) x ≡ coefficient parts x +ℤ number_of_part (t, n) x
with_part-coefficient t n [] x = zero-+ℤ (cond (term_eq t x) n (pos 0))
with_part-coefficient t n (p ∷ parts) x = by_case (term_eq p.0 t) refl (with_part-coefficient t n parts x)
  where
    known : term_eq p.0 t ≡ true → (c : Bool) → term_eq p.0 x ≡ c
        → cond c (p.1 +ℤ n) (coefficient parts x) ≡ cond c p.1 (coefficient parts x) +ℤ cond (term_eq t x) n (pos 0)
    known e true f =
        let is : term_eq t x ≡ true = ap (λ u. term_eq u x) (sym (term_eq-true p.0 t e)) ∙ f in
        sym (ap (λ b. p.1 +ℤ cond b n (pos 0)) is)
    known e false f =
        let is : term_eq t x ≡ false = ap (λ u. term_eq u x) (sym (term_eq-true p.0 t e)) ∙ f in
        +ℤ-zero (coefficient parts x) ∙ sym (ap (λ b. coefficient parts x +ℤ cond b n (pos 0)) is)

    new : term_eq p.0 t ≡ false → coefficient (with_part ◌+ℤ◌ t n parts) x ≡ coefficient parts x +ℤ number_of_part (t, n) x → (c : Bool) → term_eq p.0 x ≡ c
        → cond c p.1 (coefficient (with_part ◌+ℤ◌ t n parts) x) ≡ cond c p.1 (coefficient parts x) +ℤ cond (term_eq t x) n (pos 0)
    new e later true f = +ℤ-zero p.1 ∙ sym (ap (λ b. p.1 +ℤ cond b n (pos 0)) (same_differs p.0 t x f e))
    new e later false f = later

    by_case : (b : Bool) → term_eq p.0 t ≡ b → coefficient (with_part ◌+ℤ◌ t n parts) x ≡ coefficient parts x +ℤ number_of_part (t, n) x
        → coefficient (cond b ((p.0, p.1 +ℤ n) ∷ parts) (p ∷ with_part ◌+ℤ◌ t n parts)) x ≡ cond (term_eq p.0 x) p.1 (coefficient parts x) +ℤ cond (term_eq t x) n (pos 0)
    by_case true e later = known e (term_eq p.0 x) refl
    by_case false e later = new e later (term_eq p.0 x) refl

left_false : (a b : Bool) → (a || b) ≡ false → a ≡ false
left_false true b h = h
left_false false b h = refl

right_false : (a b : Bool) → (a || b) ≡ false → b ≡ false
right_false true b h = absurd (false≢true (sym h))
right_false false b h = h

both_false : (a b : Bool) → a ≡ false → b ≡ false → (a || b) ≡ false
both_false true b h k = h
both_false false b h k = k

with_part-has : (t : Term) (n : ℤ) (parts : List (Term × ℤ)) (x : Term) → has_part parts x ≡ false → term_eq t x ≡ false → has_part (with_part ◌+ℤ◌ t n parts) x ≡ false
with_part-has t n [] x h k = both_false (term_eq t x) false k refl
with_part-has t n (p ∷ parts) x h k = by_case (term_eq p.0 t) (with_part-has t n parts x (right_false (term_eq p.0 x) (has_part parts x) h) k)
  where
    by_case : (b : Bool) → has_part (with_part ◌+ℤ◌ t n parts) x ≡ false → has_part (cond b ((p.0, p.1 +ℤ n) ∷ parts) (p ∷ with_part ◌+ℤ◌ t n parts)) x ≡ false
    by_case true later = h
    by_case false later = both_false (term_eq p.0 x) (has_part (with_part ◌+ℤ◌ t n parts) x) (left_false (term_eq p.0 x) (has_part parts x) h) later

with_part-different : (t : Term) (n : ℤ) (parts : List (Term × ℤ)) → AreDifferent parts → AreDifferent (with_part ◌+ℤ◌ t n parts)
with_part-different t n [] h = (refl, tt)
with_part-different t n (p ∷ parts) h = by_case (term_eq p.0 t) refl (with_part-different t n parts h.1)
  where
    by_case : (b : Bool) → term_eq p.0 t ≡ b → AreDifferent (with_part ◌+ℤ◌ t n parts) → AreDifferent (cond b ((p.0, p.1 +ℤ n) ∷ parts) (p ∷ with_part ◌+ℤ◌ t n parts))
    by_case true e later = h
    by_case false e later = (with_part-has t n parts p.0 h.0 (differs-sym p.0 t e), later)

-- ---- many parts more

-- what all parts together give a term
abbrev pub total : List (Term × ℤ) → Term → ℤ
total [] x = pos 0
total (p ∷ parts) x = number_of_part p x +ℤ total parts x

total-different : (parts : List (Term × ℤ)) (x : Term) → AreDifferent parts → total parts x ≡ coefficient parts x
total-different [] x h = refl
total-different (p ∷ parts) x h = by_case (term_eq p.0 x) refl (total-different parts x h.1)
  where
    by_case : (b : Bool) → term_eq p.0 x ≡ b → total parts x ≡ coefficient parts x → cond b p.1 (pos 0) +ℤ total parts x ≡ cond b p.1 (coefficient parts x)
    by_case true e later =
        ap (λ z. p.1 +ℤ z) (later ∙ none_listed parts x (ap (has_part parts) (sym (term_eq-true p.0 x e)) ∙ h.0)) ∙ sym (+ℤ-zero p.1)
    by_case false e later = sym (zero-+ℤ (total parts x)) ∙ later

with_parts-total : (others parts : List (Term × ℤ)) (x : Term) → coefficient (with_parts ◌+ℤ◌ (λ n. n) others parts) x ≡ coefficient parts x +ℤ total others x
with_parts-total [] parts x = +ℤ-zero (coefficient parts x)
with_parts-total (p ∷ others) parts x =
    with_parts-total others (with_part ◌+ℤ◌ p.0 p.1 parts) x
    ∙ (ap (λ z. z +ℤ total others x) (with_part-coefficient p.0 p.1 parts x) ∙ +ℤ_assoc (coefficient parts x) (number_of_part p x) (total others x))

with_parts-different : (others parts : List (Term × ℤ)) → AreDifferent parts → AreDifferent (with_parts ◌+ℤ◌ (λ n. n) others parts)
with_parts-different [] parts h = h
with_parts-different (p ∷ others) parts h =
    with_parts-different others (with_part ◌+ℤ◌ p.0 p.1 parts) (with_part-different p.0 p.1 parts h)

-- ---- sums and multiples of forms

pub plus-coefficient : (f g : Form) (x : Term) → AreDifferent g.parts → coefficient (plus f g).parts x ≡ coefficient f.parts x +ℤ coefficient g.parts x
plus-coefficient f g x h = with_parts-total g.parts f.parts x ∙ ap (λ z. coefficient f.parts x +ℤ z) (total-different g.parts x h)

abbrev pub scaled_parts : ℤ → List (Term × ℤ) → List (Term × ℤ)
scaled_parts z parts = map (λ (p : Term × ℤ). (p.0, z *ℤ p.1)) parts

pub multiple-coefficient : (z : ℤ) (parts : List (Term × ℤ)) (x : Term) → coefficient (scaled_parts z parts) x ≡ z *ℤ coefficient parts x
multiple-coefficient z [] x = times_zero z
multiple-coefficient z (p ∷ parts) x = by_case (term_eq p.0 x) (multiple-coefficient z parts x)
  where
    by_case : (b : Bool) → coefficient (scaled_parts z parts) x ≡ z *ℤ coefficient parts x → cond b (z *ℤ p.1) (coefficient (scaled_parts z parts) x) ≡ z *ℤ cond b p.1 (coefficient parts x)
    by_case true later = refl
    by_case false later = later

scaled-has : (z : ℤ) (parts : List (Term × ℤ)) (x : Term) → has_part (scaled_parts z parts) x ≡ has_part parts x
scaled-has z [] x = refl
scaled-has z (p ∷ parts) x = ap (λ b. term_eq p.0 x || b) (scaled-has z parts x)

scaled-different : (z : ℤ) (parts : List (Term × ℤ)) → AreDifferent parts → AreDifferent (scaled_parts z parts)
scaled-different z [] h = tt
scaled-different z (p ∷ parts) h = (scaled-has z parts p.0 ∙ h.0, scaled-different z parts h.1)

pub minus-coefficient : (f g : Form) (x : Term) → AreDifferent g.parts → coefficient (minus f g).parts x ≡ coefficient f.parts x +ℤ negsuc 0 *ℤ coefficient g.parts x
minus-coefficient f g x h =
    plus-coefficient f (multiple (negsuc 0) g) x (scaled-different (negsuc 0) g.parts h) ∙ ap (λ z. coefficient f.parts x +ℤ z) (multiple-coefficient (negsuc 0) g.parts x)

-- ---- the form of a term has each part once

-- no term stands twice in a form, where there is one
record IsSingle (o : Option Form) : Type 0 where
  pub is : (f : Form) → o ≡ Some f → AreDifferent f.parts

single_none : IsSingle None
single_none = record { is = λ f e. cc }

single_some : (f : Form) → AreDifferent f.parts → IsSingle (Some f)
single_some f h = record { is = λ g e. subst (λ (k : Form). AreDifferent k.parts) (same_Some f g e) h }

abbrev AllSingle : Terms → Type 0
AllSingle no_terms = Unit {0}
AllSingle (terms t ts) = AreDifferent (form t).parts × AllSingle ts

product_single : (a b : Option ℤ) (f g : Form) → AreDifferent f.parts → AreDifferent g.parts → IsSingle (product_form a b f g)
product_single (Some z) b f g h k = single_some (multiple z g) (scaled-different z g.parts k)
product_single None (Some z) f g h k = single_some (multiple z f) (scaled-different z f.parts h)
product_single None None f g h k = single_none

single_over : (h : Head) (ts : Terms) → AllSingle ts → IsSingle (linear_form h (constant_values ts) (forms ts))
single_over (Num z) ts k = single_some (constant_form z) tt
single_over Add (terms t (terms u no_terms)) k = single_some (plus (form t) (form u)) (with_parts-different (form u).parts (form t).parts k.0)
single_over Sub (terms t (terms u no_terms)) k =
    single_some (minus (form t) (form u)) (with_parts-different (scaled_parts (negsuc 0) (form u).parts) (form t).parts k.0)
single_over Mul (terms t (terms u no_terms)) k = product_single (constant_value t) (constant_value u) (form t) (form u) k.0 k.1.0
single_over h ts k = single_none

single_or_own : (t : Term) (o : Option Form) → IsSingle o → AreDifferent (form_or_own o t).parts
single_or_own t None h = (refl, tt)
single_or_own t (Some f) h = h.is f refl

mutual
  pub form-different : (t : Term) → AreDifferent (form t).parts
  form-different (term h ts) = single_or_own (term h ts) (linear_form h (constant_values ts) (forms ts)) (single_over h ts (all_single ts))

  all_single : (ts : Terms) → AllSingle ts
  all_single no_terms = tt
  all_single (terms t ts) = (form-different t, all_single ts)

-- ---- forms that fit

abbrev pub all_fit : List (Term × ℤ) → Bool
all_fit parts = list_all (λ (p : Term × ℤ). fits p.1) parts

pub coefficient-fits : (parts : List (Term × ℤ)) → all_fit parts ≡ true → (x : Term) → fits (coefficient parts x) ≡ true
coefficient-fits [] h x = refl
coefficient-fits (p ∷ parts) h x = by_case (term_eq p.0 x) (coefficient-fits parts (right_true (fits p.1) (all_fit parts) h) x)
  where
    by_case : (b : Bool) → fits (coefficient parts x) ≡ true → fits (cond b p.1 (coefficient parts x)) ≡ true
    by_case true later = left_true (fits p.1) (all_fit parts) h
    by_case false later = later

pub both_true : (a b : Bool) → a ≡ true → b ≡ true → (a && b) ≡ true
both_true true b h k = k
both_true false b h k = h

pub all-coefficients-fit : (parts : List (Term × ℤ)) → AreDifferent parts → ((x : Term) → fits (coefficient parts x) ≡ true) → all_fit parts ≡ true
all-coefficients-fit [] d h = refl
all-coefficients-fit (p ∷ parts) d h =
    both_true (fits p.1) (all_fit parts)
    (ap (λ b. fits (cond b p.1 (coefficient parts p.0))) (sym (term_eq-refl p.0)) ∙ h p.0)
    (all-coefficients-fit parts d.1 (λ x. by_case x (term_eq p.0 x) refl (has_part parts x) refl))
  where
    by_case : (x : Term) → (b : Bool) → term_eq p.0 x ≡ b → (c : Bool) → has_part parts x ≡ c → fits (coefficient parts x) ≡ true
    by_case x b e false f = ap fits (none_listed parts x f)
    by_case x true e true f = absurd (false≢true (sym d.0 ∙ (ap (has_part parts) (term_eq-true p.0 x e) ∙ f)))
    by_case x false e true f = ap (λ b. fits (cond b p.1 (coefficient parts x))) (sym e) ∙ h x

-- a form whose numbers fit shows that each form with the same numbers fits
pub same-fits : (f g : Form) → IsSameForm f g → AreDifferent g.parts → form_fits f ≡ true → form_fits g ≡ true
same-fits f g same d h =
    both_true (all_fit g.parts) (fits g.constant)
    (all-coefficients-fit g.parts d (λ x. ap fits (sym (same.parts x)) ∙ coefficient-fits f.parts (left_true (all_fit f.parts) (fits f.constant) h) x))
    (ap fits (sym same.constant) ∙ right_true (all_fit f.parts) (fits f.constant) h)

-- a form does not fit, where not all its numbers do
pub not-all-fit : (f : Form) → (((x : Term) → fits (coefficient f.parts x) ≡ true) → fits f.constant ≡ true → ⊥) → form_fits f ≡ false
not-all-fit f h = by_case (form_fits f) refl
  where
    by_case : (b : Bool) → form_fits f ≡ b → b ≡ false
    by_case true e = absurd (h (coefficient-fits f.parts (left_true (all_fit f.parts) (fits f.constant) e)) (right_true (all_fit f.parts) (fits f.constant) e))
    by_case false e = refl

-- ---- constant terms

-- a form, where there is one and the value is known, is that of the value
pub record IsConstant (a : Option ℤ) (t : Term) : Type 0 where
  pub is : (z : ℤ) → a ≡ Some z → form t ≡ constant_form z

constant_none : (t : Term) → IsConstant None t
constant_none t = record { is = λ z e. cc }

constant_some : (x : ℤ) (t : Term) → form t ≡ constant_form x → IsConstant (Some x) t
constant_some x t h = record { is = λ z e. cc }

abbrev AllConstant : Terms → Type 0
AllConstant no_terms = Unit {0}
AllConstant (terms t ts) = IsConstant (constant_value t) t × AllConstant ts

add_constant : (t u : Term) (a b : Option ℤ) → IsConstant a t → IsConstant b u → IsConstant (both_known ◌+ℤ◌ a b) (term Add (terms t (terms u no_terms)))
add_constant t u None b h k = constant_none (term Add (terms t (terms u no_terms)))
add_constant t u (Some x) None h k = constant_none (term Add (terms t (terms u no_terms)))
add_constant t u (Some x) (Some y) h k =
    constant_some (x +ℤ y) (term Add (terms t (terms u no_terms))) (ap (λ f. plus f (form u)) (h.is x refl) ∙ ap (plus (constant_form x)) (k.is y refl))

sub_constant : (t u : Term) (a b : Option ℤ) → IsConstant a t → IsConstant b u → IsConstant (both_known (λ x y. x +ℤ negsuc 0 *ℤ y) a b) (term Sub (terms t (terms u no_terms)))
sub_constant t u None b h k = constant_none (term Sub (terms t (terms u no_terms)))
sub_constant t u (Some x) None h k = constant_none (term Sub (terms t (terms u no_terms)))
sub_constant t u (Some x) (Some y) h k =
    constant_some (x +ℤ negsuc 0 *ℤ y) (term Sub (terms t (terms u no_terms))) (ap (λ f. minus f (form u)) (h.is x refl) ∙ ap (minus (constant_form x)) (k.is y refl))

mul_constant : (t u : Term) (a b : Option ℤ) → constant_value t ≡ a → constant_value u ≡ b → IsConstant b u → IsConstant (both_known ◌*ℤ◌ a b) (term Mul (terms t (terms u no_terms)))
mul_constant t u None b d e k = constant_none (term Mul (terms t (terms u no_terms)))
mul_constant t u (Some x) None d e k = constant_none (term Mul (terms t (terms u no_terms)))
mul_constant t u (Some x) (Some y) d e k =
    constant_some (x *ℤ y) (term Mul (terms t (terms u no_terms)))
    (ap (λ (a : Option ℤ). form_or_own (product_form a (constant_value u) (form t) (form u)) (term Mul (terms t (terms u no_terms)))) d ∙ ap (multiple x) (k.is y refl))

constant_over_is : (h : Head) (ts : Terms) → AllConstant ts → IsConstant (constant_over h (constant_values ts)) (term h ts)
constant_over_is (Num z) ts k = constant_some z (term (Num z) ts) refl
constant_over_is Add (terms t (terms u no_terms)) k = add_constant t u (constant_value t) (constant_value u) k.0 k.1.0
constant_over_is Sub (terms t (terms u no_terms)) k = sub_constant t u (constant_value t) (constant_value u) k.0 k.1.0
constant_over_is Mul (terms t (terms u no_terms)) k = mul_constant t u (constant_value t) (constant_value u) refl refl k.1.0
constant_over_is h ts k = constant_none (term h ts)

mutual
  pub constant_is : (t : Term) → IsConstant (constant_value t) t
  constant_is (term h ts) = constant_over_is h ts (all_constant ts)

  all_constant : (ts : Terms) → AllConstant ts
  all_constant no_terms = tt
  all_constant (terms t ts) = (constant_is t, all_constant ts)
