-- What is found of terms one after the other, over plain variables.
use Rattle.std.proofs.Common.{◌≡◌, ◌<◌, Bool, true, false, cond, ◌&&◌, ◌||◌, [], ◌∷◌, length, ℤ, pos, negsuc, ◌+ℤ◌, ◌*ℤ◌, refl, sym, ap, ◌∙◌, subst, Option, Some, None, is_some}
use mathlib.Core.Path.{ap₂}
use Rattle.std.proofs.lemmas.Bool.{false≢true}
use Rattle.spv_logic.specs.declared.conditions.TermId.{TermId}
use Rattle.spv_logic.specs.declared.operators.Head.{Head}
use Rattle.spv_logic.specs.declared.operators.Head.TheVariants.{Add, Sub, Mul}
use Rattle.spv_logic.specs.Terms.{Term, Terms, term, no_terms, terms, term_eq}
use Rattle.spv_term.specs.Arena.{Arena, IsArena, tree}
use Rattle.spv_atoms.specs.Forms.{Form, both_known, constant_value, constant_values, product_form, linear_form, form_or_own, form, forms, is_linear, all_narrow, form_fits}
use Rattle.spv_atoms.specs.Order.{is_sum_head}
use Rattle.spv_atoms.specs.Linear.{IsSameForm, stands_in, stands_in_any, IdForm, IsIdForm, form_over, IsFormOf, IsWideIn}
use Rattle.spv_atoms.specs.declared.forms.Formed.{Formed}
use Rattle.spv_atoms.specs.declared.forms.Formed.TheVariants.{Narrow, Wide}
use Rattle.spv_atoms.specs.declared.forms.Found.{Found}
use Rattle.spv_atoms.specs.Found.{is_linear_over, IsCombined, IsOwn, IsFormed, IsFound, IsPairForm, IsPairFound}
use Rattle.spv_atoms.proofs.Forming.{pair, add_narrow, add_wide, sub_narrow, sub_wide, first_narrow, first_wide, second_narrow, second_wide}

true≢false : true ≡ false → ⊥
true≢false e = false≢true (sym e)

-- ---- heads over two terms

-- whether the sides of a term are constant decides whether it is
pub constant_pair : (h : Head) (x y : Term) → is_sum_head h ≡ true → is_some (constant_value (term h (pair x y))) ≡ (is_some (constant_value x) && is_some (constant_value y))
constant_pair Add x y e = both (constant_value x) (constant_value y)
  where
    both : (a b : Option ℤ) → is_some (both_known ◌+ℤ◌ a b) ≡ (is_some a && is_some b)
    both None b = refl
    both (Some z) None = refl
    both (Some z) (Some w) = refl
constant_pair Sub x y e = both (constant_value x) (constant_value y)
  where
    both : (a b : Option ℤ) → is_some (both_known (λ x y. x +ℤ negsuc 0 *ℤ y) a b) ≡ (is_some a && is_some b)
    both None b = refl
    both (Some z) None = refl
    both (Some z) (Some w) = refl
constant_pair Mul x y e = both (constant_value x) (constant_value y)
  where
    both : (a b : Option ℤ) → is_some (both_known ◌*ℤ◌ a b) ≡ (is_some a && is_some b)
    both None b = refl
    both (Some z) None = refl
    both (Some z) (Some w) = refl
constant_pair h x y e = absurd (false≢true e)

-- a head that is linear over two terms gives a form
pub linear_pair : (h : Head) (x y : Term) → is_sum_head h ≡ true → is_linear_over h (is_some (constant_value x)) (is_some (constant_value y)) ≡ true
    → is_linear (linear_form h (constant_values (pair x y)) (forms (pair x y))) ≡ true
linear_pair Add x y e f = refl
linear_pair Sub x y e f = refl
linear_pair Mul x y e f = one (constant_value x) (constant_value y) f
  where
    one : (a b : Option ℤ) → (is_some a || is_some b) ≡ true → is_linear (product_form a b (form x) (form y)) ≡ true
    one (Some z) b f = refl
    one None (Some z) f = refl
    one None None f = absurd (false≢true f)
linear_pair h x y e f = absurd (false≢true e)

-- another one gives none
pub own_pair : (h : Head) (x y : Term) → is_sum_head h ≡ true → is_linear_over h (is_some (constant_value x)) (is_some (constant_value y)) ≡ false
    → linear_form h (constant_values (pair x y)) (forms (pair x y)) ≡ None
own_pair Add x y e f = absurd (true≢false f)
own_pair Sub x y e f = absurd (true≢false f)
own_pair Mul x y e f = none (constant_value x) (constant_value y) f
  where
    none : (a b : Option ℤ) → (is_some a || is_some b) ≡ false → product_form a b (form x) (form y) ≡ None
    none (Some z) b f = absurd (true≢false f)
    none None (Some z) f = absurd (true≢false f)
    none None None f = refl
own_pair h x y e f = absurd (false≢true e)

-- ---- forms that are found

or_left : (a b : Bool) → a ≡ true → (a || b) ≡ true
or_left true b h = refl
or_left false b h = absurd (false≢true h)

or_right : (a b : Bool) → b ≡ true → (a || b) ≡ true
or_right true b h = refl
or_right false b h = h

module _ (a : Arena) (ok : IsArena a) where
  -- a term in a linear position of an argument is in one of the whole, where its head is linear
  inside : (h : Head) (ts : Terms) (u : TermId) → is_linear (linear_form h (constant_values ts) (forms ts)) ≡ true → u.0 < length a.nodes → form_fits (form (tree a u)) ≡ false → stands_in_any (tree a u) ts ≡ true
      → IsWideIn a (term h ts) u
  inside h ts u e u_in wide k = record {
    in_range = u_in;
    inside = or_right (term_eq (tree a u) (term h ts)) _ (ap (λ b. cond b (stands_in_any (tree a u) ts) false) e ∙ k);
    wide = wide;
  }

  wide_left : (h : Head) (x y : Term) (u : TermId) → is_linear (linear_form h (constant_values (pair x y)) (forms (pair x y))) ≡ true → IsWideIn a x u → IsWideIn a (term h (pair x y)) u
  wide_left h x y u e w = inside h (pair x y) u e w.in_range w.wide (or_left (stands_in (tree a u) x) (stands_in_any (tree a u) (terms y no_terms)) w.inside)

  wide_right : (h : Head) (x y : Term) (u : TermId) → is_linear (linear_form h (constant_values (pair x y)) (forms (pair x y))) ≡ true → IsWideIn a y u → IsWideIn a (term h (pair x y)) u
  wide_right h x y u e w =
      inside h (pair x y) u e w.in_range w.wide (or_right (stands_in (tree a u) x) (stands_in_any (tree a u) (terms y no_terms)) (or_left (stands_in (tree a u) y) false w.inside))

  -- a term that is its own part
  pub own_form : (h : Head) (ts : Terms) (t : TermId) → linear_form h (constant_values ts) (forms ts) ≡ None → t.0 < length a.nodes → tree a t ≡ term h ts
      → IsFormOf a (term h ts) (record { parts = (t, pos 1) ∷ []; constant = pos 0 })
  own_form h ts t e t_in at = record {
    in_range = (t_in, tt);
    same = subst (λ (f : Form). IsSameForm (form_over a (record { parts = (t, pos 1) ∷ []; constant = pos 0 })) f) (sym (ap (λ (o : Option Form). form_or_own o (term h ts)) e))
        (record { parts = λ x. ap (λ y. cond (term_eq y x) (pos 1) (pos 0)) at; constant = refl });
    narrow = ap (λ (o : Option Form). form_fits (form_or_own o (term h ts)) && cond (is_linear o) (all_narrow ts) true) e;
  }

  -- the form of a linear head over two terms, or none where it does not fit
  module _ (x y : Term) (f g : IdForm) (left : IsFormOf a x f) (right : IsFormOf a y g) where
    product_narrow : (o p : Option ℤ) → constant_value x ≡ o → constant_value y ≡ p → (is_some o || is_some p) ≡ true → (s : IdForm) → IsIdForm s → IsCombined Mul (is_some o) f g (Some s) → IsFormOf a (term Mul (pair x y)) s
    product_narrow (Some z) p e k some s fit made = first_narrow a ok x y f g left right z e s fit made
    product_narrow None (Some z) e k some s fit made = second_narrow a ok x y f g left right z e k s fit made
    product_narrow None None e k some s fit made = absurd (false≢true some)

    combined_narrow : (h : Head) → is_sum_head h ≡ true → is_linear_over h (is_some (constant_value x)) (is_some (constant_value y)) ≡ true → (s : IdForm) → IsIdForm s
        → IsCombined h (is_some (constant_value x)) f g (Some s) → IsFormOf a (term h (pair x y)) s
    combined_narrow Add e k s fit made = add_narrow a ok x y f g left right s fit made
    combined_narrow Sub e k s fit made = sub_narrow a ok x y f g left right s fit made
    combined_narrow Mul e k s fit made = product_narrow (constant_value x) (constant_value y) refl refl k s fit made
    combined_narrow h e k s fit made = absurd (false≢true e)

    module _ (t : TermId) (t_in : t.0 < length a.nodes) where
      product_wide : tree a t ≡ term Mul (pair x y) → (o p : Option ℤ) → constant_value x ≡ o → constant_value y ≡ p → (is_some o || is_some p) ≡ true → IsCombined Mul (is_some o) f g None → IsWideIn a (term Mul (pair x y)) t
      product_wide at (Some z) p e k some made = first_wide a ok x y f g left right z e t t_in at made
      product_wide at None (Some z) e k some made = second_wide a ok x y f g left right z e k t t_in at made
      product_wide at None None e k some made = absurd (false≢true some)

      combined_wide : (h : Head) → tree a t ≡ term h (pair x y) → is_sum_head h ≡ true → is_linear_over h (is_some (constant_value x)) (is_some (constant_value y)) ≡ true
          → IsCombined h (is_some (constant_value x)) f g None → IsWideIn a (term h (pair x y)) t
      combined_wide Add at e k made = add_wide a ok x y f g left right t t_in at made
      combined_wide Sub at e k made = sub_wide a ok x y f g left right t t_in at made
      combined_wide Mul at e k made = product_wide at (constant_value x) (constant_value y) refl refl k made
      combined_wide h at e k made = absurd (false≢true e)

-- ---- the form of a head over two terms, by what is found of them

module _ (h : Head) (t : TermId) (left right : Found) (sum : is_sum_head h ≡ true) where
  module _ (a : Arena) (x y : Term) (found_left : IsFound a x left) (found_right : IsFound a y right) where
    linear_as : (b : Bool) → is_linear_over h left.is_constant right.is_constant ≡ b → is_linear_over h (is_some (constant_value x)) (is_some (constant_value y)) ≡ b
    linear_as b e = ap₂ (is_linear_over h) (sym found_left.constant) (sym found_right.constant) ∙ e

  pub pair_own : (formed : Formed) → is_linear_over h left.is_constant right.is_constant ≡ false → IsOwn t formed → IsPairForm h t left right formed
  pair_own formed e own = record {
    in_arena = λ a ok t_in x y at found_left found_right.
        subst (λ (k : Formed). IsFormed a (tree a t) k) (sym own)
        (subst (λ (z : Term). IsFormOf a z (record { parts = (t, pos 1) ∷ []; constant = pos 0 })) (sym at)
        (own_form a ok h (pair x y) t (own_pair h x y sum (linear_as a x y found_left found_right false e)) t_in at));
  }

  module _ (linear : is_linear_over h left.is_constant right.is_constant ≡ true) where
    pub pair_wide_left : (u : TermId) → left.form ≡ Wide u → IsPairForm h t left right (Wide u)
    pair_wide_left u e = record {
      in_arena = λ a ok t_in x y at found_left found_right.
          subst (λ (z : Term). IsWideIn a z u) (sym at)
          (wide_left a ok h x y u (linear_pair h x y sum (linear_as a x y found_left found_right true linear)) (subst (λ (k : Formed). IsFormed a x k) e found_left.form));
    }

    pub pair_wide_right : (u : TermId) → right.form ≡ Wide u → IsPairForm h t left right (Wide u)
    pair_wide_right u e = record {
      in_arena = λ a ok t_in x y at found_left found_right.
          subst (λ (z : Term). IsWideIn a z u) (sym at)
          (wide_right a ok h x y u (linear_pair h x y sum (linear_as a x y found_left found_right true linear)) (subst (λ (k : Formed). IsFormed a y k) e found_right.form));
    }

    module _ (f g : IdForm) (left_is : left.form ≡ Narrow f) (right_is : right.form ≡ Narrow g) where
      pub pair_narrow : (s : IdForm) → IsIdForm s → IsCombined h left.is_constant f g (Some s) → IsPairForm h t left right (Narrow s)
      pair_narrow s fit made = record {
        in_arena = λ a ok t_in x y at found_left found_right.
            subst (λ (z : Term). IsFormOf a z s) (sym at)
            (combined_narrow a ok x y f g (subst (λ (k : Formed). IsFormed a x k) left_is found_left.form) (subst (λ (k : Formed). IsFormed a y k) right_is found_right.form)
            h sum (linear_as a x y found_left found_right true linear) s fit (subst (λ (b : Bool). IsCombined h b f g (Some s)) found_left.constant made));
      }

      pub pair_wide : IsCombined h left.is_constant f g None → IsPairForm h t left right (Wide t)
      pair_wide made = record {
        in_arena = λ a ok t_in x y at found_left found_right.
            subst (λ (z : Term). IsWideIn a z t) (sym at)
            (combined_wide a ok x y f g (subst (λ (k : Formed). IsFormed a x k) left_is found_left.form) (subst (λ (k : Formed). IsFormed a y k) right_is found_right.form)
            t t_in h at sum (linear_as a x y found_left found_right true linear) (subst (λ (b : Bool). IsCombined h b f g None) found_left.constant made));
      }

  pub pair_is_found : (found : Found) → found.is_constant ≡ (left.is_constant && right.is_constant) → IsPairForm h t left right found.form → IsPairFound h t left right found
  pair_is_found found e k = record {
    in_arena = λ a ok t_in x y at found_left found_right. record {
      constant = e ∙ (ap₂ ◌&&◌ found_left.constant found_right.constant ∙ (sym (constant_pair h x y sum) ∙ ap (λ z. is_some (constant_value z)) (sym at)));
      form = k.in_arena a ok t_in x y at found_left found_right;
    };
  }
