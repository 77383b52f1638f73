-- Ways to trees of numbers and back, by which models of data types are told apart.
use Rattle.std.specs.Prelude.{ℕ, zero, suc, Bool, true, false, ◌≡◌, refl, List, [], ◌∷◌, Option, Some, None, ℤ, pos, negsuc}
use Rattle.std.specs.Coded.{Coded}
use mathlib.Core.Path.{ap, ◌∙◌, sym}
use base.Stored.{Gv, gnil, gnum, gcons, num}

-- a way to a tree of numbers and back
pub record Way (A : Type 0) : Type 0 where
  pub to : A → Gv
  pub back : Gv → A
  pub same : (x : A) → back (to x) ≡ x

pub one_to_one : {A : Type 0} (w : Way A) (x y : A) → w.to x ≡ w.to y → x ≡ y
one_to_one w x y e = sym (w.same x) ∙ ap w.back e ∙ w.same y

-- what may go there and come back is kept apart
abbrev pub coded_by : {A : Type 0} → Way A → Coded A
coded_by w = record { code = w.to; inj = one_to_one w }

abbrev pub head : Gv → Gv
head (gcons a b) = a
head _ = gnil

abbrev pub tail : Gv → Gv
tail (gcons a b) = b
tail _ = gnil

-- ---- numbers and truth values

abbrev pub way_ℕ : Way ℕ
way_ℕ = record { to = gnum; back = num; same = λ n. refl }

abbrev bool_to : Bool → Gv
bool_to false = gnum 0
bool_to true = gnum 1

abbrev bool_by : ℕ → Bool
bool_by zero = false
bool_by (suc n) = true

pub bool_same : (b : Bool) → bool_by (num (bool_to b)) ≡ b
bool_same true = refl
bool_same false = refl

abbrev pub way_bool : Way Bool
way_bool = record { to = bool_to; back = λ g. bool_by (num g); same = bool_same }

abbrev whole_to : ℤ → Gv
whole_to (pos n) = gcons (gnum 0) (gnum n)
whole_to (negsuc n) = gcons (gnum 1) (gnum n)

abbrev whole_back : Gv → ℤ
whole_back (gcons (gnum zero) n) = pos (num n)
whole_back (gcons (gnum (suc zero)) n) = negsuc (num n)
whole_back _ = pos 0

pub whole_same : (z : ℤ) → whole_back (whole_to z) ≡ z
whole_same (pos n) = refl
whole_same (negsuc n) = refl

abbrev pub way_ℤ : Way ℤ
way_ℤ = record { to = whole_to; back = whole_back; same = whole_same }

-- ---- options and lists

module _ {A : Type 0} (w : Way A) where
  abbrev option_to : Option A → Gv
  option_to None = gnil
  option_to (Some x) = gcons (w.to x) gnil

  abbrev option_back : Gv → Option A
  option_back (gcons x g) = Some (w.back x)
  option_back _ = None

  pub option_same : (o : Option A) → option_back (option_to o) ≡ o
  option_same None = refl
  option_same (Some x) = λ i. Some (w.same x i)

  abbrev pub way_option : Way (Option A)
  way_option = record { to = option_to; back = option_back; same = option_same }

  abbrev pub list_to : List A → Gv
  list_to [] = gnil
  list_to (x ∷ xs) = gcons (w.to x) (list_to xs)

  abbrev pub list_back : Gv → List A
  list_back (gcons x g) = w.back x ∷ list_back g
  list_back _ = []

  pub list_same : (xs : List A) → list_back (list_to xs) ≡ xs
  list_same [] = refl
  list_same (x ∷ xs) = λ i. w.same x i ∷ list_same xs i

  abbrev pub way_list : Way (List A)
  way_list = record { to = list_to; back = list_back; same = list_same }
