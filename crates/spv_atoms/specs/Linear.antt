-- Linear forms over the ids of an arena, and what it is that such a form says of a term.
use Rattle.std.specs.Prelude.{◌≡◌, ◌≢◌, ℕ, suc, ◌<◌, ◌≤◌, Bool, true, false, ◌||◌, List, [], ◌∷◌, map, length, ℤ, pos, nat_eq, IsTrue, if◌then◌else◌}
use Rattle.spv_logic.specs.declared.conditions.TermId.{TermId}
use Rattle.spv_logic.specs.Terms.{Term, Terms, term, no_terms, terms, term_eq}
use Rattle.spv_term.specs.Arena.{Arena, tree}
use Rattle.spv_frac.specs.Range.{fits}
use Rattle.spv_atoms.specs.Forms.{Form, is_linear, linear_form, constant_values, form, forms, form_fits, is_narrow}

-- ---- forms as functions of terms

-- what a term is multiplied by in a sum of parts: 0 where it is none of them
abbrev pub coefficient : List (Term × ℤ) → Term → ℤ
coefficient [] x = pos 0
coefficient (p ∷ parts) x = if term_eq p.0 x then p.1 else coefficient parts x

-- two forms multiply each term by the same number, and have one constant
pub record IsSameForm (f g : Form) : Type 0 where
  pub parts : (x : Term) → coefficient f.parts x ≡ coefficient g.parts x
  pub constant : f.constant ≡ g.constant

-- ---- linear positions

abbrev mutual
  -- whether a term stands in a linear position of another: it is the other, or stands in such a position of a side of the other,
  -- where that is a sum, a difference or a product with a constant side
  pub stands_in : Term → Term → Bool
  stands_in u (term h ts) =
      term_eq u (term h ts) || (if is_linear (linear_form h (constant_values ts) (forms ts)) then stands_in_any u ts else false)

  pub stands_in_any : Term → Terms → Bool
  stands_in_any u no_terms = false
  stands_in_any u (terms t ts) = stands_in u t || stands_in_any u ts

-- ---- forms over ids

-- a form whose parts are named by their ids
pub record IdForm : Type 0 where
  pub parts : List (TermId × ℤ)
  pub constant : ℤ

-- what an id is multiplied by: 0 where it is not listed
abbrev pub coefficient_at : List (TermId × ℤ) → TermId → ℤ
coefficient_at [] t = pos 0
coefficient_at (p ∷ parts) t = if nat_eq p.0.0 t.0 then p.1 else coefficient_at parts t

-- a part whose id is from a number up, which is not zero and fits
pub record IsPart (low : ℕ) (p : TermId × ℤ) : Type 0 where
  pub order : low ≤ p.0.0
  pub nonzero : p.1 ≢ pos 0
  pub fits : IsTrue (fits p.1)

-- parts whose ids ascend from a number up, of which none is zero, and which fit
abbrev pub ArePartsFrom : ℕ → List (TermId × ℤ) → Type 0
ArePartsFrom low [] = Unit {0}
ArePartsFrom low (p ∷ parts) = IsPart low p × ArePartsFrom (suc p.0.0) parts

-- what each `Linear` keeps: its ids ascend, no coefficient is zero, and all its numbers fit
pub record IsIdForm (f : IdForm) : Type 0 where
  pub parts : ArePartsFrom 0 f.parts
  pub constant : IsTrue (fits f.constant)

-- each part's id is in the arena
abbrev pub PartsIn : Arena → List (TermId × ℤ) → Type 0
PartsIn a [] = Unit {0}
PartsIn a (p ∷ parts) = (p.0.0 < length a.nodes) × PartsIn a parts

-- the parts with the terms that their ids stand for
abbrev pub over_trees : Arena → List (TermId × ℤ) → List (Term × ℤ)
over_trees a parts = map (λ p. (tree a p.0, p.1)) parts

abbrev pub form_over : Arena → IdForm → Form
form_over a f = record { parts = over_trees a f.parts; constant = f.constant }

-- ---- what is found of a term

-- a form over ids is that of a term, and each form in a linear position of that term fits
pub record IsFormOf (a : Arena) (x : Term) (f : IdForm) : Type 0 where
  pub in_range : PartsIn a f.parts
  pub same : IsSameForm (form_over a f) (form x)
  pub narrow : is_narrow x ≡ true

-- a term in a linear position of another, whose form does not fit
pub record IsWideIn (a : Arena) (x : Term) (u : TermId) : Type 0 where
  pub in_range : u.0 < length a.nodes
  pub inside : stands_in (tree a u) x ≡ true
  pub wide : form_fits (form (tree a u)) ≡ false
