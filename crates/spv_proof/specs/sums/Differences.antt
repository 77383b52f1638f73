-- The difference of two terms as a form over ids.
use Rattle.std.specs.Prelude.{◌≡◌, Bool, true, false, List, map, ℤ, pos, negsuc, ◌+ℤ◌, ◌*ℤ◌, Option, Some, None}
use Rattle.spv_logic.specs.declared.conditions.TermId.{TermId}
use Rattle.spv_logic.specs.Terms.{Term}
use Rattle.spv_term.specs.Arena.{Arena}
use Rattle.spv_frac.specs.Range.{fits}
use Rattle.spv_atoms.specs.Forms.{Form, is_narrow}
use Rattle.spv_atoms.specs.Linear.{IdForm, coefficient_at, PartsIn, IsSameForm, form_over, IsFormOf}
use Rattle.spv_proof_rules.specs.Sums.{difference}
use Rattle.spv_proof_rules.specs.Stops.{is_measured}

-- 1 or 0: what is added to a difference, or nothing
abbrev pub more : Bool → ℤ
more true = pos 1
more false = pos 0

-- a number where it fits, or none where it does not
abbrev pub IsConstant : ℤ → Option ℤ → Type 0
IsConstant z None = fits z ≡ false
IsConstant z (Some n) = (n ≡ z) × (fits z ≡ true)

-- ---- parts

-- the parts with their numbers negated
abbrev pub negated_parts : List (TermId × ℤ) → List (TermId × ℤ)
negated_parts parts = map (λ p. (p.0, negsuc 0 *ℤ p.1)) parts

-- ---- forms over ids

-- a form that gives each id the difference of what two others give it, and whose constant is that difference, or 1 above it
pub record IsDifferenceWith (b : Bool) (f g d : IdForm) : Type 0 where
  pub parts : (t : TermId) → coefficient_at d.parts t ≡ coefficient_at f.parts t +ℤ negsuc 0 *ℤ coefficient_at g.parts t
  pub constant : d.constant ≡ f.constant +ℤ negsuc 0 *ℤ g.constant +ℤ more b

-- not all of these numbers fit
pub record IsWideWith (b : Bool) (f g : IdForm) : Type 0 where
  pub not_all : ((t : TermId) → fits (coefficient_at f.parts t +ℤ negsuc 0 *ℤ coefficient_at g.parts t) ≡ true)
      → fits (f.constant +ℤ negsuc 0 *ℤ g.constant +ℤ more b) ≡ true → ⊥

-- the difference of two forms, or none where one of its numbers does not fit
abbrev pub IsDifferenceForm : Bool → IdForm → IdForm → Option IdForm → Type 0
IsDifferenceForm b f g None = IsWideWith b f g
IsDifferenceForm b f g (Some d) = IsDifferenceWith b f g d

-- ---- forms of terms

-- the form of a term, or none where one of its forms does not fit
abbrev pub IsNarrowForm : Arena → Term → Option IdForm → Type 0
IsNarrowForm a x None = is_narrow x ≡ false
IsNarrowForm a x (Some f) = IsFormOf a x f

-- a form over ids gives each term the same number as a form over terms
pub record IsOver (a : Arena) (i : IdForm) (f : Form) : Type 0 where
  pub in_range : PartsIn a i.parts
  pub same : IsSameForm (form_over a i) f

pub record IsMeasureOf (a : Arena) (x y : Term) (b : Bool) (i : IdForm) : Type 0 where
  pub fits : is_measured x y (more b) ≡ true
  pub over : IsOver a i (difference x y (more b))

-- the form of a difference of terms, or of one more, where it fits and so do those of both
abbrev pub IsMeasure : Arena → Term → Term → Bool → Option IdForm → Type 0
IsMeasure a x y b None = is_measured x y (more b) ≡ false
IsMeasure a x y b (Some i) = IsMeasureOf a x y b i
