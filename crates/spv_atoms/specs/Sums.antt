-- Sums and multiples of forms over ids.
use Rattle.std.specs.Prelude.{◌≡◌, true, List, [], ◌∷◌, ◌++◌, ℤ, pos, negsuc, ◌+ℤ◌, ◌*ℤ◌, nat_eq, nat_lt, Option, Some, None, if◌then◌else◌}
use Rattle.std.specs.Ordering.{int_eq}
use Rattle.spv_logic.specs.declared.conditions.TermId.{TermId}
use Rattle.spv_frac.specs.Range.{fits}
use Rattle.spv_atoms.specs.Linear.{IdForm, coefficient_at, ArePartsFrom}

-- ---- parts one after the other

-- the number of an id, where it is the first
abbrev pub number_in_front : List (TermId × ℤ) → TermId → ℤ
number_in_front [] t = pos 0
number_in_front (p ∷ parts) t = if nat_eq p.0.0 t.0 then p.1 else pos 0

-- the parts behind an id, where it is the first
abbrev pub behind : List (TermId × ℤ) → TermId → List (TermId × ℤ)
behind [] t = []
behind (p ∷ parts) t = if nat_eq p.0.0 t.0 then parts else p ∷ parts

abbrev pub first_id : List (TermId × ℤ) → Option TermId
first_id [] = None
first_id (p ∷ parts) = Some p.0

-- the lesser of an id and the first one
abbrev pub lesser_id : TermId → List (TermId × ℤ) → TermId
lesser_id t [] = t
lesser_id t (p ∷ parts) = if nat_lt p.0.0 t.0 then p.0 else t

-- the lesser of the first ids of both
abbrev pub least_id : List (TermId × ℤ) → List (TermId × ℤ) → Option TermId
least_id [] right = first_id right
least_id (p ∷ left) right = Some (lesser_id p.0 right)

-- the parts with one at the end, unless it is zero
abbrev pub with_number : List (TermId × ℤ) → TermId → ℤ → List (TermId × ℤ)
with_number parts t n = if int_eq n (pos 0) then parts else parts ++ (t, n) ∷ []

-- ---- forms

-- a form that gives each id the sum of what two others give it, or none where one of these sums does not fit
pub record IsSumOf (f g s : IdForm) : Type 0 where
  pub parts : (t : TermId) → coefficient_at s.parts t ≡ coefficient_at f.parts t +ℤ coefficient_at g.parts t
  pub constant : s.constant ≡ f.constant +ℤ g.constant

pub record IsWideSum (f g : IdForm) : Type 0 where
  pub not_all : ((t : TermId) → fits (coefficient_at f.parts t +ℤ coefficient_at g.parts t) ≡ true) → fits (f.constant +ℤ g.constant) ≡ true → ⊥

abbrev pub IsSum : IdForm → IdForm → Option IdForm → Type 0
IsSum f g None = IsWideSum f g
IsSum f g (Some s) = IsSumOf f g s

-- a form that gives each id a multiple of what another gives it, or none where one of these does not fit
pub record IsMultipleOf (z : ℤ) (f s : IdForm) : Type 0 where
  pub parts : (t : TermId) → coefficient_at s.parts t ≡ z *ℤ coefficient_at f.parts t
  pub constant : s.constant ≡ z *ℤ f.constant

pub record IsWideMultiple (z : ℤ) (f : IdForm) : Type 0 where
  pub not_all : ((t : TermId) → fits (z *ℤ coefficient_at f.parts t) ≡ true) → fits (z *ℤ f.constant) ≡ true → ⊥

abbrev pub IsMultiple : ℤ → IdForm → Option IdForm → Type 0
IsMultiple z f None = IsWideMultiple z f
IsMultiple z f (Some s) = IsMultipleOf z f s

-- a form that gives each id the difference of what two others give it, or none where one of these does not fit
pub record IsDifferenceOf (f g s : IdForm) : Type 0 where
  pub parts : (t : TermId) → coefficient_at s.parts t ≡ coefficient_at f.parts t +ℤ negsuc 0 *ℤ coefficient_at g.parts t
  pub constant : s.constant ≡ f.constant +ℤ negsuc 0 *ℤ g.constant

pub record IsWideDifference (f g : IdForm) : Type 0 where
  pub not_all : ((t : TermId) → fits (coefficient_at f.parts t +ℤ negsuc 0 *ℤ coefficient_at g.parts t) ≡ true) → fits (f.constant +ℤ negsuc 0 *ℤ g.constant) ≡ true → ⊥

abbrev pub IsDifference : IdForm → IdForm → Option IdForm → Type 0
IsDifference f g None = IsWideDifference f g
IsDifference f g (Some s) = IsDifferenceOf f g s

-- ---- the same for parts alone

pub record AreSummed (left right parts : List (TermId × ℤ)) : Type 0 where
  pub kept : ArePartsFrom 0 parts
  pub same : (t : TermId) → coefficient_at parts t ≡ coefficient_at left t +ℤ coefficient_at right t

pub record IsWideAt (number : TermId → ℤ) : Type 0 where
  pub not_all : ((t : TermId) → fits (number t) ≡ true) → ⊥

abbrev pub SummedParts : List (TermId × ℤ) → List (TermId × ℤ) → Option (List (TermId × ℤ)) → Type 0
SummedParts left right None = IsWideAt (λ t. coefficient_at left t +ℤ coefficient_at right t)
SummedParts left right (Some parts) = AreSummed left right parts

pub record AreScaled (z : ℤ) (from parts : List (TermId × ℤ)) : Type 0 where
  pub kept : ArePartsFrom 0 parts
  pub same : (t : TermId) → coefficient_at parts t ≡ z *ℤ coefficient_at from t

abbrev pub ScaledParts : ℤ → List (TermId × ℤ) → Option (List (TermId × ℤ)) → Type 0
ScaledParts z from None = IsWideAt (λ t. z *ℤ coefficient_at from t)
ScaledParts z from (Some parts) = AreScaled z from parts
