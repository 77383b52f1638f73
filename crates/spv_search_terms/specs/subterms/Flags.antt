-- What stands beside ids in order, and which terms are constant.
use Rattle.std.specs.Prelude.{ℕ, Bool, true, false, ◌&&◌, ◌||◌, List, [], ◌∷◌, Option, Some, None, is_some, unwrap_or, slice_get}
use Rattle.std.specs.List.{position}
use Rattle.spv_logic.specs.declared.conditions.TermId.{TermId}
use Rattle.spv_logic.specs.declared.operators.Head.{Head}
use Rattle.spv_logic.specs.declared.operators.Head.TheVariants.{Num, Add, Sub, Mul, True, False}
use Rattle.spv_logic.specs.Terms.{Term}
use Rattle.spv_atoms.specs.Forms.{constant_value}
use Rattle.spv_atoms.specs.Order.{same_id, has_meaning_head}

abbrev pub found_at : {A : Type 0} → A → List A → Option ℕ → A
found_at d xs None = d
found_at d xs (Some place) = unwrap_or (slice_get xs place) d

-- what stands beside an id, of ids and as many items or fewer; d where nothing does
abbrev pub beside : {A : Type 0} → A → List TermId → List A → TermId → A
beside d ids xs t = found_at d xs (position (same_id t) ids)

-- ---- constant terms

-- whether a term is constant: a numeral, or a sum, difference or product of constant terms
abbrev pub is_constant : Term → Bool
is_constant t = is_some (constant_value t)

abbrev pub both : List Bool → Bool
both (a ∷ b ∷ []) = a && b
both _ = false

abbrev pub one : List Bool → Bool
one (a ∷ b ∷ []) = a || b
one _ = false

-- whether a head over arguments is constant, where this says it of each of them
abbrev pub constant : Head → List Bool → Bool
constant (Num z) flags = true
constant Add flags = both flags
constant Sub flags = both flags
constant Mul flags = both flags
constant _ flags = false

-- whether a head has a meaning of its own over arguments, of which this says whether they are constant
abbrev pub means : Head → List Bool → Bool
means (Num z) flags = true
means True flags = true
means False flags = true
means Mul flags = one flags
means h flags = has_meaning_head h
