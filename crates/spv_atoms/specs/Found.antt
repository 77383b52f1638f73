-- What is found of the terms of an arena one after the other: whether each is constant, and its form.
use Rattle.std.specs.Prelude.{◌≡◌, ℕ, ◌<◌, Bool, true, false, ◌||◌, List, [], ◌∷◌, length, take, pos, Option, Some, is_some, slice_get}
use Rattle.std.specs.List.{list_any}
use Rattle.spv_logic.specs.declared.conditions.TermId.{TermId}
use Rattle.spv_logic.specs.declared.operators.Head.{Head}
use Rattle.spv_logic.specs.declared.operators.Head.TheVariants.{Add, Sub, Mul}
use Rattle.spv_logic.specs.Terms.{Term, term, no_terms, terms}
use Rattle.spv_term.specs.declared.nodes.Node.{Node}
use Rattle.spv_term.specs.Arena.{Arena, IsArena, tree}
use Rattle.spv_atoms.specs.Forms.{constant_value, is_narrow}
use Rattle.spv_atoms.specs.Order.{same_id, is_sum}
use Rattle.spv_atoms.specs.Linear.{IdForm, IsFormOf, IsWideIn}
use Rattle.spv_atoms.specs.Sums.{IsSum, IsDifference, IsMultiple}
use Rattle.spv_atoms.specs.declared.forms.Formed.{Formed}
use Rattle.spv_atoms.specs.declared.forms.Formed.TheVariants.{Narrow, Wide}
use Rattle.spv_atoms.specs.declared.forms.Found.{Found}
use Rattle.spv_atoms.specs.declared.forms.AtomFault.{AtomFault}
use Rattle.spv_atoms.specs.declared.forms.AtomFault.TheVariants.{WideForm, Memory}

-- whether a head over two terms, which are constant or not, is linear
abbrev pub is_linear_over : Head → Bool → Bool → Bool
is_linear_over Add a b = true
is_linear_over Sub a b = true
is_linear_over Mul a b = a || b
is_linear_over _ a b = false

-- the form of a linear head over two terms with these forms, or none where it does not fit
abbrev pub IsCombined : Head → Bool → IdForm → IdForm → Option IdForm → Type 0
IsCombined Add constant f g s = IsSum f g s
IsCombined Sub constant f g s = IsDifference f g s
IsCombined _ true f g s = IsMultiple f.constant g s
IsCombined _ false f g s = IsMultiple g.constant f s

-- a term alone
abbrev pub IsOwn : TermId → Formed → Type 0
IsOwn t formed = formed ≡ Narrow (record { parts = (t, pos 1) ∷ []; constant = pos 0 })

pub record IsAlone (t : TermId) (found : Found) : Type 0 where
  pub constant : found.is_constant ≡ false
  pub form : IsOwn t found.form

-- what is kept is the form of a term, or a term in a linear position of it whose form does not fit
abbrev pub IsFormed : Arena → Term → Formed → Type 0
IsFormed a x (Narrow f) = IsFormOf a x f
IsFormed a x (Wide u) = IsWideIn a x u

pub record IsFound (a : Arena) (x : Term) (found : Found) : Type 0 where
  pub constant : found.is_constant ≡ is_some (constant_value x)
  pub form : IsFormed a x found.form

-- what is found of a head over two terms, from what is found of these, wherever they stand
pub record IsPairForm (h : Head) (t : TermId) (left right : Found) (formed : Formed) : Type 0 where
  pub in_arena : (a : Arena) → IsArena a → t.0 < length a.nodes → (x y : Term) → tree a t ≡ term h (terms x (terms y no_terms)) → IsFound a x left → IsFound a y right
      → IsFormed a (tree a t) formed

pub record IsPairFound (h : Head) (t : TermId) (left right found : Found) : Type 0 where
  pub in_arena : (a : Arena) → IsArena a → t.0 < length a.nodes → (x y : Term) → tree a t ≡ term h (terms x (terms y no_terms)) → IsFound a x left → IsFound a y right
      → IsFound a (tree a t) found

-- why a term has no form here
abbrev pub IsFaultOf : Arena → Term → AtomFault → Type 0
IsFaultOf a x (WideForm u) = IsWideIn a x u
IsFaultOf a x Memory = Unit {0}

-- a fault but for want of memory comes only where not all forms in linear positions fit
abbrev pub ComesWhereWide : Term → AtomFault → Type 0
ComesWhereWide x (WideForm u) = is_narrow x ≡ false
ComesWhereWide x Memory = Unit {0}

-- each of the first ids has what is found of its term at its place
pub record AreFound (a : Arena) (ids : List TermId) (known : List Found) : Type 0 where
  pub each : (i : ℕ) (t : TermId) (found : Found) → slice_get ids i ≡ Some t → slice_get known i ≡ Some found → IsFound a (tree a t) found

-- a term is among the first ids
abbrev pub IsReady : List TermId → ℕ → TermId → Type 0
IsReady ids count t = list_any (same_id t) (take count ids) ≡ true

abbrev pub AreReady : List TermId → ℕ → List TermId → Type 0
AreReady ids count [] = Unit {0}
AreReady ids count (t ∷ ts) = IsReady ids count t × AreReady ids count ts

-- what is found of a term stands at its place
pub record IsBeside (ids : List TermId) (known : List Found) (t : TermId) (found : Found) : Type 0 where
  pub place : ℕ
  pub id_there : slice_get ids place ≡ Some t
  pub found_there : slice_get known place ≡ Some found

-- the arguments of a term, where it is a sum, a difference or a product, are among the first ids
pub record HasReadyArguments (a : Arena) (ids : List TermId) (count : ℕ) (t : TermId) : Type 0 where
  pub ready : (n : Node) → slice_get a.nodes t.0 ≡ Some n → is_sum (tree a t) ≡ true → AreReady ids count n.args

-- before each id its arguments stand
pub record AreBehindArguments (a : Arena) (ids : List TermId) : Type 0 where
  pub before : (i : ℕ) (t : TermId) → slice_get ids i ≡ Some t → HasReadyArguments a ids i t
