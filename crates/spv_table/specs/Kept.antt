-- What is kept of the terms of an arena one after the other: whether each is constant, and its value.
use Rattle.std.specs.Prelude.{◌≡◌, ℕ, ◌<◌, Bool, true, false, List, [], ◌∷◌, map, length, Some, is_some, slice_get, Ok, if◌then◌else◌}
use Rattle.spv_whole.specs.Fraction.{Fraction, whole}
use Rattle.spv_logic.specs.declared.conditions.TermId.{TermId}
use Rattle.spv_logic.specs.declared.operators.Head.{Head}
use Rattle.spv_logic.specs.declared.operators.Head.TheVariants.{Num, Not, True, False}
use Rattle.spv_logic.specs.Terms.{Term}
use Rattle.spv_term.specs.declared.nodes.Node.{Node}
use Rattle.spv_term.specs.Arena.{Arena, tree}
use Rattle.spv_atoms.specs.declared.walk.Through.TheVariants.{Meanings}
use Rattle.spv_atoms.specs.Forms.{constant_value}
use Rattle.spv_atoms.specs.Order.{enters_in}
use Rattle.spv_atoms.specs.Found.{AreReady}
use Rattle.spv_table.specs.declared.kept.Kept.{Kept}
use Rattle.spv_table.specs.Values.{Outcome, truth_value, negation, has_meaning_over, both, of_pair, value, listed_in}

-- the value of a head over two terms, whose application is listed with `own`
abbrev pub pair_over : Head → Kept → Kept → Fraction → Outcome
pair_over h a b own = if has_meaning_over h a.is_constant b.is_constant then both (of_pair h) a.value b.value else Ok own

-- the value of a head over one term
abbrev pub single_over : Head → Kept → Fraction → Outcome
single_over Not a own = negation a.value
single_over _ a own = Ok own

-- what a head that takes no values gives
abbrev pub alone_constant : Head → Bool
alone_constant (Num z) = true
alone_constant _ = false

abbrev pub alone_value : Head → Fraction → Outcome
alone_value (Num z) own = Ok (whole z)
alone_value True own = Ok (truth_value true)
alone_value False own = Ok (truth_value false)
alone_value _ own = Ok own

-- ---- what is listed

-- each is in the arena
abbrev pub PairsIn : Arena → List (TermId × Fraction) → Type 0
PairsIn a [] = Unit {0}
PairsIn a (p ∷ pairs) = (p.0.0 < length a.nodes) × PairsIn a pairs

-- the fraction of a term, where ids are listed with fractions
abbrev pub listed_over : Arena → List (TermId × Fraction) → Term → Fraction
listed_over a pairs t = listed_in (map (λ p. (tree a p.0, p.1)) pairs) t

-- ---- what is kept

pub record IsKept (listed : Term → Fraction) (x : Term) (kept : Kept) : Type 0 where
  pub constant : kept.is_constant ≡ is_some (constant_value x)
  pub value : kept.value ≡ value listed x

-- each of the first ids has what is kept of its term at its place
pub record AreKept (a : Arena) (listed : Term → Fraction) (ids : List TermId) (all : List Kept) : Type 0 where
  pub each : (i : ℕ) (t : TermId) (kept : Kept) → slice_get ids i ≡ Some t → slice_get all i ≡ Some kept → IsKept listed (tree a t) kept

-- what is kept of a term stands at its place
pub record IsBeside (ids : List TermId) (all : List Kept) (t : TermId) (kept : Kept) : Type 0 where
  pub place : ℕ
  pub id_there : slice_get ids place ≡ Some t
  pub kept_there : slice_get all place ≡ Some kept

-- the arguments of a term whose head has a meaning of its own are among the first ids
pub record HasReadyArguments (a : Arena) (ids : List TermId) (count : ℕ) (t : TermId) : Type 0 where
  pub ready : (n : Node) → slice_get a.nodes t.0 ≡ Some n → enters_in a Meanings (tree a t) ≡ true → AreReady ids count n.args

-- before each id its arguments stand
pub record AreBehindArguments (a : Arena) (ids : List TermId) : Type 0 where
  pub before : (i : ℕ) (t : TermId) → slice_get ids i ≡ Some t → HasReadyArguments a ids i t
