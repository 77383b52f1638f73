-- Conditions whose formulas are of sort Bool.
use Rattle.std.specs.Prelude.{List, [], ◌∷◌}
use Rattle.spv_logic.specs.declared.types.Sort.TheVariants as sort
use Rattle.spv_logic.specs.Terms.{Term}
use Rattle.spv_logic.specs.Conditions.{Condition}
use Rattle.spv_program.specs.Programs.{Program}
use Rattle.spv_program.specs.Laws.{HasSort}

-- a term over the types and symbols of a program is of sort Bool
abbrev pub IsTruth : Program → Term → Type 0
IsTruth p t = HasSort p t sort.Bool

abbrev pub AreTruths : Program → List Term → Type 0
AreTruths p [] = Unit {0}
AreTruths p (t ∷ ts) = IsTruth p t × AreTruths p ts

-- the hypotheses and the goal of a condition are
pub record IsSorted (p : Program) (c : Condition) : Type 0 where
  pub given : AreTruths p c.claim.given
  pub goal : IsTruth p c.claim.goal

abbrev pub AreSorted : Program → List Condition → Type 0
AreSorted p [] = Unit {0}
AreSorted p (c ∷ conditions) = IsSorted p c × AreSorted p conditions
