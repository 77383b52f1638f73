-- Terms that were evaluated at once.
use Rattle.spv_whole.specs.Fraction.{Fraction}
use Rattle.spv_logic.specs.Terms.{Term}
use Rattle.spv_term.specs.Arena.{Arena}
use Rattle.spv_table.specs.declared.evaluating.Evaluated.{Evaluated}
use Rattle.spv_table.specs.Kept.{AreKept}

-- what is kept of each term is its value where these are listed
pub record AreEvaluated (a : Arena) (listed : Term → Fraction) (e : Evaluated) : Type 0 where
  pub kept : AreKept a listed e.order e.kept.items
