-- What comes next in a check, on the numbers.
use Rattle.std.specs.Prelude.{◌≡◌, true, length}
use Rattle.spv_tableau_rules.specs.tableaux.Rows.{Point}
use Rattle.spv_tableau_rules.specs.tableaux.Bounds.{Limits}
use Rattle.spv_tableau_rules.specs.tableaux.Steps.{none_to, may_leave, may_enter}
use Rattle.spv_dictionary.specs.Dictionary.{Dictionary, basic_at, entries, places}
use Rattle.spv_dictionary.specs.declared.pivoting.choosing.Chosen.{Chosen}
use Rattle.spv_dictionary.specs.declared.pivoting.entering.Entry.{Entry}
use Rattle.spv_dictionary.specs.declared.pivoting.finding.Found.{Found}
use Rattle.spv_dictionary.specs.declared.pivoting.finding.Found.TheVariants.{Met, Stuck, Step}
use Rattle.spv_dictionary.specs.pivoting.Choosing.{IsLeaving, IsEntering}

-- the least column that is out of its bounds, for which none may enter
pub record IsStuckOn (limits : Limits) (d : Dictionary) (v : Point) (chosen : Chosen) : Type 0 where
  pub leaves : IsLeaving limits d v chosen
  pub none : none_to (length d.spots) (may_enter limits (places d) v (entries d) (basic_at d chosen.row) chosen.side) ≡ true

-- the columns of the next step
pub record IsChosen (limits : Limits) (d : Dictionary) (v : Point) (chosen : Chosen) (entry : Entry) : Type 0 where
  pub leaves : IsLeaving limits d v chosen
  pub enters : IsEntering limits d v chosen.row chosen.side entry

abbrev pub IsFound : Limits → Dictionary → Point → Found → Type 0
IsFound limits d v Met = none_to (length d.spots) (may_leave limits (places d) v) ≡ true
IsFound limits d v (Stuck chosen) = IsStuckOn limits d v chosen
IsFound limits d v (Step chosen entry) = IsChosen limits d v chosen entry
