-- The rows of the relations among the terms so far.
use Rattle.std.specs.Prelude.{◌≡◌, ℕ, true, List, Option}
use Rattle.std.specs.List.{list_all}
use Rattle.spv_logic.specs.Terms.{Term}
use Rattle.spv_term.specs.Arena.{Arena}
use Rattle.spv_atoms.specs.Linear.{IdForm}
use Rattle.spv_proof.specs.sums.Readings.{number_in}
use Rattle.spv_tableau_rules.specs.constraints.Relations as relations
use Rattle.spv_tableau_rules.specs.constraints.Relations.{AreRowsOf, fits_each_way}
use Rattle.spv_arithmetic_side.specs.slack_rows.Rows.{HaveRoom}

pub record HasRows (a : Arena) (ts : List Term) (forms : List IdForm) (places : List (Option ℕ)) : Type 0 where
  pub rows : AreRowsOf a (relations.relations (number_in a) ts) forms
  pub placed : places ≡ relations.places (number_in a) ts
  pub room : HaveRoom forms
  pub fits : list_all fits_each_way (relations.relations (number_in a) ts) ≡ true
