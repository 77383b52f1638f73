use Rattle.std.proofs.Common.{map, take}
use Rattle.spv_term.specs.Arena.{tree}
use Rattle.spv_arithmetic_side.specs.slack_rows.Adding.{HasRows}
use Rattle.spv_arithmetic_side.proofs.slack_rows.rows.relation_rows.Given as goal

abbrev pub invariant-loop-t : goal.invariant-loop-t
invariant-loop-t l = HasRows l.terms (map (tree l.terms) (take l.t-index l.atoms)) l.rows.forms.items l.rows.places.items
