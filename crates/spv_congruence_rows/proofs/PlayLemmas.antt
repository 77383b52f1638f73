-- How plays go on.
use Rattle.std.proofs.Common.{refl, ◌∙◌}
use Rattle.spv_term.specs.Arena.{Arena}
use Rattle.spv_congruence.specs.Graph.{Graph}
use Rattle.spv_congruence.specs.Told.{IsOf}
use Rattle.spv_congruence_rows.specs.Plays.{Continues}

pub continues_here : (a : Arena) (g : Graph) → IsOf a g → Continues a g g
continues_here a g of = record { of = of; told = refl; kept = λ t n is. is }

pub continues_on : (a : Arena) (f g h : Graph) → Continues a f g → Continues a g h → Continues a f h
continues_on a f g h c d = record { of = d.of; told = d.told ∙ c.told; kept = λ t n is. d.kept t n (c.kept t n is) }
