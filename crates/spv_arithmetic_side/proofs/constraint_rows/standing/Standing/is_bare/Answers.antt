use Rattle.std.proofs.Common.{refl}
use Rattle.std.proofs.lemmas.Bool.{false≢true}
use Rattle.spv_tableau_rules.specs.declared.tableaux.side.Side.TheVariants.{Lower, Upper}
use Rattle.spv_arithmetic_side.proofs.constraint_rows.Opposing.{bare_side, bare_sides}
use Rattle.spv_arithmetic_side.proofs.constraint_rows.standing.Standing.is_bare.Goals as goal

pub returns-then-is_free-clause-bare : goal.returns-then-is_free-clause-bare
returns-then-is_free-clause-bare c = λ upper. bare_sides c.args.self.now c.args.row _ _ c.if-is_free.ensures refl c.is_free-then-is_free.ensures upper

pub returns-then-is_free-clause-other : goal.returns-then-is_free-clause-other
returns-then-is_free-clause-other c = λ bare. bare_side c.args.self.now c.args.row Upper _ c.is_free-then-is_free.ensures bare

pub returns-else-is_free-clause-other : goal.returns-else-is_free-clause-other
returns-else-is_free-clause-other c = λ bare. absurd (false≢true (bare_side c.args.self.now c.args.row Lower _ c.if-is_free.ensures bare))
