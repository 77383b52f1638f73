use Rattle.std.proofs.Common.{rules, ◌<◌, length, subst, sym}
use Rattle.spv_atoms.specs.Linear.{ArePartsFrom}
use Rattle.spv_simplex.proofs.Fitting.{read_fits}
use Rattle.spv_simplex.proofs.forms.coefficient.Goals as goal

pub returns-then-eq-clause-fits : goal.returns-then-eq-clause-fits
returns-then-eq-clause-fits c =
    let below : c.loop-part.part-index < length c.parts-part-items.result.now = search rules in
    read_fits c.parts-part-items.result.now c.loop-part.part-index _ (subst (ArePartsFrom 0) (sym c.parts-part-items.ensures) c.law_linear.ensures.parts) below
