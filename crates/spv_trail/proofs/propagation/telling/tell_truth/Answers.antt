use Rattle.spv_derivations.proofs.derivation.Bridges.{on_ok}
use Rattle.spv_trail.proofs.propagation.RowConstraint.{may_tell, goes_by, value_told}
use Rattle.spv_trail.proofs.propagation.Learned.{fits_part}
use Rattle.std.proofs.Common.{subst, sym}
use Rattle.spv_derivations.specs.declared.derivation.entries.Part.{Part}
use Rattle.spv_derivations.specs.derivation.Derivation.{PartFits}
use Rattle.spv_trail.proofs.propagation.telling.tell_truth.Goals as goal

pub tell_literal-requires-clause-may : goal.tell_literal-requires-clause-may
tell_literal-requires-clause-may c =
    may_tell c.args.terms.now c.args.condition.now c.args.both.now c.args.t c.part_of.result c.requires.t (subst (λ (p : Part). PartFits c.args.terms.now c.args.t p) (sym c.part_of.ensures) (fits_part c.args.terms.now c.args.t c.args.truth))

pub returns-clause-goes : goal.returns-clause-goes
returns-clause-goes c = on_ok c.tell_literal.result c.tell_literal.ensures.tells (λ l. goes_by c.args.terms.now c.args.both.now c.tell_literal.new.both _ l)

pub returns-clause-tells : goal.returns-clause-tells
returns-clause-tells c =
    on_ok c.tell_literal.result c.tell_literal.ensures.tells
    (λ l cases telling. value_told c.args.terms.now c.args.condition.now c.args.both.now.trail.falsity cases c.args.derivation.now c.value_fact.new.derivation c.args.known.now c.args.both.now c.tell_literal.new.both c.args.t c.args.truth c.in_ok-number.number c.part_of.result
    c.requires.known c.requires.both.sound.trail.falsity c.requires.t c.requires.value
    (λ may. c.in_ok-number.ensures cases may c.requires.t.formula.truth) c.part_of.ensures l telling)
