use Rattle.spv_derivations.proofs.derivation.Bridges.{if_ok}
use Rattle.spv_derivations.proofs.derivation.Literals.{literals_told}
use Rattle.spv_derivations.specs.declared.derivation.entries.Entry.TheVariants.{Told}
use Rattle.spv_explanations.proofs.congruence_side.LastEntries.{last_literal, last_sides, when_ok}
use Rattle.spv_explanations.proofs.congruence_side.entries.told_entry.Goals as goal

pub returns-clause-fact : goal.returns-clause-fact
returns-clause-fact c =
    if_ok c.last_number.result c.last_number.ensures (λ n at a. last_literal a c.args.derivation.now c.told.new.self c.args.t c.args.part c.args.why n c.in_ok-told.ensures.entry at)

pub returns-clause-sides : goal.returns-clause-sides
returns-clause-sides c =
    if_ok c.last_number.result c.last_number.ensures (λ n at a. last_sides a c.args.derivation.now c.told.new.self (Told c.args.t c.args.part c.args.why) n c.in_ok-told.ensures.entry at)

pub returns-clause-literals : goal.returns-clause-literals
returns-clause-literals c = when_ok c.last_number.result (literals_told c.args.derivation.now c.told.new.self c.args.t c.args.part c.args.why c.in_ok-told.ensures.entry)
