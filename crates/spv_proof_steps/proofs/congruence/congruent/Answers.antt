use Rattle.std.proofs.Common.{◌∙◌, sym}
use Rattle.spv_proof_steps.proofs.Congruences.{congruent_sorts}
use Rattle.spv_proof_steps.proofs.congruence.congruent.Goals as goal

pub returns-then-is_congruent-clause-may : goal.returns-then-is_congruent-clause-may
returns-then-is_congruent-clause-may c = (
  c.requires.t,
  c.requires.u,
  congruent_sorts c.args.terms.now c.law_arena.ensures c.args.facts.now c.requires.facts c.args.t c.args.u c.args.numbers.now c.requires.t c.requires.u (sym c.is_congruent.ensures ∙ c.if-is_congruent.true),
)
