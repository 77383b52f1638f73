use Rattle.std.proofs.Common.{◌-◌, ◌∙◌, sym}
use Rattle.spv_proof_steps.proofs.StepLemmas.{numbered-at, AllBelow-at, copied-get}
use Rattle.spv_proof_steps.proofs.steps.fact.Goals as goal

pub returns : goal.returns
returns c =
    let found = copied-get c.args.facts.now (c.args.number - 1) c.get.result c.get.ensures.lookup.1 c.get.ensures.lookup.3 ∙ sym c.copied.ensures in
    record {
      value = λ at. numbered-at at c.args.facts.now c.args.number c.copied.result c.if-number-eq0.false found;
      in_range = λ count below t is. AllBelow-at count c.args.facts.now (c.args.number - 1) t below (found ∙ is);
    }
