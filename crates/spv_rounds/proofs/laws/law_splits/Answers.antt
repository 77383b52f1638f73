use Rattle.std.proofs.Common.{◌^◌, ◌<◌, length, subst}
use Rattle.spv_rounds.specs.Claims.{formulas}
use Rattle.spv_rounds.proofs.FewSplits.{few-with, few-under}
use Rattle.spv_rounds.proofs.laws.law_splits.Goals as goal

pub returns-clause-with_facts : goal.returns-clause-with_facts
returns-clause-with_facts c a q limits tree kept = subst (λ ts. limits.splits < 3 ^ length ts) (c.law_atoms.ensures.atoms_with_facts q) (few-with q limits.splits tree kept)

pub returns-clause-under_rules : goal.returns-clause-under_rules
returns-clause-under_rules c a q limits instances tree reached =
    subst (λ ts. limits.splits < 3 ^ length ts) (c.law_atoms.ensures.atoms_under_rules q (formulas q instances)) (few-under q (formulas q instances) limits.splits tree reached.1)
