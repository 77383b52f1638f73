-- What is found without rules has no instances, and no rounds.
use Rattle.std.proofs.Common.{◌≡◌, Bool, List, [], sym, ap, subst}
use Rattle.spv_logic.specs.declared.conditions.TermId.{TermId}
use Rattle.spv_term.specs.declared.nodes.Condition.{Condition}
use Rattle.spv_term.specs.Arena.{Arena}
use Rattle.spv_table.specs.declared.table.Table.{Table}
use Rattle.spv_table.specs.Kept.{PairsIn}
use Rattle.spv_proof_rules.specs.Stand.{question}
use Rattle.spv_verdicts.specs.Verdicts.{Limits, IsReached, Survives}
use Rattle.spv_verdicts.specs.declared.answers.verdicts.Instance.{Instance}
use Rattle.spv_verdicts.specs.declared.answers.verdicts.Round.{Round}
use Rattle.spv_verdicts.specs.declared.answers.verdicts.Limit.{Limit}
use Rattle.spv_verdicts.specs.declared.answers.verdicts.Verdict.TheVariants as verdict
use Rattle.spv_verdicts.specs.answers.Views.{CasesIn, InstancesIn, LimitIn, RoundsIn, branch_in, instances_in, limit_in, pairs_in, rounds_in}
use Rattle.spv_search.specs.Finding.{IsFound}

pub given_up : (a : Arena) (c : Condition) (limits : Limits) (l : Limit) → LimitIn a l → IsReached a (question a c) limits (limit_in a l) → (rounds : List Round) → rounds ≡ [] → IsFound a c limits (verdict.GaveUp rounds l)
given_up a c limits l there reached rounds none = record {
  terms_in = (subst (RoundsIn a) (sym none) tt, there);
  right = record { reached = reached; no_rounds = ap (rounds_in a) none };
}

pub unproved : (a : Arena) (c : Condition) (limits : Limits) (branch : List (TermId × Bool)) (table : Table) → CasesIn a branch → PairsIn a table.values → Survives (question a c) (branch_in a branch) (pairs_in a table.values)
    → (instances : List Instance) → instances ≡ [] → IsFound a c limits (verdict.Unproved (record { branch = branch; table = table; instances = instances }))
unproved a c limits branch table cases pairs survives instances none = record {
  terms_in = (cases, pairs, subst (InstancesIn a) (sym none) tt);
  right = record { survives = survives; no_instances = ap (instances_in a) none };
}
