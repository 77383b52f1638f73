use Rattle.std.proofs.Common.{◌∙◌}
use Rattle.spv_rules.proofs.SortTests.{sort_test}
use Rattle.spv_rules.proofs.sorts.same_sort.Goals as goal

pub returns : goal.returns
returns c = c.eq.ensures ∙ sort_test c.args.left c.args.right
