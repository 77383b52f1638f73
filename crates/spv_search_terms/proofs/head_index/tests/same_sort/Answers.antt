use Rattle.std.proofs.Common.{◌∙◌}
use Rattle.spv_search_terms.proofs.head_index.TestLemmas.{sort_test}
use Rattle.spv_search_terms.proofs.head_index.tests.same_sort.Goals as goal

pub returns : goal.returns
returns c = c.eq.ensures ∙ sort_test c.args.left c.args.right
