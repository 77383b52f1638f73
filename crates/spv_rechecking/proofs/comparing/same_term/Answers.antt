use Rattle.spv_rechecking.proofs.CompareLemmas.{ids_decide}
use Rattle.spv_rechecking.proofs.comparing.same_term.Goals as goal

pub returns : goal.returns
returns c = ids_decide c.args.terms.now c.law_arena.ensures c.args.left c.args.right c.requires.left c.requires.right
