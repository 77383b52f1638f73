use Rattle.std.proofs.Common.{◌<◌, length, ap, subst}
use Rattle.std.specs.Prelude.{Err}
use Rattle.spv_term.specs.Arena.{sequent}
use Rattle.spv_search_terms.specs.condition_copy.Copies.{all_terms}
use Rattle.spv_trail.proofs.search_setup.starting.open.Goals as goal

pub copy_large-requires-clause-many : goal.copy_large-requires-clause-many
copy_large-requires-clause-many c =
    subst (λ n. n < length (all_terms (sequent c.args.terms.now c.args.condition.now))) c.terms.ensures (c.in-Err-Size.ensures.size (ap Err c.in-Err-Size.field-0-is))
