use Rattle.spv_search.proofs.Consulted.{may_if}
use Rattle.spv_search.proofs.consulting.mend_apart.Goals as goal

pub split_on-requires : goal.split_on-requires
split_on-requires c =
    may_if c.args.terms.now c.args.atoms.now c.args.path.now c.as_slice-values.result.now c.as_slice-known.result.now c.apart_by-found.result c.as_slice-values.ensures.value c.as_slice-known.ensures.value c.apart_by-found.ensures
