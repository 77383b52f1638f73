use Rattle.std.proofs.Common.{◌≡◌, map, take}
use Rattle.spv_term.specs.Arena.{tree}
use Rattle.spv_models.specs.leaf_models.Subterms.{is_listed}
use Rattle.spv_search_terms.proofs.subterms.flags.listed.Given as goal

abbrev pub invariant-loop-t : goal.invariant-loop-t
invariant-loop-t l = l.flags.items ≡ map (λ t. is_listed (tree l.terms t)) (take l.t-index l.order)
