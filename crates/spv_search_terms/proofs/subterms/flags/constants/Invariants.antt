use Rattle.std.proofs.Common.{◌≡◌, map, take}
use Rattle.spv_term.specs.Arena.{tree}
use Rattle.spv_search_terms.specs.subterms.Flags.{is_constant}
use Rattle.spv_search_terms.proofs.subterms.flags.constants.Given as goal

abbrev pub invariant-loop-t : goal.invariant-loop-t
invariant-loop-t l = l.flags.items ≡ map (λ t. is_constant (tree l.terms t)) (take l.t-index l.order)
