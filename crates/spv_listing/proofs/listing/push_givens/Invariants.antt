use Rattle.std.proofs.Common.{◌≡◌, ◌++◌, take, map}
use Rattle.std.specs.List.{flat_map}
use Rattle.spv_term.specs.Arena.{tree}
use Rattle.spv_listing.specs.Page.{given_line}
use Rattle.spv_listing.proofs.listing.push_givens.Given as goal

abbrev pub invariant-loop-t : goal.invariant-loop-t
invariant-loop-t l = l.out.items ≡ l.initial.out.items ++ flat_map (given_line l.named.names l.named.titles) (map (tree l.terms) (take l.t-index l.given))
