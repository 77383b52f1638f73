use Rattle.std.proofs.Common.{◌≡◌, map, take}
use Rattle.spv_tableau_rules.specs.constraints.Sources.{fact_multiples}
use Rattle.spv_arithmetic_side.specs.bounds.Multiples.{multiple_in}
use Rattle.spv_arithmetic_side.specs.bounds.Sources.{sources_in}
use Rattle.spv_arithmetic_side.proofs.bounds.multiples.fact_multiples.Given as goal

abbrev pub invariant-loop-multiple : goal.invariant-loop-multiple
invariant-loop-multiple l = l.list ≡ fact_multiples (sources_in l.sources) (map multiple_in (take l.multiple-index l.combination))
