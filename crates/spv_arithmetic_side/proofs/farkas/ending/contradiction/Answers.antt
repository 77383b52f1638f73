use Rattle.std.proofs.Common.{map}
use Rattle.spv_arithmetic_side.specs.bounds.Multiples.{multiple_in}
use Rattle.spv_arithmetic_side.specs.bounds.Sources.{sources_in}
use Rattle.spv_arithmetic_side.proofs.farkas.Refuting.{one_is_sum, gains_one, if_ok}
use Rattle.spv_arithmetic_side.proofs.farkas.ending.contradiction.Goals as goal

pub returns-clause-gains : goal.returns-clause-gains
returns-clause-gains c =
    if_ok c.linear.result c.linear.ensures.gains
    (λ n gains a ok derivation are refuted. gains_one a c.args.derivation.now c.linear.new.self n c.args.one c.args.zero are
    (gains a derivation
    (one_is_sum a ok c.args.derivation.now c.args.one c.args.zero are (sources_in c.args.sources.now) (map multiple_in c.args.combination.now) refuted c.in_ok-multiples.multiples c.new.result c.in_ok-multiples.ensures c.new.ensures)))
