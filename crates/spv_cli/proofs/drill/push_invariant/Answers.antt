use Rattle.std.proofs.Common.{codes}
use Rattle.std.specs.Prelude.{decimal}
use Rattle.spv_cli.proofs.Pieces.{five}
use Rattle.spv_cli.proofs.drill.push_invariant.Goals as goal

pub returns : goal.returns
returns c =
    five c.args.out.now.items (codes "INVARIANT (R = ") (decimal c.args.p.factor) (codes " * I + ") (decimal c.args.p.summand) (codes ") AND (0 <= I) AND (I <= N)\n")
    c.in_ok-extend_from_slice.ensures.items c.in_ok-push_number.ensures c.in_ok-extend_from_slice-2.ensures.items c.in_ok-push_number-2.ensures c.in_ok-extend_from_slice-3.ensures.items
