use Rattle.std.proofs.Common.{codes}
use Rattle.std.specs.Prelude.{decimal}
use Rattle.spv_cli.proofs.Pieces.{three}
use Rattle.spv_cli.proofs.drill.push_loop.Goals as goal

pub returns : goal.returns
returns c =
    three c.args.out.now.items (codes "WHILE I < N DO BEGIN R := R + ") (decimal c.args.p.factor) (codes "; I := I + 1 END END;\n")
    c.in_ok-extend_from_slice.ensures.items c.in_ok-push_number.ensures c.in_ok-extend_from_slice-2.ensures.items
