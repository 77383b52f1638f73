use Rattle.std.proofs.Common.{◌++◌, ◌∙◌, ℕ, ap, codes}
use Rattle.std.specs.Prelude.{decimal}
use Rattle.spv_cli.specs.Drill.{result_of}
use Rattle.spv_cli.specs.Words.{procedure_view}
use Rattle.spv_cli.proofs.Pieces.{seven}
use Rattle.spv_cli.proofs.drill.push_call.Goals as goal

pub returns : goal.returns
returns c =
    seven c.args.out.now.items (codes "P") (decimal c.args.p.number) (codes "(") (decimal c.args.p.number) (codes ", X); ASSERT X = ") (decimal (result_of (procedure_view c.args.p))) (codes ";\n")
    c.in_ok-extend_from_slice.ensures.items c.in_ok-push_number.ensures c.in_ok-extend_from_slice-2.ensures.items
    c.in_ok-push_number-2.ensures c.in_ok-extend_from_slice-3.ensures.items
    (c.in_ok-push_number-3.ensures ∙ ap (λ (n : ℕ). c.extend_from_slice-3.new.self.items ++ decimal n) c.result_of.ensures) c.in_ok-extend_from_slice-4.ensures.items
