use Rattle.std.proofs.Common.{ap, Some}
use Rattle.std.specs.Option.{option_map}
use Rattle.spv_proof.proofs.sums.Negated.{differed, wide_parts, handed_on}
use Rattle.spv_proof.proofs.sums.difference.difference.Goals as goal

pub returns-in-Some-2 : goal.returns-in-Some-2
returns-in-Some-2 c =
    differed c.args.is_above c.args.left.now c.args.right.now c.parts.result.now c.parts-2.result.now c.in-Some-2.parts.items _ _ _ c.in-Some.constant
    c.parts.ensures c.parts-2.ensures c.constant.ensures c.constant-2.ensures c.in_ok-parts.ensures (ap (option_map (λ v. v.items)) c.in-Some-2.is)
    (handed_on c.args.is_above c.args.left.now c.args.right.now _ _ (Some c.in-Some.constant) c.law_linear.ensures c.law_linear-2.ensures c.constant.ensures c.constant-2.ensures c.in-Some.ensures)

pub returns-in-None : goal.returns-in-None
returns-in-None c =
    wide_parts c.args.is_above c.args.left.now c.args.right.now c.parts.result.now c.parts-2.result.now _ c.parts.ensures c.parts-2.ensures c.in_ok-parts.ensures (ap (option_map (λ v. v.items)) c.in-None.is)
