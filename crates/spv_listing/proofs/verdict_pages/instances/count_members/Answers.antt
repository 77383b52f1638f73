use Rattle.std.proofs.Common.{◌+◌, sym, take, ap, ◌∙◌}
use Rattle.spv_listing.specs.verdict_pages.Counting.{member_total}
use Rattle.spv_listing.proofs.verdict_pages.Rounds.{total_more, total_all}
use Rattle.spv_listing.proofs.verdict_pages.instances.count_members.Goals as goal

pub loop-round-preserved : goal.loop-round-preserved
loop-round-preserved c =
    c.in_ok-number.ensures
    ∙ (ap (λ n. n + c.len.result) c.loop-round.invariant
    ∙ (ap (λ n. member_total (take c.loop-round.round-index c.args.rounds.now) + n) c.len.ensures
    ∙ sym (total_more c.args.rounds.now c.loop-round.round-index c.round-item.result c.loop-round-test.true c.round-item.is)))

pub returns : goal.returns
returns c = total_all c.args.rounds.now c.loop-round.round-index c.loop-round.number c.loop-round-test.false c.loop-round.invariant
