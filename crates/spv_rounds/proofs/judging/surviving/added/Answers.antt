use Rattle.std.proofs.Common.{◌≡◌, ◌+◌, ◌<◌, ◌≤◌, suc, length, arith, ap, ◌∙◌}
use Rattle.spv_rules.specs.RuleSets.{rules_in}
use Rattle.spv_rounds.specs.Rounds.{members_of}
use Rattle.spv_rounds.specs.knowing.Known.{members_in}
use Rattle.spv_rounds.specs.telling.Told.{settled_members}
use Rattle.spv_rounds.proofs.judging.SurviveLemmas.{room-is, round-of}
use Rattle.spv_rounds.proofs.judging.surviving.added.Goals as goal

pub returns-then-len-left : goal.returns-then-len-left
returns-then-len-left c = λ a d is known same there falsifies calls.
    let r = room-is c.args.s c.as_slice.result.now c.in-Some.left c.args.limits.now.instances c.as_slice.ensures (c.in-Some.ensures ∙ c.instances.ensures) in
    let above = c.if-len-left.true in
    let some : 0 < c.in-Some.left + 1 = omega arith in
    let enough : c.in-Some.left + 1 ≤ length c.args.found.items = omega (arith, above, c.len.ensures) in
    let sum : length (settled_members c.args.s) + (c.in-Some.left + 1) ≡ suc c.args.limits.now.instances = omega (arith, r) in
    c.in_ok-too_many.ensures (rules_in c.args.rules.now) a d c.args.limits.now is there falsifies calls some enough sum

pub returns-in-Ok : goal.returns-in-Ok
returns-in-Ok c = λ a d is known same there falsifies calls.
    let r = room-is c.args.s c.as_slice.result.now c.in-Some.left c.args.limits.now.instances c.as_slice.ensures (c.in-Some.ensures ∙ c.instances.ensures) in
    let below = c.if-len-left.false in
    let many = ap length c.as_slice-2.ensures.value in
    let ms : length (settled_members c.args.s) ≡ length (members_in c.args.known.now.terms c.args.known.now.rounds.items) = ap (λ rs. length (members_of rs)) same in
    let few : length (members_in c.args.known.now.terms c.args.known.now.rounds.items) + length c.as_slice-2.result.now ≤ c.args.limits.now.instances = omega (arith, r, below, c.len.ensures, many, ms) in
    let grew = c.in-Ok.ensures a d c.args.limits.now known
    (round-of (rules_in c.args.rules.now) a d c.args.s is c.args.table falsifies c.args.found.items calls c.requires.some c.args.known.now.terms c.args.known.now.rounds.items same c.as_slice-2.result.now c.as_slice-2.ensures.value) few in
    let some = c.requires.some in
    let more = grew.more in
    record { known = grew.known; more = omega (arith, more, some, many) }
