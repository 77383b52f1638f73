use Rattle.spv_term.proofs.ArenaLemmas.{Extends-trans, AllBelow-Extends}
use Rattle.spv_rules.specs.RuleSets.{rules_in}
use Rattle.spv_rounds.proofs.growing.SayLemmas.{instance-at, saying-more}
use Rattle.spv_rounds.proofs.growing.saying.say.Goals as goal

pub say_one-requires-clause-values : goal.say_one-requires-clause-values
say_one-requires-clause-values c =
    AllBelow-Extends c.loop-member.invariant.grows c.member-item.result.values (instance-at c.args.terms.now c.args.members.now c.requires.members c.loop-member.member-index c.member-item.result c.loop-member-test.true c.member-item.is)

pub returns-in_err-t-clause-grows : goal.returns-in_err-t-clause-grows
returns-in_err-t-clause-grows c = Extends-trans c.loop-member.invariant.grows c.in_err-t.ensures.grows

pub loop-member-preserved : goal.loop-member-preserved
loop-member-preserved c =
    saying-more (rules_in c.args.rules.now) c.args.terms.now c.loop-member.terms c.say_one.new.terms c.args.members.now c.loop-member.member-index c.member-item.result c.loop-member.made.items c.push.new.made.items c.in_ok-t.t
    c.loop-member-test.true c.member-item.is c.requires.members c.loop-member.invariant c.in_ok-t.ensures.grows c.in_ok-push.ensures c.in_ok-t.ensures.there c.in_ok-t.ensures.same c.in_ok-t.ensures.truth
