use Rattle.std.proofs.Common.{◌≡◌, false, rules, subst, sym}
use Rattle.spv_share.specs.declared.both.Both.{Both}
use Rattle.spv_share.specs.Both.{IsClaimed}
use Rattle.spv_share.proofs.Goings.{goes_as, goes_said, still_graph}
use Rattle.spv_arithmetic_side.specs.constraint_rows.Said.{IsOpposed}
use Rattle.spv_share.proofs.both.Both.give_claim.Goals as goal

pub returns-then-say_claim-clause-goes : goal.returns-then-say_claim-clause-goes
returns-then-say_claim-clause-goes c =
    goes_said c.args.terms.now c.args.self.now c.say_claim.new.self c.requires.sound c.say_claim.ensures.sound c.say_claim.ensures.adds c.say_claim.ensures.trail c.say_claim.ensures.relations c.say_claim.ensures.claims

pub end_claim-requires-clause-claimed : goal.end_claim-requires-clause-claimed
end_claim-requires-clause-claimed c =
    let none : c.say_claim.result ≡ false = search rules in
    subst (λ (b : Both). IsClaimed c.args.terms.now b c.args.claim c.args.fact) (sym (c.say_claim.ensures.same none)) c.requires.claimed

pub end_claim-requires-clause-opposed : goal.end_claim-requires-clause-opposed
end_claim-requires-clause-opposed c =
    let none : c.say_claim.result ≡ false = search rules in
    subst (λ (b : Both). IsOpposed b.standing c.args.claim.row c.args.claim.saying) (sym (c.say_claim.ensures.same none)) (c.say_claim.ensures.opposed none)

pub returns-in_err-end_claim-clause-goes : goal.returns-in_err-end_claim-clause-goes
returns-in_err-end_claim-clause-goes c =
    let none : c.say_claim.result ≡ false = search rules in goes_as c.args.terms.now c.args.self.now c.say_claim.new.self c.end_claim.new.self (c.say_claim.ensures.same none) c.end_claim.ensures.goes

pub returns-in_err-end_claim-clause-graph : goal.returns-in_err-end_claim-clause-graph
returns-in_err-end_claim-clause-graph c =
    let none : c.say_claim.result ≡ false = search rules in still_graph c.args.self.now c.say_claim.new.self c.end_claim.new.self (c.say_claim.ensures.same none) c.end_claim.ensures.still

pub returns-clause-goes : goal.returns-clause-goes
returns-clause-goes c =
    let none : c.say_claim.result ≡ false = search rules in goes_as c.args.terms.now c.args.self.now c.say_claim.new.self c.end_claim.new.self (c.say_claim.ensures.same none) c.end_claim.ensures.goes

pub returns-clause-graph : goal.returns-clause-graph
returns-clause-graph c =
    let none : c.say_claim.result ≡ false = search rules in still_graph c.args.self.now c.say_claim.new.self c.end_claim.new.self (c.say_claim.ensures.same none) c.end_claim.ensures.still
