use Rattle.spv_share.proofs.Ended.{claim_ends, claim_goes}
use Rattle.spv_share.proofs.both.Both.end_claim.Goals as goal

pub returns-in_err-number-clause-goes : goal.returns-in_err-number-clause-goes
returns-in_err-number-clause-goes c =
    claim_goes c.args.terms.now c.law_arena.ensures c.args.self.now c.end_opposed.new.derivation c.requires.sound c.args.claim c.args.fact c.requires.claimed c.opposed-from.result c.opposed-from.ensures c.end_opposed.result c.end_opposed.ensures.gains
    c.end_opposed.ensures.err c.end_opposed.ensures.literals

pub returns-clause-goes : goal.returns-clause-goes
returns-clause-goes c =
    claim_goes c.args.terms.now c.law_arena.ensures c.args.self.now c.end_opposed.new.derivation c.requires.sound c.args.claim c.args.fact c.requires.claimed c.opposed-from.result c.opposed-from.ensures c.end_opposed.result c.end_opposed.ensures.gains
    c.end_opposed.ensures.err c.end_opposed.ensures.literals

pub returns-clause-outcome : goal.returns-clause-outcome
returns-clause-outcome c =
    claim_ends c.args.terms.now c.law_arena.ensures c.args.self.now c.end_opposed.new.derivation c.requires.sound c.args.claim c.args.fact c.requires.claimed c.opposed-from.result c.opposed-from.ensures c.law_refuted.ensures.ends c.in_ok-number.number
    c.in_ok-number.ensures.gains

pub opposed-from-requires-clause-row : goal.opposed-from-requires-clause-row
opposed-from-requires-clause-row c = c.requires.claimed.row_in
