use Rattle.std.proofs.Common.{rules}
use Rattle.spv_share.specs.States.{IsAtPoint}
use Rattle.spv_share.proofs.Settling.{opened}
use Rattle.spv_share.proofs.both.Both.settle.Goals as goal

pub returns-clause-outcome : goal.returns-clause-outcome
returns-clause-outcome c =
    let point : IsAtPoint c.check.new.self.standing = search rules in
    opened c.args.terms.now c.args.self.now c.check.new.self c.check.ensures.goes.sound c.requires.clash c.requires.apart c.check.ensures.still point c.law_tableau.ensures c.requires.stand
