use Rattle.spv_share.proofs.Claiming.{stays_then, told_back}
use Rattle.spv_share.specs.Both.{told}
use Rattle.spv_share.proofs.both.Both.tell.Goals as goal

pub returns-in-Err-clause-levels : goal.returns-in-Err-clause-levels
returns-in-Err-clause-levels c = λ l h. c.undo.ensures.levels l (c.tell_all.ensures.levels l h) (c.mark-level.ensures.last l h)

pub returns-in-Err-clause-err : goal.returns-in-Err-clause-err
returns-in-Err-clause-err c = told_back c.args.self.now c.tell_all.new.self c.mark-level.result.claims (told c.undo.new.self) c.tell_all.ensures.grows c.mark-level.ensures.claims c.undo.ensures.told

pub returns-in-Err-clause-stays : goal.returns-in-Err-clause-stays
returns-in-Err-clause-stays c = stays_then c.args.self.now c.tell_all.new.self c.undo.new.self c.tell_all.ensures.stays c.undo.ensures.stays
