use Rattle.spv_share.proofs.Goings.{goes_then}
use Rattle.spv_share.proofs.Rounds.{no_clash_as, sought_all, sought_closed, sought_stopped}
use Rattle.spv_share.proofs.Settling.{all_still}
use Rattle.std.proofs.Common.{length}
use Rattle.spv_share.proofs.both.Both.search.Goals as goal

pub settle-requires-clause-clash : goal.settle-requires-clause-clash
settle-requires-clause-clash c = no_clash_as c.args.self.now c.seek.new.self (sought_all c.args.self.now c.seek.new.self c.in_ok-seek.field-0 c.in-Apart.is c.in_ok-seek.ensures.sought).still.graph c.requires.clash

pub settle-requires-clause-stand : goal.settle-requires-clause-stand
settle-requires-clause-stand c = all_still c.args.self.now c.seek.new.self (sought_all c.args.self.now c.seek.new.self c.in_ok-seek.field-0 c.in-Apart.is c.in_ok-seek.ensures.sought).still c.requires.stand

pub settle-requires-clause-apart : goal.settle-requires-clause-apart
settle-requires-clause-apart c = (sought_all c.args.self.now c.seek.new.self c.in_ok-seek.field-0 c.in-Apart.is c.in_ok-seek.ensures.sought).apart

pub returns-in-Joined-clause-none : goal.returns-in-Joined-clause-none
returns-in-Joined-clause-none c = sought_closed c.args.self.now c.seek.new.self (length c.args.self.now.relations.items) c.in_ok-seek.field-0 c.in-Joined.is c.in_ok-seek.ensures.sought

pub returns-in-Stopped-clause-outcome : goal.returns-in-Stopped-clause-outcome
returns-in-Stopped-clause-outcome c = sought_stopped c.args.self.now c.seek.new.self (length c.args.self.now.relations.items) c.in_ok-seek.field-0 c.in-Stopped.is c.in_ok-seek.ensures.sought

pub returns-in_err-settle-in-Apart-clause-goes : goal.returns-in_err-settle-in-Apart-clause-goes
returns-in_err-settle-in-Apart-clause-goes c = goes_then c.args.terms.now c.args.self.now c.seek.new.self c.settle.new.self c.seek.ensures.goes c.settle.ensures.goes

pub returns-in_ok-settle-in-Apart-clause-goes : goal.returns-in_ok-settle-in-Apart-clause-goes
returns-in_ok-settle-in-Apart-clause-goes c = goes_then c.args.terms.now c.args.self.now c.seek.new.self c.settle.new.self c.seek.ensures.goes c.settle.ensures.goes
