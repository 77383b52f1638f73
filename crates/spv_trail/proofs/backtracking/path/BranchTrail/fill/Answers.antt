use Rattle.std.proofs.Common.{refl}
use Rattle.spv_trail.proofs.backtracking.Giving.{all_none, filled_held}
use Rattle.spv_trail.proofs.backtracking.path.BranchTrail.fill.Goals as goal

pub settle-requires-clause-held : goal.settle-requires-clause-held
settle-requires-clause-held c =
    filled_held c.args.terms.now c.args.condition.now c.args.ground.now c.args.self.now c.requires.asked c.requires.empty c.requires.untold
    (record { derivation = c.give_all.new.derivation; known = c.give_all.new.known; both = c.args.self.now.both; lists = c.args.self.now.lists }) c.give_all.new.known.items
    (all_none c.args.terms.now c.args.condition.now c.give_all.new.derivation c.give_all.new.known.items c.in_ok-end.end c.in-None.is c.in_ok-end.ensures) refl refl refl c.requires.both
