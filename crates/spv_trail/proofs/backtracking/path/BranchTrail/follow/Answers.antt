use Rattle.std.proofs.Common.{refl}
use Rattle.spv_trail.proofs.propagation.Citing.{stored_cores}
use Rattle.spv_trail.proofs.backtracking.Following.{follow_held, follow_path, follow_ended, follow_ended_goes, follow_told, follow_goes}
use Rattle.spv_trail.proofs.backtracking.path.BranchTrail.follow.Goals as goal

pub learn-requires-clause-known : goal.learn-requires-clause-known
learn-requires-clause-known c = stored_cores c.args.terms.now c.args.condition.now _ _ _ c.requires.told.path_told.settled.stored

pub settle-requires-clause-held : goal.settle-requires-clause-held
settle-requires-clause-held c =
    follow_held c.args.terms.now c.args.condition.now c.args.ground.now c.args.self.now c.requires.asked c.args.t c.args.truth c.requires.question c.requires.follows c.evaluate_all.new.derivation c.in_ok-number.number c.as_slice.result.now c.as_slice.ensures.value c.in_ok-number.ensures c.learn.new.derivation c.learn.new.known.items
    c.in_ok-end.end c.in_ok-end.ensures c.in-None.is c.requires.told (record { derivation = c.learn.new.derivation; known = c.learn.new.known; both = c.args.self.now.both; lists = c.args.self.now.lists }) refl refl refl refl

pub settle-requires-clause-path : goal.settle-requires-clause-path
settle-requires-clause-path c =
    follow_path c.args.terms.now c.args.condition.now c.args.ground.now c.args.self.now c.requires.asked c.args.t c.args.truth c.requires.question c.requires.follows c.evaluate_all.new.derivation c.in_ok-number.number c.as_slice.result.now c.as_slice.ensures.value c.in_ok-number.ensures c.learn.new.derivation c.learn.new.known.items
    c.in_ok-end.end c.in_ok-end.ensures c.in-None.is c.requires.told

pub returns-in-Some-clause-told : goal.returns-in-Some-clause-told
returns-in-Some-clause-told c =
    λ cases h. follow_ended c.args.terms.now c.args.condition.now c.args.ground.now c.args.self.now c.requires.asked c.args.t c.args.truth c.requires.question c.requires.follows c.evaluate_all.new.derivation c.in_ok-number.number c.as_slice.result.now c.as_slice.ensures.value c.in_ok-number.ensures c.learn.new.derivation
    c.learn.new.known.items c.in_ok-end.end c.in_ok-end.ensures cases h c.in-Some.end c.in-Some.is _ refl refl

pub returns-in-Some-clause-goes : goal.returns-in-Some-clause-goes
returns-in-Some-clause-goes c =
    follow_ended_goes c.args.terms.now c.args.condition.now c.args.ground.now c.args.self.now c.requires.asked c.args.t c.args.truth c.requires.question c.requires.follows c.evaluate_all.new.derivation c.in_ok-number.number c.as_slice.result.now c.as_slice.ensures.value c.in_ok-number.ensures c.learn.new.derivation
    c.learn.new.known.items c.in_ok-end.end c.in_ok-end.ensures c.requires.told c.in-Some.end c.in-Some.is _ refl refl refl

pub returns-in_ok-settle-in-None-clause-told : goal.returns-in_ok-settle-in-None-clause-told
returns-in_ok-settle-in-None-clause-told c =
    λ cases h. follow_told c.args.terms.now c.args.condition.now c.args.ground.now c.args.self.now c.requires.asked c.args.t c.args.truth c.requires.question c.requires.follows c.evaluate_all.new.derivation c.in_ok-number.number c.as_slice.result.now c.as_slice.ensures.value c.in_ok-number.ensures c.learn.new.derivation
    c.learn.new.known.items c.in_ok-end.end c.in_ok-end.ensures c.in-None.is cases h
    (record { derivation = c.learn.new.derivation; known = c.learn.new.known; both = c.args.self.now.both; lists = c.args.self.now.lists }) c.settle.new.self refl refl c.in_ok-settle-in-None.ensures.told c.in_ok-settle-in-None.ensures.known

pub returns-in_ok-settle-in-None-clause-goes : goal.returns-in_ok-settle-in-None-clause-goes
returns-in_ok-settle-in-None-clause-goes c =
    follow_goes c.args.terms.now c.args.condition.now c.args.ground.now c.args.self.now c.requires.asked c.args.t c.args.truth c.requires.question c.requires.follows c.evaluate_all.new.derivation c.in_ok-number.number c.as_slice.result.now c.as_slice.ensures.value c.in_ok-number.ensures c.learn.new.derivation c.learn.new.known.items
    c.in_ok-end.end c.in_ok-end.ensures c.in-None.is c.requires.told
    (record { derivation = c.learn.new.derivation; known = c.learn.new.known; both = c.args.self.now.both; lists = c.args.self.now.lists }) c.settle.new.self refl refl refl c.in_ok-settle-in-None.ensures.goes
