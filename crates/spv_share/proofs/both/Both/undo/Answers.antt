use Rattle.spv_share.proofs.Undoing.{back_both, back_stays, back_told, went_back}
use Rattle.spv_share.proofs.both.Both.undo.Goals as goal

pub returns-clause-both : goal.returns-clause-both
returns-clause-both c =
    back_both c.args.terms.now c.args.self.now (record c.args.self.now { trail = c.undo.new.self; standing = c.keep.new.self; claims = c.truncate.new.self }) c.args.level.now
    (went_back c.args.self.now c.args.level.now c.undo.new.self c.keep.new.self c.truncate.new.self c.undo.ensures.derivation c.undo.ensures.graph c.undo.ensures.facts c.undo.ensures.truth c.undo.ensures.falsity c.keep.ensures.standing
    c.keep.ensures.tableau c.keep.ensures.sources c.truncate.ensures.items) c.requires.sound c.requires.level

pub returns-clause-told : goal.returns-clause-told
returns-clause-told c =
    back_told c.args.terms.now c.args.self.now (record c.args.self.now { trail = c.undo.new.self; standing = c.keep.new.self; claims = c.truncate.new.self }) c.args.level.now
    (went_back c.args.self.now c.args.level.now c.undo.new.self c.keep.new.self c.truncate.new.self c.undo.ensures.derivation c.undo.ensures.graph c.undo.ensures.facts c.undo.ensures.truth c.undo.ensures.falsity c.keep.ensures.standing
    c.keep.ensures.tableau c.keep.ensures.sources c.truncate.ensures.items) c.requires.level

pub returns-clause-stays : goal.returns-clause-stays
returns-clause-stays c =
    back_stays c.args.terms.now c.args.self.now (record c.args.self.now { trail = c.undo.new.self; standing = c.keep.new.self; claims = c.truncate.new.self }) c.args.level.now
    (went_back c.args.self.now c.args.level.now c.undo.new.self c.keep.new.self c.truncate.new.self c.undo.ensures.derivation c.undo.ensures.graph c.undo.ensures.facts c.undo.ensures.truth c.undo.ensures.falsity c.keep.ensures.standing
    c.keep.ensures.tableau c.keep.ensures.sources c.truncate.ensures.items)
