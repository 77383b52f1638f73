use Rattle.spv_derivations.proofs.derivation.Bridges.{if_ok}
use Rattle.spv_share.proofs.Goings.{goes_same}
use Rattle.spv_share.proofs.Seeking.{sought_after, sought_apart}
use Rattle.spv_share.proofs.both.Both.seek_on.Goals as goal

pub returns-in-Stopped-clause-goes : goal.returns-in-Stopped-clause-goes
returns-in-Stopped-clause-goes c = goes_same c.args.terms.now c.args.self.now c.requires.sound

pub returns-in_ok-seek_at-in-Joined-clause-sought : goal.returns-in_ok-seek_at-in-Joined-clause-sought
returns-in_ok-seek_at-in-Joined-clause-sought c = λ start same k.
    sought_after c.args.terms.now start c.args.self.now c.seek_at.new.self c.args.place _ c.args.so_far c.in_ok-seek_at-in-Joined.field-0 _ c.in-Joined.is same c.seek_at.ensures.goes c.joined.ensures c.in_ok-seek_at-in-Joined.ensures.found c.requires.place k

pub returns-in-Apart-clause-sought : goal.returns-in-Apart-clause-sought
returns-in-Apart-clause-sought c =
    if_ok c.seek_at-in-Apart.result c.seek_at-in-Apart.ensures.found
    (λ s h start same k. sought_apart c.args.terms.now start c.args.self.now c.seek_at-in-Apart.new.self c.args.place c.args.so_far s c.in-Apart.is c.requires.sound h c.requires.place k)
