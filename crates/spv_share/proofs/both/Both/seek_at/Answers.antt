use Rattle.std.proofs.Common.{◌≡◌, false, rules}
use Rattle.spv_share.proofs.Goings.{goes_same}
use Rattle.spv_share.proofs.Seeking.{flag_at, found_sifted}
use Rattle.spv_share.proofs.both.Both.seek_at.Goals as goal

pub returns-then-not-index-clause-goes : goal.returns-then-not-index-clause-goes
returns-then-not-index-clause-goes c = goes_same c.args.terms.now c.args.self.now c.requires.sound

pub returns-then-not-index-clause-found : goal.returns-then-not-index-clause-found
returns-then-not-index-clause-found c =
    let none : c.index.result.now ≡ false = search rules in
    found_sifted c.args.terms.now c.args.self.now c.args.waits.now.items c.args.place c.requires.sound c.requires.sifted
    (flag_at c.args.self.now c.args.waits.now.items c.args.place c.index.result.now c.requires.sifted c.requires.place c.index.ensures none)
