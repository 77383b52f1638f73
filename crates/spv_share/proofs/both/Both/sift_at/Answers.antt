use Rattle.std.proofs.Common.{refl, rules, IsTrue}
use Rattle.spv_share.proofs.Seeking.{sifted_without}
use Rattle.spv_share.proofs.both.Both.sift_at.Goals as goal

pub returns-then-is_kept_apart : goal.returns-then-is_kept_apart
returns-then-is_kept_apart c =
    let sure : IsTrue c.is_kept_apart.result = search rules in sifted_without c.args.self.now c.args.waits.now.items _ c.args.place c.requires.sifted refl (c.is_kept_apart.ensures sure)
