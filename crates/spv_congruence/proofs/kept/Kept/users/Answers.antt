use Rattle.std.proofs.Common.{sym, subst}
use Rattle.spv_union_find.specs.classes.Classes.{HasMembers}
use Rattle.spv_congruence.proofs.Goings.{got_at, uses_more, all_users}
use Rattle.spv_congruence.proofs.kept.Kept.users.Goals as goal

pub loop-x-preserved : goal.loop-x-preserved
loop-x-preserved c = record { all = uses_more _ c.args.self.now.uses _ _ _ _ (got_at _ _ 0 c.loop-x-test.true) c.in_ok-add_uses.ensures c.loop-x.invariant.all }

pub returns : goal.returns
returns c = all_users c.args.self.now c.args.class _ _ _ c.requires.fits
    (subst (λ xs. HasMembers c.args.self.now.classes c.args.class xs) (sym c.as_slice-members.ensures.value) c.in_ok-members.ensures) c.loop-x-test.false c.loop-x.invariant.all
