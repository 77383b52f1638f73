use Rattle.std.proofs.Common.{refl, ◌∙◌, subst, length}
use Rattle.spv_congruence.specs.Keep.{IsNow}
use Rattle.spv_congruence.proofs.Goings.{goes_refl, goes_trans, goes_fits}
use Rattle.spv_congruence.proofs.kept.Kept.enter_users.Goals as goal

pub loop-t-init : goal.loop-t-init
loop-t-init c = record { fits = c.requires.fits; level = c.requires.level; goes = goes_refl _; classes = refl }

pub loop-t-preserved : goal.loop-t-preserved
loop-t-preserved c =
    let i = c.loop-t.invariant in
    record {
      fits = goes_fits _ _ c.in_ok-enter_user.ensures.goes i.fits;
      level = c.in_ok-enter_user.ensures.ok c.pop.new.self.items (subst (λ ws. IsNow c.loop-t.self (length c.loop-t.self.added) c.loop-t.equals.items ws) c.in-Some.ensures.items i.level);
      goes = goes_trans _ _ _ i.goes c.in_ok-enter_user.ensures.goes;
      classes = c.in_ok-enter_user.ensures.classes ∙ i.classes;
    }
