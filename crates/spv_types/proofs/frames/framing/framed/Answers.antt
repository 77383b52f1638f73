use Rattle.std.proofs.Common.{◌≡◌, not, Bool, Option, None, is_some, IsTrue, refl, sym, subst}
use Rattle.spv_program.specs.Programs.{Program}
use Rattle.spv_effects.specs.declared.frame_walk.faults.FrameFault.{FrameFault}
use Rattle.spv_effects.specs.frame_walk.FrameWalk.{frame_fault}
use Rattle.spv_effects.proofs.frame_laws.Framed.{framed_is}
use Rattle.spv_types.proofs.frames.framing.framed.Goals as goal

pub of-requires-clause-framed : goal.of-requires-clause-framed
of-requires-clause-framed c =
    subst (λ (b : Bool). IsTrue b) (framed_is c.args.typed)
    (subst (λ (o : Option FrameFault). IsTrue (not (is_some o)))
    (sym (subst (λ (p : Program). frame_fault p ≡ None) c.program.ensures c.in_ok-effects.ensures.ok)) refl)
