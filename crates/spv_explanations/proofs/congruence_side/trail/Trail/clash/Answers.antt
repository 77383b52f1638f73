use Rattle.std.proofs.Common.{refl}
use Rattle.spv_explanations.proofs.congruence_side.Denials.{clashing, may_not}
use Rattle.spv_explanations.proofs.congruence_side.Trails.{grows_same}
use Rattle.spv_explanations.proofs.congruence_side.trail.Trail.clash.Goals as goal

pub returns-in_default-clause-grows : goal.returns-in_default-clause-grows
returns-in_default-clause-grows c = grows_same _ _ refl refl refl refl

pub end_by-requires-clause-why : goal.end_by-requires-clause-why
end_by-requires-clause-why c =
    may_not c.args.terms.now c.args.self.now c.requires.holds c.in-Some.s c.in-Some.t (clashing c.args.self.now.graph c.clash.result (c.in-Some.s, c.in-Some.t) c.clash.ensures.some c.in-Some.is)
