use Rattle.std.proofs.Common.{◌≡◌}
use Rattle.spv_derivations.specs.derivation.Literals.{literals}
use Rattle.spv_explanations.specs.equalities.Links.{Stands}
use Rattle.spv_explanations.specs.equalities.Reasons.{GoesOn}
use Rattle.spv_explanations.proofs.equalities.reasons.find_reason.Given as goal

abbrev pub invariant-loop : goal.invariant-loop
invariant-loop l = record {
  goes_on : GoesOn l.initial.derivation l.derivation;
  same_literals : literals l.derivation ≡ literals l.initial.derivation;
  stands : Stands l.terms l.graph l.derivation l.known l.works.items;
}
