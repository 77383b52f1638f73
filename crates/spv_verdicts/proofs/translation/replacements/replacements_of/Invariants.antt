use Rattle.std.proofs.Common.{◌≡◌, false, [], ◌∷◌}
use Rattle.spv_atoms.specs.declared.proofs.Stated.TheVariants.{Is}
use Rattle.spv_atoms.specs.declared.proofs.Step.TheVariants.{Eval}
use Rattle.spv_verdicts.specs.translation.Replacements.{given_behind}
use Rattle.spv_verdicts.proofs.translation.replacements.replacements_of.Given as goal

abbrev pub invariant-loop-place : goal.invariant-loop-place
invariant-loop-place l = l.steps.items ≡ Eval (Is l.fn.falsity false) [] ∷ given_behind 0 l.place
