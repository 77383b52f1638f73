use Rattle.std.proofs.Common.{◌≡◌, drop, fold}
use Rattle.spv_derivations.specs.derivation.Copying.{copying}
use Rattle.spv_derivations.specs.derivation.Steps.{copy_of, with_entry}
use Rattle.spv_derivations.proofs.derivation.copying.copy_of.Given as goal

abbrev pub invariant-loop-entry : goal.invariant-loop-entry
invariant-loop-entry l = fold with_entry (copying l.done) (drop l.entry-index l.entries) ≡ copy_of l.facts l.entries
