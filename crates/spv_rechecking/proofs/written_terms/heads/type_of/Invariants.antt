use Rattle.spv_rechecking.specs.written_terms.Standing.{is_title}
use Rattle.spv_rechecking.proofs.written_terms.Named.{IsBehind}
use Rattle.spv_rechecking.proofs.written_terms.heads.type_of.Given as goal

abbrev pub invariant-loop-place : goal.invariant-loop-place
invariant-loop-place l = IsBehind (is_title l.name) l.titles l.place
