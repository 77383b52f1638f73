-- What a loop over where routines begin and end has read.
use Rattle.std.specs.Prelude.{◌≡◌, ◌≤◌, ℕ, ◌-◌, List, ◌++◌}
use Rattle.spv_tree.specs.declared.tokens.token.Token.{Token}
use Rattle.spv_tree.specs.declared.syntax.routines.RoutineMark.{RoutineMark}
use Rattle.spv_grammar.specs.reading.Readers.{Outcome, Read, and_then}
use Rattle.spv_grammar.specs.reading.RoutineReaders.{marks}

-- all that is read is these marks and those that are still to come at the front of the rest, in as many turns as are left, where
-- this many routines have begun and not ended
pub record MarksSoFar (levels : ℕ) (total : Outcome (List RoutineMark)) (end counter begun : ℕ) (done : List RoutineMark) (rest : List Token) : Type 0 where
  pub same : total ≡ and_then (marks levels (end - counter) begun rest) (λ others behind. Read (done ++ others, behind))
  pub within : begun ≤ counter
