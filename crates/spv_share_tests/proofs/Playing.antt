-- Both sides after a step.
use Rattle.std.proofs.Common.{◌≡◌, ◌≤◌, ℕ, List, sym, subst, Option, arith}
use Rattle.spv_logic.specs.declared.conditions.TermId.{TermId}
use Rattle.spv_term.specs.declared.nodes.Node.{Node}
use Rattle.spv_share.specs.declared.both.Level.{Level}
use Rattle.spv_share.specs.Both.{IsNoLater}
use Rattle.spv_share.specs.Relations.{AreNodes}

pub nodes_as : (old new : List (Option Node)) (atoms : List TermId) → new ≡ old → AreNodes old atoms → AreNodes new atoms
nodes_as old new atoms e h = subst (λ (ns : List (Option Node)). AreNodes ns atoms) (sym e) h

itself : (n : ℕ) → n ≤ n
itself n = omega arith

-- a level is no later than itself
pub no_later : (l : Level) → IsNoLater l l
no_later l = record { entries = itself l.trail.entries; facts = itself l.trail.facts; bounds = itself l.bounds; claims = itself l.claims }
