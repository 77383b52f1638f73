-- Where the steps of a node lead over an arena.
use Rattle.std.specs.Prelude.{◌≡◌, Bool, true, false, List, [], ◌∷◌, map, length, take}
use Rattle.spv_logic.specs.declared.conditions.TermId.{TermId}
use Rattle.spv_logic.specs.Terms.{Term}
use Rattle.spv_atoms.specs.declared.proofs.Step.{Step}
use Rattle.spv_term.specs.Arena.{Arena, AllBelow, tree, trees_of}
use Rattle.spv_proof_rules.specs.Accepted as spec
use Rattle.spv_proof_rules.specs.Outcomes.{Outcome, steps_outcome}
use Rattle.spv_proof.specs.declared.checker.tasks.Task.{Task}
use Rattle.spv_proof.specs.declared.checker.walking.Path.{Path}
use Rattle.spv_proof.specs.declared.checker.walking.Path.TheVariants.{Open, Closed, Broken}
use Rattle.spv_proof.specs.checker.Ends.{comes_in}
use Rattle.spv_proof.specs.checker.Tasks.{asks}

-- the path as the definition has it
abbrev pub path_of : List Term → Path → spec.Path
path_of facts Open = spec.Open facts
path_of facts Closed = spec.Closed
path_of facts Broken = spec.Broken

abbrev pub no_steps : List Step → Bool
no_steps [] = true
no_steps (s ∷ steps) = false

-- where steps lead over an arena
abbrev pub steps_in : Arena → Task → List TermId → List Step → Outcome spec.Path
steps_in a k facts steps = steps_outcome a.most (asks a k) (trees_of a.nodes) (map (tree a) facts) steps

-- steps have led there: the facts are those before and others behind them
pub record Leads (old : Arena) (k : Task) (before : List TermId) (steps : List Step) (new : Arena) (facts : List TermId) (p : Path) : Type 0 where
  pub outcome : steps_in old k before steps ≡ comes_in new (path_of (map (tree new) facts) p)
  pub in_range : AllBelow (length new.nodes) facts
  pub before_is : take (length before) facts ≡ before
