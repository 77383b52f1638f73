-- The place of a designator, over an arena.
use Rattle.std.specs.Prelude.{◌<◌, List, length, option_map, IfSome, IsTrue}
use Rattle.spv_logic.specs.declared.operators.Head.TheVariants as head
use Rattle.spv_logic.specs.Substitution.{is_variable}
use Rattle.spv_term.specs.Arena.{Arena, tree}
use Rattle.spv_term.specs.substitution.Images.{head_at}
use Rattle.spv_logic.specs.Terms.{Term}
use Rattle.spv_program.specs.Terms.{binary, ternary}
use Rattle.spv_program.specs.Places as place
use Rattle.spv_program.specs.Places.{changed_part, part_behind}
use Rattle.spv_assign.specs.declared.structures.places.Target.{Target}
use Rattle.spv_assign.specs.structures.Steps.{AreSteps, steps_in}

-- the place in terms
abbrev pub target_in : Arena → Target → place.Target
target_in a d = record { root = head_at a d.root; pointer = option_map (tree a) d.pointer; path = steps_in a d.path }

-- its root is a variable or a class, and all ids in it are there
pub record IsTarget (a : Arena) (d : Target) : Type 0 where
  pub root : d.root.0 < length a.nodes
  pub variable : IsTrue (is_variable (head_at a d.root))
  pub pointer : IfSome d.pointer (λ q. q.0 < length a.nodes)
  pub path : AreSteps a d.path

-- what stands behind steps in the content of a cell
abbrev pub read_of_cell : Term → Term → List place.Step → Term
read_of_cell class q path = part_behind (binary head.Cell class q) path

-- a class with something else there
abbrev pub changed_cell : Term → Term → List place.Step → Term → Term
changed_cell class q path v = ternary head.SetCell class q (changed_part (binary head.Cell class q) path v)
