-- Terms that an arena may have, but for their numerals.
use Rattle.std.specs.Prelude.{List, IsSome, IsTrue}
use Rattle.spv_logic.specs.declared.types.Shape.{Shape}
use Rattle.spv_logic.specs.declared.types.Decl.{Decl}
use Rattle.spv_logic.specs.Terms.{Term, heads_pass}
use Rattle.spv_logic.specs.Sorts.{term_sort, head_in_range}

-- a term whose sorts fit, and whose types are there
pub record IsWellSorted (shapes : List Shape) (decls : List Decl) (t : Term) : Type 0 where
  pub sorts : IsSome (term_sort shapes decls t)
  pub types : IsTrue (heads_pass (head_in_range shapes) t)
