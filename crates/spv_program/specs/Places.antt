-- Places in terms: what stands there, and the whole with something else there.
use Rattle.std.specs.Prelude.{List, [], ◌∷◌, ◌++◌, fold, Option, Some, None}
use Rattle.spv_logic.specs.declared.names.names.Symbol.{Symbol}
use Rattle.spv_logic.specs.declared.types.TypeId.{TypeId}
use Rattle.spv_logic.specs.declared.operators.Head.{Head}
use Rattle.spv_logic.specs.declared.operators.Head.TheVariants as head
use Rattle.spv_logic.specs.Terms.{Term}
use Rattle.spv_program.specs.Terms.{alone, unary, binary, ternary}

-- a step into a structure: to an array's element, or to a record's field
pub data Step : Type 0 where
  ToElement : Term → Step
  ToField : Symbol → Step

-- a place: the variable or class that it is in, the pointer to its cell where it is in a class, and the steps from there
pub record Target : Type 0 where
  pub root : Head
  pub pointer : Option Term
  pub path : List Step

abbrev pub part : Term → Step → Term
part s (ToElement i) = binary head.Select s i
part s (ToField f) = unary (head.Field f) s

-- what stands behind the steps
abbrev pub part_behind : Term → List Step → Term
part_behind s path = fold part s path

-- a structure with something else behind the steps
abbrev pub changed_part : Term → List Step → Term → Term
changed_part s [] v = v
changed_part s (ToElement i ∷ path) v = ternary head.Store s i (changed_part (part s (ToElement i)) path v)
changed_part s (ToField f ∷ path) v = binary (head.Put f) s (changed_part (part s (ToField f)) path v)

-- the variable, or the content of the cell, that the steps begin at
abbrev pub base : Head → Option Term → Term
base root None = alone root
base root (Some q) = binary head.Cell (alone root) q

-- what stands at a place now
abbrev pub present : Target → Term
present d = part_behind (base d.root d.pointer) d.path

abbrev pub in_root : Head → Option Term → Term → Term
in_root root None v = v
in_root root (Some q) v = ternary head.SetCell (alone root) q v

-- the place's variable or class as a whole, with something else at the place
abbrev pub whole_with : Target → Term → Term
whole_with d v = in_root d.root d.pointer (changed_part (base d.root d.pointer) d.path v)

-- ---- steps further

abbrev pub further : Step → Target → Target
further s d = record { root = d.root; pointer = d.pointer; path = d.path ++ s ∷ [] }

-- the cell that a pointer leads to
abbrev pub cell_behind : TypeId → Term → Target
cell_behind t q = record { root = head.ClassVar t 0; pointer = Some q; path = [] }
