-- The greatest numbers of variables and classes in an arena.
use Rattle.std.specs.Prelude.{ℕ, suc, ◌≤◌, max, List, [], ◌∷◌, length, nat_eq, if◌then◌else◌}
use Rattle.spv_logic.specs.declared.names.names.Symbol.{Symbol}
use Rattle.spv_logic.specs.declared.types.TypeId.{TypeId}
use Rattle.spv_logic.specs.declared.types.Sort.{Sort}
use Rattle.spv_logic.specs.declared.types.Sort.TheVariants as sort
use Rattle.spv_logic.specs.declared.operators.Head.{Head}
use Rattle.spv_logic.specs.declared.operators.Head.TheVariants as head
use Rattle.spv_term.specs.declared.nodes.Node.{Node}
use Rattle.spv_term.specs.Arena.{Arena}

-- the number of a variable of this name, of whatever sort; 0 of another head
abbrev pub number_of_name : Symbol → Head → ℕ
number_of_name x (head.Var y s n) = if nat_eq x.0 y.0 then n else 0
number_of_name x _ = 0

-- the number of a class of this type; 0 of another head
abbrev pub number_of_class : TypeId → Head → ℕ
number_of_class t (head.ClassVar u n) = if nat_eq t.0 u.0 then n else 0
number_of_class t _ = 0

-- the number that counts for a fresh one of this name and sort
abbrev pub number_for : Symbol → Sort → Head → ℕ
number_for x (sort.Class t) h = number_of_class t h
number_for x _ h = number_of_name x h

-- the greatest of them; 0 where there is none
abbrev pub greatest : Symbol → Sort → List Node → ℕ
greatest x s [] = 0
greatest x s (n ∷ nodes) = max (number_for x s n.head) (greatest x s nodes)

-- the variable or class of this name, sort and number
abbrev pub numbered : Symbol → Sort → ℕ → Head
numbered x (sort.Class t) n = head.ClassVar t n
numbered x s n = head.Var x s n

-- the one whose number is one more than the greatest
abbrev pub fresh_head : Symbol → Sort → List Node → Head
fresh_head x s nodes = numbered x s (suc (greatest x s nodes))

-- no number is above the number of terms, as where each was taken by a term of its own
pub record HasFewNumbers (a : Arena) : Type 0 where
  pub few : (x : Symbol) (s : Sort) → greatest x s a.nodes ≤ length a.nodes
