-- The numbers that were taken, and the supply that is left.
use Rattle.std.specs.Prelude.{◌≡◌, ℕ, ◌<◌, ◌≤◌, List, length}
use Rattle.std.specs.Map.{lookup}
use Rattle.std.specs.Option.{unwrap_or}
use Rattle.spv_logic.specs.declared.names.names.Symbol.{Symbol}
use Rattle.spv_logic.specs.declared.conditions.TermId.{TermId}
use Rattle.spv_logic.specs.declared.types.TypeId.{TypeId}
use Rattle.spv_logic.specs.declared.types.Sort.{Sort}
use Rattle.spv_logic.specs.declared.operators.Head.TheVariants as head
use Rattle.spv_term.specs.Arena.{Arena, tree}
use Rattle.spv_term.specs.substitution.Images.{head_at}
use Rattle.spv_program.specs.Lists.{same_name}
use Rattle.spv_program.specs.Types.{same_type}
use Rattle.spv_program.specs.Supplies.{Supply, Fresh}
use Rattle.spv_program.specs.Terms.{alone}

-- the last number that was taken of each name and of each class, where one was
pub record Taken : Type 0 where
  pub names : List (Symbol × ℕ)
  pub classes : List (TypeId × ℕ)

abbrev pub last_of_name : List (Symbol × ℕ) → Symbol → ℕ
last_of_name names x = unwrap_or (lookup (same_name x) names) 0

abbrev pub last_of_class : List (TypeId × ℕ) → TypeId → ℕ
last_of_class classes t = unwrap_or (lookup (same_type t) classes) 0

-- the supply that is left
abbrev pub supply_of : Taken → Supply
supply_of s = record { names = last_of_name s.names; classes = last_of_class s.classes }

-- a term is the fresh one, and its number was taken
pub record IsFresh (a : Arena) (t : TermId) (s : Taken) (f : Fresh) : Type 0 where
  pub there : t.0 < length a.nodes
  pub is_tree : tree a t ≡ alone f.head
  pub supply : supply_of s ≡ f.supply

-- ---- each number has a term

pub record HasVariable (a : Arena) (x : Symbol) (k : ℕ) : Type 0 where
  pub id : TermId
  pub of_sort : Sort
  pub there : id.0 < length a.nodes
  pub is_head : head_at a id ≡ head.Var x of_sort k

pub record HasClass (a : Arena) (t : TypeId) (k : ℕ) : Type 0 where
  pub id : TermId
  pub there : id.0 < length a.nodes
  pub is_head : head_at a id ≡ head.ClassVar t k

-- each number that was taken is that of a term
pub record AreThere (a : Arena) (n : Supply) : Type 0 where
  pub names : (x : Symbol) (k : ℕ) → 0 < k → k ≤ n.names x → HasVariable a x k
  pub classes : (t : TypeId) (k : ℕ) → 0 < k → k ≤ n.classes t → HasClass a t k
