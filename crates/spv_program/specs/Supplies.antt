-- Fresh variables: each has a name and a number that no earlier one of that name has.
use Rattle.std.specs.Prelude.{ℕ, suc, if◌then◌else◌}
use Rattle.spv_logic.specs.declared.names.names.Symbol.{Symbol}
use Rattle.spv_logic.specs.declared.types.TypeId.{TypeId}
use Rattle.spv_logic.specs.declared.types.Sort.{Sort}
use Rattle.spv_logic.specs.declared.operators.Head.{Head}
use Rattle.spv_logic.specs.declared.operators.Head.TheVariants as head
use Rattle.spv_program.specs.Lists.{same_name}
use Rattle.spv_program.specs.Types.{same_type}

-- the last number that was taken of each name and of each class; 0 where none was
pub record Supply : Type 0 where
  pub names : Symbol → ℕ
  pub classes : TypeId → ℕ

abbrev pub full_supply : Supply
full_supply = record { names = λ x. 0; classes = λ t. 0 }

-- the supply after one more variable of a name, or one more class, was taken
abbrev pub without_name : Symbol → Supply → Supply
without_name x n = record { names = λ y. if same_name x y then suc (n.names y) else n.names y; classes = n.classes }

abbrev pub without_class : TypeId → Supply → Supply
without_class t n = record { names = n.names; classes = λ u. if same_type t u then suc (n.classes u) else n.classes u }

-- a head that was taken, and the supply that is left
pub record Fresh : Type 0 where
  pub head : Head
  pub supply : Supply

abbrev pub fresh_variable : Symbol → Sort → Supply → Fresh
fresh_variable x s n = record { head = head.Var x s (suc (n.names x)); supply = without_name x n }

abbrev pub fresh_class : TypeId → Supply → Fresh
fresh_class t n = record { head = head.ClassVar t (suc (n.classes t)); supply = without_class t n }

-- a fresh one of the same name as a variable or class
abbrev pub fresh_like : Head → Supply → Fresh
fresh_like (head.Var x s m) n = fresh_variable x s n
fresh_like (head.ClassVar t m) n = fresh_class t n
fresh_like h n = record { head = h; supply = n }
