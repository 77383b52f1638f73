-- Going round a class to the next term of a kind.
use Rattle.std.specs.Prelude.{◌≡◌, ℕ, zero, suc, Bool, true, false, List, Option, Some, None, slice_get, if◌then◌else◌}
use Rattle.spv_logic.specs.declared.conditions.TermId.{TermId}
use Rattle.spv_logic.specs.declared.operators.Head.{Head}
use Rattle.spv_logic.specs.declared.operators.Head.TheVariants.{Num, True, False}
use Rattle.spv_term.specs.declared.nodes.Node.{Node}
use Rattle.spv_union_find.specs.declared.classes.joins.Join.{Join}
use Rattle.spv_union_find.specs.classes.Classes.{next, size}
use Rattle.spv_congruence.specs.Graph.{HasNode, label_of}
use Rattle.spv_congruence.specs.Keep.{Kept}
use Rattle.spv_congruence.specs.Clashes.{opposed}

-- whether two heads are two numerals or two truth values
abbrev pub comparable : Head → Head → Bool
comparable (Num x) (Num y) = true
comparable True True = true
comparable True False = true
comparable False True = true
comparable False False = true
comparable _ _ = false

-- whether there is a node here whose head is comparable with a head, and whether it is opposed to it
abbrev pub comparable_with : Head → Option (Option Node) → Bool
comparable_with h None = false
comparable_with h (Some None) = false
comparable_with h (Some (Some n)) = comparable h n.head

abbrev pub opposed_to : Head → Option (Option Node) → Bool
opposed_to h None = false
opposed_to h (Some None) = false
opposed_to h (Some (Some n)) = opposed h n.head

-- the number that is reached by so many steps round the ring
abbrev pub around : List Join → ℕ → ℕ → ℕ
around joins x zero = x
around joins x (suc n) = around joins (next joins x) n

-- the first number behind another one, within so many steps, that meets a test
abbrev pub first_behind : (ℕ → Bool) → List Join → ℕ → ℕ → Option ℕ
first_behind p joins x zero = None
first_behind p joins x (suc n) = if p (next joins x) then Some (next joins x) else first_behind p joins (next joins x) n

-- the first term behind a term, round its class, that is comparable with it
abbrev pub next_comparable : Kept → TermId → Head → Option ℕ
next_comparable k s h = first_behind (λ x. comparable_with h (slice_get k.nodes x)) k.classes.joins s.0 (size k.classes.joins (label_of k.classes.joins s))

-- it is not opposed to it
pub record AgreesBehind (k : Kept) (s : TermId) : Type 0 where
  pub agrees : (m : Node) → HasNode k.nodes s m → comparable m.head m.head ≡ true → (x : ℕ) → next_comparable k s m.head ≡ Some x → opposed_to m.head (slice_get k.nodes x) ≡ false
