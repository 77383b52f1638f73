-- Nodes that are wanted at some places are as many trees.
use Rattle.std.proofs.Common.{◌≡◌, ℕ, suc, true, ◌&&◌, List, [], ◌∷◌, ◌++◌, take, drop, length, refl, ap, arith}
use Rattle.std.specs.Prelude.{nat_eq}
use Rattle.std.proofs.lemmas.Bool.{false≢true}
use Rattle.std.proofs.lemmas.List.{length-append, length-drop, length-take-le}
use Rattle.spv_logic.proofs.list.Tests.{right_true}
use Rattle.spv_logic.specs.declared.conditions.TermId.{TermId}
use Rattle.spv_logic.specs.Terms.{Term}
use Rattle.spv_models.specs.split_trees.Trees.{Tree}
use Rattle.spv_verdicts.specs.declared.answers.trees.SplitNode.{SplitNode}
use Rattle.spv_verdicts.specs.declared.answers.trees.SplitNode.TheVariants as node
use Rattle.spv_verdicts.specs.answers.Nodes.{parts_of, has_parts, in_order, is_split_tree, trees_at}

-- what is behind the first node
pub behind : (place wanted : ℕ) (others : List ℕ) (n : SplitNode) (nodes : List SplitNode) → in_order place (wanted ∷ others) (n ∷ nodes) ≡ true → in_order (suc place) (parts_of n ++ others) nodes ≡ true
behind place wanted others n nodes h = right_true (has_parts n) (in_order (suc place) (parts_of n ++ others) nodes) (right_true (nat_eq wanted place) (has_parts n && in_order (suc place) (parts_of n ++ others) nodes) h)

-- those that a split takes, and those that it leaves
pub taken : (ts : List Tree) (parts others : List ℕ) → length ts ≡ length (parts ++ others) → length (take (length parts) ts) ≡ length parts
taken ts parts others e = let split = length-append parts others in length-take-le (length parts) ts (omega (arith, e, split))

left : (ts : List Tree) (parts others : List ℕ) → length ts ≡ length (parts ++ others) → length (drop (length parts) ts) ≡ length others
left ts parts others e =
    let split = length-append parts others in
    let rest = length-drop (length parts) ts in
    omega (arith, e, split, rest)

pub as_many : (at : TermId → Term) (place : ℕ) (wanted : List ℕ) (nodes : List SplitNode) → in_order place wanted nodes ≡ true → length (trees_at at nodes) ≡ length wanted
as_many at place [] [] h = refl
as_many at place [] (n ∷ nodes) h = absurd (false≢true h)
as_many at place (w ∷ others) [] h = absurd (false≢true h)
as_many at place (w ∷ others) (node.Open ∷ nodes) h = ap suc (as_many at (suc place) others nodes (behind place w others node.Open nodes h))
as_many at place (w ∷ others) (node.Closed steps ∷ nodes) h = ap suc (as_many at (suc place) others nodes (behind place w others (node.Closed steps) nodes h))
as_many at place (w ∷ others) (node.Split t parts ∷ nodes) h =
    ap suc (left (trees_at at nodes) parts others (as_many at (suc place) (parts ++ others) nodes (behind place w others (node.Split t parts) nodes h)))

pub one_tree : (at : TermId → Term) (nodes : List SplitNode) → is_split_tree nodes ≡ true → length (trees_at at nodes) ≡ 1
one_tree at nodes h = as_many at 0 (0 ∷ []) nodes h
