-- Trees in which other steps stand where hypotheses were cited: they are kept where the first ones are, and their lists are as those are.
use Rattle.std.proofs.Common.{◌≡◌, ℕ, suc, ◌+◌, true, ◌&&◌, ◌||◌, List, [], ◌∷◌, ◌++◌, map, take, drop, length, refl, sym, ap, ◌∙◌}
use Rattle.std.specs.Prelude.{nat_eq}
use Rattle.std.proofs.lemmas.List.{take-map, drop-map}
use Rattle.spv_logic.specs.declared.conditions.TermId.{TermId}
use Rattle.spv_logic.specs.Terms.{Term}
use Rattle.spv_atoms.specs.declared.proofs.Step.{Step}
use Rattle.spv_proof_rules.specs.Effects.{Question}
use Rattle.spv_proof_rules.specs.Accepted.{cases_of}
use Rattle.spv_models.specs.split_trees.Trees.{Tree, Trees, Open, Closed, Split, no_trees, trees, splits, splits_all, has_open, some_open}
use Rattle.spv_models.specs.split_trees.Kept.{MaySplit, Stands, PartsStand, IsKept}
use Rattle.spv_verdicts.specs.declared.answers.trees.SplitNode.{SplitNode}
use Rattle.spv_verdicts.specs.declared.answers.trees.SplitNode.TheVariants as node
use Rattle.spv_verdicts.specs.answers.Nodes.{parts_of, has_parts, in_order, is_split_tree, joined, trees_at, first_tree, tree_at}
use Rattle.spv_verdicts.specs.Schemas.{enlarged, MaySplitOn, StandsOn, PartsStandOn, IsKeptOn}
use Rattle.spv_verdicts.specs.translation.Exchanged.{Exchanges, exchanged_steps}
use Rattle.spv_verdicts.specs.translation.ExchangedTrees.{exchanged_tree, exchanged_trees, exchanged_split_node, exchanged_split_nodes}
use Rattle.spv_verdicts.proofs.translation.ExchangeLemmas.{walk-exchanged}

-- ---- what stays

mutual
  splits-stay : (table : List Step) (tree : Tree) → splits (exchanged_tree table tree) ≡ splits tree
  splits-stay table Open = refl
  splits-stay table (Closed steps) = refl
  splits-stay table (Split t parts) = ap suc (all-splits-stay table parts)

  all-splits-stay : (table : List Step) (parts : Trees) → splits_all (exchanged_trees table parts) ≡ splits_all parts
  all-splits-stay table no_trees = refl
  all-splits-stay table (trees part parts) = ap (λ n. n + splits_all (exchanged_trees table parts)) (splits-stay table part) ∙ ap (λ n. splits part + n) (all-splits-stay table parts)

mutual
  open-stays : (table : List Step) (tree : Tree) → has_open (exchanged_tree table tree) ≡ has_open tree
  open-stays table Open = refl
  open-stays table (Closed steps) = refl
  open-stays table (Split t parts) = some-open-stays table parts

  some-open-stays : (table : List Step) (parts : Trees) → some_open (exchanged_trees table parts) ≡ some_open parts
  some-open-stays table no_trees = refl
  some-open-stays table (trees part parts) = ap (λ b. b || some_open (exchanged_trees table parts)) (open-stays table part) ∙ ap (λ b. has_open part || b) (some-open-stays table parts)

-- ---- kept trees

may-split : (q : Question) (cases above : List Term) (t : Term) → MaySplit (enlarged q) cases above t → MaySplitOn q cases above t
may-split q cases above t m = record { is_atom = m.is_atom; is_new = m.is_new; live = m.live }

module _ (q : Question) (table : List Step) (x : Exchanges (enlarged q) q table) where
  mutual
    stands-on : (cases above : List Term) (tree : Tree) → Stands (enlarged q) cases above tree → StandsOn q cases above (exchanged_tree table tree)
    stands-on cases above Open h = h
    stands-on cases above (Closed steps) h = sym (walk-exchanged (enlarged q) q table x cases steps) ∙ h
    stands-on cases above (Split t parts) h = (may-split q cases above t h.0, parts-stand-on cases (t ∷ above) (cases_of q t) parts h.1)

    parts-stand-on : (cases above fs : List Term) (parts : Trees) → PartsStand (enlarged q) cases above fs parts → PartsStandOn q cases above fs (exchanged_trees table parts)
    parts-stand-on cases above [] no_trees h = tt
    parts-stand-on cases above [] (trees part parts) h = absurd h
    parts-stand-on cases above (f ∷ fs) no_trees h = absurd h
    parts-stand-on cases above (f ∷ fs) (trees part parts) h = (stands-on (cases ++ f ∷ []) above part h.0, parts-stand-on cases above fs parts h.1)

  pub kept-on : (limit : ℕ) (tree : Tree) → IsKept (enlarged q) limit tree → IsKeptOn q limit (exchanged_tree table tree)
  kept-on limit tree k = record {
    stands = stands-on [] [] tree k.stands;
    so_many = splits-stay table tree ∙ k.so_many;
    one_open = open-stays table tree ∙ k.one_open;
  }

-- ---- trees that are lists

joined-exchanged : (table : List Step) (ts : List Tree) → joined (map (exchanged_tree table) ts) ≡ exchanged_trees table (joined ts)
joined-exchanged table [] = refl
joined-exchanged table (t ∷ ts) = ap (trees (exchanged_tree table t)) (joined-exchanged table ts)

first-exchanged : (table : List Step) (ts : List Tree) → first_tree (map (exchanged_tree table) ts) ≡ exchanged_tree table (first_tree ts)
first-exchanged table [] = refl
first-exchanged table (t ∷ ts) = refl

trees-exchanged : (at : TermId → Term) (table : List Step) (nodes : List SplitNode) → trees_at at (exchanged_split_nodes table nodes) ≡ map (exchanged_tree table) (trees_at at nodes)
trees-exchanged at table [] = refl
trees-exchanged at table (node.Open ∷ nodes) = ap (λ ts. Open ∷ ts) (trees-exchanged at table nodes)
trees-exchanged at table (node.Closed steps ∷ nodes) = ap (λ ts. Closed (exchanged_steps table steps) ∷ ts) (trees-exchanged at table nodes)
trees-exchanged at table (node.Split t parts ∷ nodes) =
    let others : List Tree = trees_at at nodes in
    let taken : joined (take (length parts) (map (exchanged_tree table) others)) ≡ exchanged_trees table (joined (take (length parts) others)) =
    ap joined (take-map (exchanged_tree table) (length parts) others) ∙ joined-exchanged table (take (length parts) others) in
    let left : drop (length parts) (map (exchanged_tree table) others) ≡ map (exchanged_tree table) (drop (length parts) others) = drop-map (exchanged_tree table) (length parts) others in
    ap (λ ts. Split (at t) (joined (take (length parts) ts)) ∷ drop (length parts) ts) (trees-exchanged at table nodes) ∙ (λ i. Split (at t) (taken i) ∷ left i)

pub tree-exchanged : (at : TermId → Term) (table : List Step) (nodes : List SplitNode) → tree_at at (exchanged_split_nodes table nodes) ≡ exchanged_tree table (tree_at at nodes)
tree-exchanged at table nodes = ap first_tree (trees-exchanged at table nodes) ∙ first-exchanged table (trees_at at nodes)

parts-stay : (table : List Step) (n : SplitNode) → parts_of (exchanged_split_node table n) ≡ parts_of n
parts-stay table node.Open = refl
parts-stay table (node.Closed steps) = refl
parts-stay table (node.Split t parts) = refl

having-stays : (table : List Step) (n : SplitNode) → has_parts (exchanged_split_node table n) ≡ has_parts n
having-stays table node.Open = refl
having-stays table (node.Closed steps) = refl
having-stays table (node.Split t parts) = refl

order-stays : (table : List Step) (place : ℕ) (wanted : List ℕ) (nodes : List SplitNode) → in_order place wanted (exchanged_split_nodes table nodes) ≡ in_order place wanted nodes
order-stays table place [] [] = refl
order-stays table place [] (n ∷ nodes) = refl
order-stays table place (w ∷ others) [] = refl
order-stays table place (w ∷ others) (n ∷ nodes) =
    ap (λ b. nat_eq w place && (b && in_order (suc place) (parts_of (exchanged_split_node table n) ++ others) (exchanged_split_nodes table nodes))) (having-stays table n)
    ∙ (ap (λ ps. nat_eq w place && (has_parts n && in_order (suc place) (ps ++ others) (exchanged_split_nodes table nodes))) (parts-stay table n)
    ∙ ap (λ b. nat_eq w place && (has_parts n && b)) (order-stays table (suc place) (parts_of n ++ others) nodes))

pub split-tree-stays : (table : List Step) (nodes : List SplitNode) → is_split_tree nodes ≡ true → is_split_tree (exchanged_split_nodes table nodes) ≡ true
split-tree-stays table nodes h = order-stays table 0 (0 ∷ []) nodes ∙ h
