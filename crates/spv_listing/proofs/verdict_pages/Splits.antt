-- How many splits a tree has is how many there are among its nodes.
use Rattle.std.proofs.Common.{◌≡◌, ℕ, zero, ◌+◌, true, Option, Result, Ok, Err, OnOk, List, [], ◌∷◌, ◌++◌, length, codes, decimal, refl, sym, ap, ◌∙◌, subst, arith}
use Rattle.std.specs.Prelude.{cond}
use Rattle.std.proofs.lemmas.List.Sums.{sum_by-cons}
use Rattle.spv_logic.specs.declared.names.names.Symbol.{Symbol}
use Rattle.spv_logic.specs.declared.conditions.TermId.{TermId}
use Rattle.spv_logic.specs.Terms.{Term}
use Rattle.spv_term.specs.Arena.{Arena, tree}
use Rattle.spv_models.specs.split_trees.Trees.{Tree, splits}
use Rattle.spv_verdicts.specs.declared.answers.trees.SplitNode.{SplitNode}
use Rattle.spv_verdicts.specs.declared.answers.trees.SplitNode.TheVariants as node
use Rattle.spv_verdicts.specs.declared.answers.verdicts.Limit.{Limit}
use Rattle.spv_verdicts.specs.declared.answers.verdicts.Limit.TheVariants as limit
use Rattle.spv_verdicts.specs.Verdicts.{Round}
use Rattle.spv_verdicts.specs.answers.Nodes.{is_split_tree, trees_at, first_tree, tree_at}
use Rattle.spv_verdicts.specs.answers.Views.{limit_in}
use Rattle.spv_verdicts.proofs.answers.OneTree.{one_tree}
use Rattle.spv_verdicts.proofs.answers.SplitCounts.{splits_in, one_split_more}
use Rattle.spv_listing.specs.verdict_pages.Counting.{is_split, split_count}
use Rattle.spv_listing.specs.verdict_pages.VerdictLines.{limit_text}

-- 1 for a split, 0 for each other node
abbrev weight : SplitNode → ℕ
weight n = cond (is_split n) 1 0

counted : (at : TermId → Term) (nodes : List SplitNode) → splits_in (trees_at at nodes) ≡ split_count nodes
counted at [] = refl
counted at (node.Open ∷ nodes) = ap (λ k. zero + k) (counted at nodes) ∙ sym (sum_by-cons weight node.Open nodes)
counted at (node.Closed steps ∷ nodes) = ap (λ k. zero + k) (counted at nodes) ∙ sym (sum_by-cons weight (node.Closed steps) nodes)
counted at (node.Split t parts ∷ nodes) =
    one_split_more (length parts) (trees_at at nodes) (split_count nodes) (counted at nodes) ∙ sym (sum_by-cons weight (node.Split t parts) nodes)

single : (ts : List Tree) → length ts ≡ 1 → splits (first_tree ts) ≡ splits_in ts
single [] e = absurd (omega (arith, e))
single (t ∷ []) e = plain (splits t)
  where
    plain : (n : ℕ) → n ≡ n + zero
    plain n = omega arith
single (t ∷ u ∷ ts) e = absurd (omega (arith, e))

pub splits_counted : (at : TermId → Term) (n : ℕ) (nodes tree_nodes : List SplitNode) → n ≡ split_count nodes → nodes ≡ tree_nodes → is_split_tree nodes ≡ true → n ≡ splits (tree_at at tree_nodes)
splits_counted at n nodes tree_nodes count same is =
    count ∙ sym (counted at nodes) ∙ sym (single (trees_at at nodes) (one_tree at nodes is)) ∙ ap (λ ns. splits (tree_at at ns)) same

-- what is said of the tree of nodes over any terms is said of it over those of an arena
pub split_limit : {T F : Type 0} (names : List (List ℕ)) (titles : List (Option Symbol)) (rounds : List Round) (a : Arena) (l : Limit) (nodes : List SplitNode) (r : Result T F) (old new : List ℕ)
    → l ≡ limit.Splits nodes → ((at : TermId → Term) → OnOk r (new ≡ old ++ (codes "SPLITS " ++ decimal (splits (tree_at at nodes)))))
    → OnOk r (new ≡ old ++ limit_text names titles rounds (limit_in a l))
split_limit names titles rounds a l nodes r old new is says = subst (λ m. OnOk r (new ≡ old ++ limit_text names titles rounds (limit_in a m))) (sym is) (says (tree a))

pub on_ok : {T F : Type 0} (r : Result T F) {P Q : Type 0} → OnOk r P → (P → Q) → OnOk r Q
on_ok (Ok t) p next = next p
on_ok (Err e) p next = tt
