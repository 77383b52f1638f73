-- A tree that is kept where all is refuted, without rules, is kept under the rules, where steps of rules stand in the place of what they say.
use Rattle.std.proofs.Common.{◌≡◌, suc, ◌+◌, ◌||◌, List, [], ◌∷◌, ◌++◌, length, refl, sym, ap, ◌∙◌}
use Rattle.spv_logic.specs.Terms.{Term}
use Rattle.spv_atoms.specs.declared.proofs.Step.{Step}
use Rattle.spv_proof_rules.specs.Effects.{Question}
use Rattle.spv_proof_rules.specs.Accepted as accepted
use Rattle.spv_proof_rules.specs.Accepted.{walk, cases_of}
use Rattle.spv_models.specs.split_trees.Trees.{Tree, Trees, Open, Closed, Split, no_trees, trees, splits, splits_all, has_open, some_open}
use Rattle.spv_verdicts.specs.Schemas.{StandsOn, PartsStandOn}
use Rattle.spv_verdicts.specs.translation.Exchanged.{Exchanges}
use Rattle.spv_verdicts.specs.translation.ExchangedTrees.{exchanged_tree, exchanged_trees}
use Rattle.spv_verdicts.specs.translation.Replacements.{replacements}
use Rattle.spv_verdicts.specs.translation.Laws.{ExchangedLeads}
use Rattle.spv_rounds.specs.Claims.{claim}
use Rattle.spv_rounds.specs.Right.{StandsUnder, PartsStandUnder}
use Rattle.spv_rounds.specs.Laws.{KeptUnder}
use Rattle.spv_rounds.proofs.Exchanging.{under, walk-under, exchanges}

-- ---- what stays

mutual
  splits-stay : (table : List Step) (tree : Tree) → splits (exchanged_tree table tree) ≡ splits tree
  splits-stay table Open = refl
  splits-stay table (Closed steps) = refl
  splits-stay table (Split t parts) = ap suc (all-splits-stay table parts)

  all-splits-stay : (table : List Step) (parts : Trees) → splits_all (exchanged_trees table parts) ≡ splits_all parts
  all-splits-stay table no_trees = refl
  all-splits-stay table (trees part parts) = ap (λ n. n + splits_all (exchanged_trees table parts)) (splits-stay table part) ∙ ap (λ n. splits part + n) (all-splits-stay table parts)

mutual
  open-stays : (table : List Step) (tree : Tree) → has_open (exchanged_tree table tree) ≡ has_open tree
  open-stays table Open = refl
  open-stays table (Closed steps) = refl
  open-stays table (Split t parts) = some-open-stays table parts

  some-open-stays : (table : List Step) (parts : Trees) → some_open (exchanged_trees table parts) ≡ some_open parts
  some-open-stays table no_trees = refl
  some-open-stays table (trees part parts) = ap (λ b. b || some_open (exchanged_trees table parts)) (open-stays table part) ∙ ap (λ b. has_open part || b) (some-open-stays table parts)

-- ---- kept trees

module _ (law : ExchangedLeads) (q : Question) (fs : List Term) (table : List Step) (x : Exchanges (under q.rules (claim q fs)) q table) where
  mutual
    stands-under : (cases above : List Term) (tree : Tree) → StandsOn (claim q fs) cases above tree → StandsUnder q fs cases above (exchanged_tree table tree)
    stands-under cases above Open h = h
    stands-under cases above (Closed steps) h =
        sym (law (under q.rules (claim q fs)) q table x cases steps) ∙ walk-under (claim q fs) q.rules cases steps accepted.Closed (λ b. cc) h
    stands-under cases above (Split t parts) h = (h.0, parts-stand-under cases (t ∷ above) (cases_of q t) parts h.1)

    parts-stand-under : (cases above cs : List Term) (parts : Trees) → PartsStandOn (claim q fs) cases above cs parts → PartsStandUnder q fs cases above cs (exchanged_trees table parts)
    parts-stand-under cases above [] no_trees h = tt
    parts-stand-under cases above [] (trees part parts) h = absurd h
    parts-stand-under cases above (c ∷ cs) no_trees h = absurd h
    parts-stand-under cases above (c ∷ cs) (trees part parts) h = (stands-under (cases ++ c ∷ []) above part h.0, parts-stand-under cases above cs parts h.1)

pub kept-under : ExchangedLeads → KeptUnder
kept-under law q fs falsity steps is say limit tree k =
    let table = replacements (length q.sequent.given) falsity steps in
    record {
      stands = stands-under law q fs table (exchanges q fs falsity steps is say) [] [] tree k.stands;
      so_many = splits-stay table tree ∙ k.so_many;
      one_open = open-stays table tree ∙ k.one_open;
    }
