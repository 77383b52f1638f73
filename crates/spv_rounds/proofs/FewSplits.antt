-- A tree that is kept with facts of schemas at hand, or under rules, splits on each atom at most once on a path: it has few splits.
use Rattle.std.proofs.Common.{◌≡◌, ℕ, suc, ◌^◌, ◌<◌, Bool, true, false, cond, ◌&&◌, nat_le, not, List, [], ◌∷◌, ◌++◌, length, Option, Some, None, refl, ap, ◌∙◌, subst}
use Rattle.std.specs.Cmp.Derive.{both_true}
use Rattle.spv_logic.specs.Terms.{Term}
use Rattle.spv_proof_rules.specs.Evaluation.{sides}
use Rattle.spv_proof_rules.specs.Effects.{Question, is_number}
use Rattle.spv_proof_rules.specs.Accepted.{two_cases, three_cases, cases_by_sides, cases_of}
use Rattle.spv_models.specs.split_trees.Trees.{Tree, Trees, Open, Closed, Split, no_trees, trees, count, splits_once, each_once}
use Rattle.spv_models.specs.split_trees.Paths.{atoms}
use Rattle.spv_models.proofs.split_trees.Counting.{few-splits}
use Rattle.spv_verdicts.specs.Schemas.{MaySplitOn, StandsOn, PartsStandOn, IsKeptOn, enlarged}
use Rattle.spv_rounds.specs.Claims.{claim}
use Rattle.spv_rounds.specs.Right.{StandsUnder, PartsStandUnder, IsKeptUnder}

most_cases : (q : Question) (t : Term) → nat_le (length (cases_of q t)) 3 ≡ true
most_cases q t = by_sides (sides t)
  where
    by_number : (st : Term × Term) (b : Bool) → nat_le (length (cond b (three_cases st) (two_cases t))) 3 ≡ true
    by_number st true = refl
    by_number st false = refl

    by_sides : (o : Option (Term × Term)) → nat_le (length (cases_by_sides (is_number q) o t)) 3 ≡ true
    by_sides None = refl
    by_sides (Some st) = by_number st (is_number q st.0 && is_number q st.1)

-- one split more
split-once : (q e : Question) (cases above : List Term) (t : Term) (parts : Trees) → MaySplitOn q cases above t → count parts ≡ length (cases_of e t) → each_once (atoms (enlarged q)) (t ∷ above) parts ≡ true
    → splits_once (atoms (enlarged q)) above (Split t parts) ≡ true
split-once q e cases above t parts m n each =
    both_true m.is_atom (both_true (ap not m.is_new) (both_true (ap (λ k. nat_le k 3) n ∙ most_cases e t) each))

-- ---- with facts of schemas

as-many : (q : Question) (cases above fs : List Term) (parts : Trees) → PartsStandOn q cases above fs parts → count parts ≡ length fs
as-many q cases above [] no_trees h = refl
as-many q cases above [] (trees part parts) h = absurd h
as-many q cases above (f ∷ fs) no_trees h = absurd h
as-many q cases above (f ∷ fs) (trees part parts) h = ap suc (as-many q cases above fs parts h.1)

mutual
  stands-once : (q : Question) (cases above : List Term) (tree : Tree) → StandsOn q cases above tree → splits_once (atoms (enlarged q)) above tree ≡ true
  stands-once q cases above Open h = refl
  stands-once q cases above (Closed steps) h = refl
  stands-once q cases above (Split t parts) h =
      split-once q q cases above t parts h.0 (as-many q cases (t ∷ above) (cases_of q t) parts h.1) (parts-once q cases (t ∷ above) (cases_of q t) parts h.1)

  parts-once : (q : Question) (cases above fs : List Term) (parts : Trees) → PartsStandOn q cases above fs parts → each_once (atoms (enlarged q)) above parts ≡ true
  parts-once q cases above [] no_trees h = refl
  parts-once q cases above [] (trees part parts) h = absurd h
  parts-once q cases above (f ∷ fs) no_trees h = absurd h
  parts-once q cases above (f ∷ fs) (trees part parts) h = both_true (stands-once q (cases ++ f ∷ []) above part h.0) (parts-once q cases above fs parts h.1)

pub few-with : (q : Question) (limit : ℕ) (tree : Tree) → IsKeptOn q limit tree → limit < 3 ^ length (atoms (enlarged q))
few-with q limit tree k = subst (λ n. n < 3 ^ length (atoms (enlarged q))) k.so_many (few-splits (atoms (enlarged q)) tree (stands-once q [] [] tree k.stands))

-- ---- under rules

as-many-under : (q : Question) (fs cases above cs : List Term) (parts : Trees) → PartsStandUnder q fs cases above cs parts → count parts ≡ length cs
as-many-under q fs cases above [] no_trees h = refl
as-many-under q fs cases above [] (trees part parts) h = absurd h
as-many-under q fs cases above (c ∷ cs) no_trees h = absurd h
as-many-under q fs cases above (c ∷ cs) (trees part parts) h = ap suc (as-many-under q fs cases above cs parts h.1)

mutual
  stands-once-under : (q : Question) (fs cases above : List Term) (tree : Tree) → StandsUnder q fs cases above tree → splits_once (atoms (enlarged (claim q fs))) above tree ≡ true
  stands-once-under q fs cases above Open h = refl
  stands-once-under q fs cases above (Closed steps) h = refl
  stands-once-under q fs cases above (Split t parts) h =
      split-once (claim q fs) q cases above t parts h.0 (as-many-under q fs cases (t ∷ above) (cases_of q t) parts h.1) (parts-once-under q fs cases (t ∷ above) (cases_of q t) parts h.1)

  parts-once-under : (q : Question) (fs cases above cs : List Term) (parts : Trees) → PartsStandUnder q fs cases above cs parts → each_once (atoms (enlarged (claim q fs))) above parts ≡ true
  parts-once-under q fs cases above [] no_trees h = refl
  parts-once-under q fs cases above [] (trees part parts) h = absurd h
  parts-once-under q fs cases above (c ∷ cs) no_trees h = absurd h
  parts-once-under q fs cases above (c ∷ cs) (trees part parts) h =
      both_true (stands-once-under q fs (cases ++ c ∷ []) above part h.0) (parts-once-under q fs cases above cs parts h.1)

pub few-under : (q : Question) (fs : List Term) (limit : ℕ) (tree : Tree) → IsKeptUnder q fs limit tree → limit < 3 ^ length (atoms (enlarged (claim q fs)))
few-under q fs limit tree k =
    subst (λ n. n < 3 ^ length (atoms (enlarged (claim q fs)))) k.so_many (few-splits (atoms (enlarged (claim q fs))) tree (stands-once-under q fs [] [] tree k.stands))
