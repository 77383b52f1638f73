-- How many splits trees that stand in a row have.
use Rattle.std.proofs.Common.{◌≡◌, ℕ, zero, suc, ◌+◌, List, [], ◌∷◌, take, drop, refl, ap, arith}
use Rattle.spv_models.specs.split_trees.Trees.{Tree, splits, splits_all}
use Rattle.spv_verdicts.specs.answers.Nodes.{joined}

abbrev pub splits_in : List Tree → ℕ
splits_in [] = zero
splits_in (t ∷ ts) = splits t + splits_in ts

joined_splits : (ts : List Tree) → splits_all (joined ts) ≡ splits_in ts
joined_splits [] = refl
joined_splits (t ∷ ts) = ap (λ k. splits t + k) (joined_splits ts)

cut_splits : (k : ℕ) (ts : List Tree) → splits_in (take k ts) + splits_in (drop k ts) ≡ splits_in ts
cut_splits zero [] = refl
cut_splits zero (t ∷ ts) = sum_of_none (splits_in (t ∷ ts))
  where
    sum_of_none : (n : ℕ) → zero + n ≡ n
    sum_of_none n = omega arith
cut_splits (suc k) [] = refl
cut_splits (suc k) (t ∷ ts) = grouped (splits t) (splits_in (take k ts)) (splits_in (drop k ts)) (splits_in ts) (cut_splits k ts)
  where
    grouped : (a b c d : ℕ) → b + c ≡ d → (a + b) + c ≡ a + d
    grouped a b c d e = omega (arith, e)

-- a split of the first trees, and those behind them, where all of them have so many
pub one_split_more : (k : ℕ) (ts : List Tree) (count : ℕ) → splits_in ts ≡ count → suc (splits_all (joined (take k ts))) + splits_in (drop k ts) ≡ 1 + count
one_split_more k ts count e = one_more (splits_all (joined (take k ts))) (splits_in (take k ts)) (splits_in (drop k ts)) (splits_in ts) count (joined_splits (take k ts)) (cut_splits k ts) e
  where
    one_more : (j a b c d : ℕ) → j ≡ a → a + b ≡ c → c ≡ d → suc j + b ≡ 1 + d
    one_more j a b c d e f g = omega (arith, e, f, g)
