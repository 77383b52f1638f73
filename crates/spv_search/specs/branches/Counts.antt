-- How many nodes a tree has, and may have.
use Rattle.std.specs.Prelude.{ℕ, zero, suc, ◌+◌, ◌*◌, Bool, true, false, ◌||◌, List, [], ◌∷◌}
use Rattle.spv_logic.specs.Terms.{Term}
use Rattle.spv_proof_rules.specs.Effects.{Question}
use Rattle.spv_models.specs.leaf_models.Subterms.{is_among}
use Rattle.spv_models.specs.split_trees.Paths.{atoms}
use Rattle.spv_verdicts.specs.declared.answers.growing.Grown.{Grown}
use Rattle.spv_verdicts.specs.declared.answers.growing.Grown.TheVariants as grown
use Rattle.spv_search.specs.branches.Branches.{Branch}

-- ---- of nodes

abbrev pub is_open : Grown → Bool
is_open grown.Open = true
is_open (grown.Closed steps) = false
is_open (grown.Split t count) = false

-- whether a node is open
abbrev pub some_open : List Grown → Bool
some_open [] = false
some_open (n ∷ nodes) = is_open n || some_open nodes

abbrev pub splits_of : Grown → ℕ
splits_of grown.Open = 0
splits_of (grown.Closed steps) = 0
splits_of (grown.Split t count) = 1

-- how many nodes are splits
abbrev pub split_count : List Grown → ℕ
split_count [] = 0
split_count (n ∷ nodes) = splits_of n + split_count nodes

-- ---- of trees in place of branches

abbrev pub one_unless : Bool → ℕ → ℕ
one_unless true n = n
one_unless false n = suc n

-- how many of these atoms are not among those that were split on
abbrev pub unsplit : List Term → List Term → ℕ
unsplit above [] = zero
unsplit above (t ∷ ts) = one_unless (is_among above t) (unsplit above ts)

-- 1 + 3 + .. + 3 ^ n: how many nodes a tree has at most that splits on so many atoms, on each at most once on a path
abbrev pub most_nodes : ℕ → ℕ
most_nodes zero = 1
most_nodes (suc n) = suc (3 * most_nodes n)

-- how many nodes trees in place of these branches have at most
abbrev pub room : Question → List Branch → ℕ
room q [] = zero
room q (b ∷ bs) = most_nodes (unsplit b.above (atoms q)) + room q bs
