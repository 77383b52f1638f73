-- A tree with an open path is kept; one without is a proof.
use Rattle.std.proofs.Common.{◌≡◌, ℕ, zero, suc, ◌+◌, Bool, true, false, ◌||◌, List, [], ◌∷◌, ◌++◌, take, drop, refl, sym, ap, ◌∙◌, subst, arith}
use Rattle.std.proofs.Math.Bool.{or_assoc}
use Rattle.std.proofs.lemmas.Bool.{false≢true}
use Rattle.spv_logic.proofs.list.Tests.{left_false, right_false}
use Rattle.spv_logic.specs.declared.conditions.TermId.{TermId}
use Rattle.spv_logic.specs.Terms.{Term}
use Rattle.spv_atoms.specs.Atoms.{is_atom}
use Rattle.spv_proof_rules.specs.Effects.{Question, is_truth}
use Rattle.spv_proof_rules.specs.Accepted.{accepts, cases_of}
use Rattle.spv_models.specs.leaf_models.Laws.{AreFormulas}
use Rattle.spv_models.specs.leaf_models.Subterms.{is_among}
use Rattle.spv_models.specs.leaf_models.Tables.{formulas_of}
use Rattle.spv_models.proofs.leaf_models.Covering.{atoms-are}
use Rattle.spv_models.specs.split_trees.Trees.{Tree, Trees, Open, Closed, Split, no_trees, trees, splits, splits_all, has_open, some_open as open_in}
use Rattle.spv_models.specs.split_trees.Paths.{atoms}
use Rattle.spv_models.specs.split_trees.Kept.{Stands, PartsStand, IsKept}
use Rattle.spv_verdicts.specs.declared.answers.growing.Grown.{Grown}
use Rattle.spv_verdicts.specs.declared.answers.growing.Grown.TheVariants as grown
use Rattle.spv_verdicts.specs.declared.answers.trees.SplitNode.{SplitNode}
use Rattle.spv_verdicts.specs.answers.Nodes.{is_split_tree, joined, first_tree, tree_at, proof_nodes}
use Rattle.spv_verdicts.specs.answers.Growing.{grown_trees, grown_at}
use Rattle.spv_verdicts.specs.answers.Laws.{AllClosed, PartsClosed}
use Rattle.spv_verdicts.proofs.answers.ClosedTrees.{closed_accepted}
use Rattle.spv_verdicts.proofs.answers.SplitCounts.{splits_in, one_split_more}
use Rattle.spv_search.specs.branches.Branches.{root, Comes}
use Rattle.spv_search.specs.branches.Counts.{some_open, split_count}
use Rattle.spv_search.proofs.branches.Coming.{BranchesStand, all_stand, stands}

-- ---- splits

pub splits-counted : (at : TermId → Term) (nodes : List Grown) → splits_in (grown_trees at nodes) ≡ split_count nodes
splits-counted at [] = refl
splits-counted at (grown.Open ∷ nodes) = ap (λ k. zero + k) (splits-counted at nodes)
splits-counted at (grown.Closed steps ∷ nodes) = ap (λ k. zero + k) (splits-counted at nodes)
splits-counted at (grown.Split t count ∷ nodes) = one_split_more count (grown_trees at nodes) (split_count nodes) (splits-counted at nodes)

-- ---- open paths

abbrev some_in : List Tree → Bool
some_in [] = false
some_in (t ∷ ts) = has_open t || some_in ts

joined_open : (ts : List Tree) → open_in (joined ts) ≡ some_in ts
joined_open [] = refl
joined_open (t ∷ ts) = ap (λ b. has_open t || b) (joined_open ts)

cut_open : (k : ℕ) (ts : List Tree) → (some_in (take k ts) || some_in (drop k ts)) ≡ some_in ts
cut_open zero [] = refl
cut_open zero (t ∷ ts) = refl
cut_open (suc k) [] = refl
cut_open (suc k) (t ∷ ts) = or_assoc (has_open t) (some_in (take k ts)) (some_in (drop k ts)) ∙ ap (λ b. has_open t || b) (cut_open k ts)

pub open-counted : (at : TermId → Term) (nodes : List Grown) → some_in (grown_trees at nodes) ≡ some_open nodes
open-counted at [] = refl
open-counted at (grown.Open ∷ nodes) = refl
open-counted at (grown.Closed steps ∷ nodes) = open-counted at nodes
open-counted at (grown.Split t count ∷ nodes) =
    ap (λ b. b || some_in (drop count (grown_trees at nodes))) (joined_open (take count (grown_trees at nodes))) ∙ (cut_open count (grown_trees at nodes) ∙ open-counted at nodes)

-- ---- one tree

-- what is counted over the trees of a list of one is counted over its tree
record CountsAreOf (ts : List Tree) : Type 0 where
  splits_are : splits (first_tree ts) ≡ splits_in ts
  open_is : has_open (first_tree ts) ≡ some_in ts

one_tree : (q : Question) (ts : List Tree) → BranchesStand q (root ∷ []) ts → CountsAreOf ts
one_tree q [] h = absurd h
one_tree q (t ∷ u ∷ ts) h = absurd h.1
one_tree q (t ∷ []) h = record { splits_are = plain (splits t); open_is = or_none (has_open t) }
  where
    plain : (n : ℕ) → n ≡ n + zero
    plain n = omega arith

    or_none : (b : Bool) → b ≡ (b || false)
    or_none true = refl
    or_none false = refl

counts : (q : Question) (nodes : List Grown) → Comes q (root ∷ []) nodes [] → CountsAreOf (grown_trees q.at nodes)
counts q nodes h = one_tree q (grown_trees q.at nodes) (all_stand q (root ∷ []) nodes h)

pub splits-are : (q : Question) (nodes : List Grown) → Comes q (root ∷ []) nodes [] → splits (grown_at q.at nodes) ≡ split_count nodes
splits-are q nodes h = (counts q nodes h).splits_are ∙ splits-counted q.at nodes

pub open-is : (q : Question) (nodes : List Grown) → Comes q (root ∷ []) nodes [] → has_open (grown_at q.at nodes) ≡ some_open nodes
open-is q nodes h = (counts q nodes h).open_is ∙ open-counted q.at nodes

pub kept : (q : Question) (limit : ℕ) (nodes : List Grown) → Comes q (root ∷ []) nodes [] → split_count nodes ≡ limit → some_open nodes ≡ true → IsKept q limit (grown_at q.at nodes)
kept q limit nodes h e o = record { stands = stands q nodes h; so_many = splits-are q nodes h ∙ e; one_open = open-is q nodes h ∙ o }

-- ---- closed paths

abbrev AreAtoms : Question → Type 0
AreAtoms q = (t : Term) → is_among (atoms q) t ≡ true → is_atom (is_truth q) t ≡ true

mutual
  closed_tree : (q : Question) → AreAtoms q → (cases above : List Term) (tree : Tree) → Stands q cases above tree → has_open tree ≡ false → AllClosed q cases tree
  closed_tree q are cases above Open h o = absurd (false≢true (sym o))
  closed_tree q are cases above (Closed steps) h o = h
  closed_tree q are cases above (Split t parts) h o = (are t h.0.is_atom, closed_parts q are cases (t ∷ above) (cases_of q t) parts h.1 o)

  closed_parts : (q : Question) → AreAtoms q → (cases above fs : List Term) (parts : Trees) → PartsStand q cases above fs parts → open_in parts ≡ false → PartsClosed q cases fs parts
  closed_parts q are cases above [] no_trees h o = tt
  closed_parts q are cases above [] (trees part parts) h o = absurd h
  closed_parts q are cases above (f ∷ fs) no_trees h o = absurd h
  closed_parts q are cases above (f ∷ fs) (trees part parts) h o =
      (closed_tree q are (cases ++ f ∷ []) above part h.0 (left_false (has_open part) (open_in parts) o), closed_parts q are cases above fs parts h.1 (right_false (has_open part) (open_in parts) o))

pub closed : (q : Question) (nodes : List Grown) → AreFormulas q.shapes q.decls (formulas_of q.sequent) → Comes q (root ∷ []) nodes [] → some_open nodes ≡ false → AllClosed q [] (grown_at q.at nodes)
closed q nodes formulas h o = closed_tree q (atoms-are q.shapes q.decls (formulas_of q.sequent) formulas) [] [] (grown_at q.at nodes) (stands q nodes h) (open-is q nodes h ∙ o)

pub proof : (q : Question) (nodes : List Grown) (tree : List SplitNode) → AreFormulas q.shapes q.decls (formulas_of q.sequent) → Comes q (root ∷ []) nodes [] → some_open nodes ≡ false
    → is_split_tree tree ≡ true → tree_at q.at tree ≡ grown_at q.at nodes → accepts q (proof_nodes tree) ≡ true
proof q nodes tree formulas h o is same = closed_accepted q tree is (subst (λ (t : Tree). AllClosed q [] t) (sym same) (closed q nodes formulas h o))
