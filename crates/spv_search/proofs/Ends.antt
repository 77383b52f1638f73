-- The end of a search, and its beginning.
use Rattle.std.proofs.Common.{◌≡◌, ℕ, List, [], refl, sym, subst, Option, arith}
use Rattle.std.proofs.lemmas.Bool.{false≢true}
use Rattle.spv_logic.specs.declared.conditions.TermId.{TermId}
use Rattle.spv_term.specs.declared.nodes.Condition.{Condition}
use Rattle.spv_term.specs.Arena.{Arena, tree}
use Rattle.spv_atoms.specs.declared.proofs.ProofNode.{ProofNode}
use Rattle.spv_proof_rules.specs.Stand.{question}
use Rattle.spv_verdicts.specs.Verdicts.{Limits}
use Rattle.spv_models.specs.leaf_models.Laws.{AreFormulas}
use Rattle.spv_models.specs.leaf_models.Tables.{formulas_of}
use Rattle.spv_models.specs.split_trees.Kept.{IsKept}
use Rattle.spv_verdicts.specs.declared.answers.trees.SplitNode.{SplitNode}
use Rattle.spv_verdicts.specs.declared.answers.verdicts.Round.{Round}
use Rattle.spv_verdicts.specs.declared.answers.verdicts.Verdict.TheVariants as verdict
use Rattle.spv_verdicts.specs.declared.answers.verdicts.Limit.TheVariants as limit
use Rattle.spv_verdicts.specs.answers.Nodes.{tree_at}
use Rattle.spv_search.specs.declared.branches.finishing.Finished.TheVariants as finished
use Rattle.spv_search.specs.branches.Ends.{FinishedIn, IsFinished}
use Rattle.spv_search.specs.branches.Growth.{Growth, IsGrowing, IsIn, start}
use Rattle.spv_trail.specs.declared.propagation.ending.End.{End}
use Rattle.spv_trail.specs.declared.backtracking.path.Ground.{Ground}
use Rattle.spv_trail.specs.declared.backtracking.path.BranchTrail.{BranchTrail}
use Rattle.spv_trail.specs.declared.backtracking.marks.TrailMark.{TrailMark}
use Rattle.spv_trail.specs.backtracking.Paths.{IsToldOrEnded}
use Rattle.spv_search.specs.Searching.{IsArrived, IsSetUp, IsWithin}
use Rattle.spv_search.specs.Finding.{IsFound}
use Rattle.spv_search.proofs.NoRules.{given_up}

-- ---- no branch is left

module _ (a : Arena) (c : Condition) (limits : Limits) (s : Growth) (w : IsWithin a c limits s) where
  pub proved : (nodes : List ProofNode) → AreFormulas a.shapes a.decls (formulas_of (question a c).sequent) → IsFinished s (finished.Proved nodes) → FinishedIn a (finished.Proved nodes) → IsFound a c limits (verdict.Proved nodes)
  proved nodes formulas is there = record { terms_in = there; right = is.1 (question a c) w.grows formulas }

  pub gave_up : (nodes : List SplitNode) → IsFinished s (finished.Open nodes) → FinishedIn a (finished.Open nodes) → (rounds : List Round) → rounds ≡ [] → IsFound a c limits (verdict.GaveUp rounds (limit.Splits nodes))
  gave_up nodes is there rounds none =
      given_up a c limits (limit.Splits nodes) there (subst (λ (n : ℕ). IsKept (question a c) n (tree_at (tree a) nodes)) (w.spent is.0) (is.1 (question a c) w.grows)) rounds none

-- ---- the first branch

pub starts : (a : Arena) (c : Condition) (ids : List TermId) (g : Ground) (limits : Limits) (p : BranchTrail) (s : Growth) (ms : List TrailMark) (o : Option End) → s ≡ start → IsGrowing (question a c) s → IsIn a s → ms ≡ []
    → IsSetUp a c ids g limits p.both → IsToldOrEnded a c [] p o → IsArrived a c ids g limits p s ms o
starts a c ids g limits p s ms o same grows there none set told =
    subst (λ (x : Growth). IsArrived a c ids g limits p x ms o) (sym same)
    (record {
      set_up = set;
      within = record {
        grows = subst (IsGrowing (question a c)) same grows;
        terms_in = subst (IsIn a) same there;
        few = omega arith;
        spent = λ e. absurd (false≢true e);
      };
      comes = refl;
      path = told;
      marks = record {
        many = omega arith;
        each = λ i m below at. absurd (omega (arith, below));
        rising = λ i j m n le below at behind. absurd (omega (arith, below));
      };
    })
