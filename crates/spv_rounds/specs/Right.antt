-- When each verdict on a condition under rules may come.
use Rattle.std.specs.Prelude.{◌≡◌, ℕ, suc, ◌≤◌, Bool, true, List, [], ◌∷◌, ◌++◌, map, length, Some, Ok, Err, ⊤, slice_get}
use Rattle.spv_whole.specs.Fraction.{Fraction}
use Rattle.spv_logic.specs.Terms.{Term}
use Rattle.spv_term.specs.declared.nodes.Condition.{Condition}
use Rattle.spv_term.specs.Arena.{Arena}
use Rattle.spv_table.specs.declared.operations.WideValue.{WideValue}
use Rattle.spv_table.specs.Values.{holds, listed_in}
use Rattle.spv_proof_rules.specs.Rules.{Rule}
use Rattle.spv_proof_rules.specs.Accepted as accepted
use Rattle.spv_proof_rules.specs.Accepted.{accepts, walk, cases_of}
use Rattle.spv_proof_rules.specs.Effects.{Question}
use Rattle.spv_proof_rules.specs.Stand.{question_under}
use Rattle.spv_models.specs.split_trees.Trees.{Tree, Trees, Open, Closed, Split, no_trees, trees, splits, has_open}
use Rattle.spv_models.specs.split_trees.Paths.{facts, IsLive}
use Rattle.spv_search_terms.specs.condition_copy.Copies.{IsSameClaim}
use Rattle.spv_verdicts.specs.Verdicts.{Limits, Instance, Round, Limit, Splits, TooManyInstances, WideEvaluation, Verdict, Proved, Unproved, GaveUp, NotAccepted, condition_atoms}
use Rattle.spv_verdicts.specs.Schemas.{enlarged, MaySplitOn, IsReachedWith}
use Rattle.spv_verdicts.specs.declared.answers.verdicts.Decided.{Decided}
use Rattle.spv_verdicts.specs.answers.Views.{VerdictIn, verdict_in, IsDecidedWith}
use Rattle.spv_rounds.specs.Claims.{formulas, AllSay, claim, FalsifiesWith}
use Rattle.spv_rounds.specs.Rounds.{matched, called, AreRounds, members_of}

-- ---- unproved

-- a table in which each hypothesis, each fact of a schema and what each instance says is true and the goal is false, and each atom of the
-- condition has its truth; and which calls for no further instance
pub record IsUnprovedUnder (q : Question) (branch : List (Term × Bool)) (table : List (Term × Fraction)) (instances : List Instance) : Type 0 where
  pub say : AllSay q instances
  pub falsifies : FalsifiesWith q instances table
  pub atoms : map (λ p. p.0) branch ≡ condition_atoms q
  pub truths : (i : ℕ) (p : Term × Bool) → slice_get branch i ≡ Some p → holds (listed_in table) p.0 ≡ Ok p.1
  pub no_more : called q instances table ≡ Ok []
  pub rounds : List Round
  pub grown : AreRounds q [] rounds
  pub members : instances ≡ members_of rounds

-- ---- splits

abbrev mutual
  -- a tree stands as where all is refuted together; but the steps that close its paths are those of a proof under the rules
  pub StandsUnder : Question → List Term → List Term → List Term → Tree → Type 0
  StandsUnder q fs cases above Open = IsLive (enlarged (claim q fs)) (facts (enlarged (claim q fs)) cases)
  StandsUnder q fs cases above (Closed steps) = walk q cases steps ≡ accepted.Closed
  StandsUnder q fs cases above (Split t parts) = MaySplitOn (claim q fs) cases above t × PartsStandUnder q fs cases (t ∷ above) (cases_of q t) parts

  pub PartsStandUnder : Question → List Term → List Term → List Term → List Term → Trees → Type 0
  PartsStandUnder q fs cases above [] no_trees = ⊤
  PartsStandUnder q fs cases above (c ∷ cs) (trees part parts) = StandsUnder q fs (cases ++ c ∷ []) above part × PartsStandUnder q fs cases above cs parts
  PartsStandUnder q fs cases above _ _ = ⊥

-- a tree with so many splits, which stands, and has a path that is open
pub record IsKeptUnder (q : Question) (fs : List Term) (limit : ℕ) (tree : Tree) : Type 0 where
  pub stands : StandsUnder q fs [] [] tree
  pub so_many : splits tree ≡ limit
  pub one_open : has_open tree ≡ true

-- ---- values

-- a value that is too wide: met by the search, or by a test of a match in a table in which all is true
pub data HasWideValueUnder (a : Arena) (q : Question) (limits : Limits) (instances : List Instance) (table : List (Term × Fraction)) (t : Term) (w : WideValue) : Type 0 where
  searched : IsReachedWith a (claim q (formulas q instances)) limits (WideEvaluation table t w) → HasWideValueUnder a q limits instances table t w
  in_match : FalsifiesWith q instances table → matched q instances table ≡ Err (t, w) → HasWideValueUnder a q limits instances table t w

-- ---- limits

-- where the rounds added these instances: all is refuted together with what they say, except that closed paths have steps of a proof
abbrev pub IsMetUnder : Arena → Question → Limits → List Instance → Limit → Type 0
IsMetUnder a q limits instances (Splits tree) = IsKeptUnder q (formulas q instances) limits.splits tree
IsMetUnder a q limits instances (WideEvaluation table t w) = HasWideValueUnder a q limits instances table t w
IsMetUnder a q limits instances l = IsReachedWith a (claim q (formulas q instances)) limits l

-- the rounds stop at one instance more than there may be; at another limit there are no more than there may be
abbrev pub IsReachedUnder : Arena → Question → Limits → List Instance → Limit → Type 0
IsReachedUnder a q limits instances TooManyInstances = length instances ≡ suc limits.instances
IsReachedUnder a q limits instances l = (length instances ≤ limits.instances) × IsMetUnder a q limits instances l

-- the rounds were made, and then the limit was reached
pub record HasGivenUpUnder (a : Arena) (q : Question) (limits : Limits) (rounds : List Round) (limit : Limit) : Type 0 where
  pub say : AllSay q (members_of rounds)
  pub grown : AreRounds q [] rounds
  pub reached : IsReachedUnder a q limits (members_of rounds) limit

-- ---- when each verdict may come

-- a verdict on a question under rules, over an arena, is right
abbrev pub IsRightUnder : Arena → Question → Limits → Verdict → Type 0
IsRightUnder a q limits (Proved nodes) = accepts q nodes ≡ true
IsRightUnder a q limits (Unproved branch table instances) = IsUnprovedUnder q branch table instances
IsRightUnder a q limits (GaveUp rounds limit) = HasGivenUpUnder a q limits rounds limit
IsRightUnder a q limits NotAccepted = ⊥

-- what was decided of a condition of an arena by rounds of rules: it claims the same in an arena of its own, and the verdict is right of it there
pub record IsDecidedByRounds (rules : List Rule) (a : Arena) (c : Condition) (limits : Limits) (d : Decided) : Type 0 where
  pub claim : IsSameClaim a c d.terms d.condition
  pub shapes : d.terms.shapes ≡ a.shapes
  pub decls : d.terms.decls ≡ a.decls
  pub terms_in : VerdictIn d.terms d.verdict
  pub right : IsRightUnder d.terms (question_under rules d.terms d.condition) limits (verdict_in d.terms d.verdict)

-- without rules there are no rounds
abbrev pub IsDecidedUnder : List Rule → Arena → Condition → Limits → Decided → Type 0
IsDecidedUnder [] a c limits d = IsDecidedWith a c limits d
IsDecidedUnder (r ∷ rules) a c limits d = IsDecidedByRounds (r ∷ rules) a c limits d
