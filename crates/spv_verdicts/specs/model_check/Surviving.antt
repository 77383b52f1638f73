-- The formulas of a condition in a table.
use Rattle.std.specs.Prelude.{◌≡◌, ◌⊎◌, ℕ, ◌<◌, Bool, true, false, List, map, length, Some, Ok, Err, slice_get}
use Rattle.spv_whole.specs.Fraction.{Fraction}
use Rattle.spv_logic.specs.declared.conditions.TermId.{TermId}
use Rattle.spv_logic.specs.Terms.{Term}
use Rattle.spv_term.specs.declared.nodes.Condition.{Condition}
use Rattle.spv_term.specs.Arena.{Arena, tree, sequent}
use Rattle.spv_table.specs.Values.{value, holds}
use Rattle.spv_proof_rules.specs.Stand.{question}
use Rattle.spv_models.specs.leaf_models.Subterms.{is_among, subterms}
use Rattle.spv_models.specs.leaf_models.Tables.{formulas_of}
use Rattle.spv_verdicts.specs.Verdicts.{condition_atoms}
use Rattle.spv_verdicts.specs.declared.model_check.faults.SurvivingFault.{SurvivingFault}
use Rattle.spv_verdicts.specs.declared.model_check.faults.SurvivingFault.TheVariants.{Wide, Memory}

-- ---- what is true and false

-- each hypothesis holds and the goal does not
pub record IsShown (a : Arena) (c : Condition) (listed : Term → Fraction) : Type 0 where
  pub given_true : (f : Term) → is_among (map (tree a) c.given) f ≡ true → holds listed f ≡ Ok true
  pub goal_false : holds listed (tree a c.goal) ≡ Ok false

-- one of these formulas is false
pub record SomeFails (a : Arena) (listed : Term → Fraction) (fs : List TermId) : Type 0 where
  pub place : ℕ
  pub formula : TermId
  pub there : slice_get fs place ≡ Some formula
  pub fails : holds listed (tree a formula) ≡ Ok false

-- a hypothesis is false, or the goal is true
abbrev pub IsNotShown : Arena → Condition → (Term → Fraction) → Type 0
IsNotShown a c listed = SomeFails a listed c.given ⊎ (holds listed (tree a c.goal) ≡ Ok true)

-- these are the atoms of the condition, each with its truth
pub record IsBranch (a : Arena) (c : Condition) (listed : Term → Fraction) (branch : List (TermId × Bool)) : Type 0 where
  pub atoms : map (λ p. tree a p.0) branch ≡ condition_atoms (question a c)
  pub truths : (i : ℕ) (p : TermId × Bool) → slice_get branch i ≡ Some p → holds listed (tree a p.0) ≡ Ok p.1
  pub in_range : (i : ℕ) (p : TermId × Bool) → slice_get branch i ≡ Some p → p.0.0 < length a.nodes

pub record ShowsFalse (a : Arena) (c : Condition) (listed : Term → Fraction) (branch : List (TermId × Bool)) : Type 0 where
  pub shown : IsShown a c listed
  pub branch_is : IsBranch a c listed branch

-- ---- what is too wide

-- a subterm of a condition whose evaluation meets an operation that does not fit; for want of memory nothing is said
abbrev pub IsFaultFor : Arena → Condition → (Term → Fraction) → SurvivingFault → Type 0
IsFaultFor a c listed (Wide t w) =
    (t.0 < length a.nodes) × (is_among (subterms (formulas_of (sequent a c))) (tree a t) ≡ true) × (value listed (tree a t) ≡ Err w)
IsFaultFor a c listed Memory = Unit {0}

-- ---- on the way

-- a term is one of these
pub record IsListedAt (ids : List TermId) (t : TermId) : Type 0 where
  pub place : ℕ
  pub there : slice_get ids place ≡ Some t

abbrev pub IsFaultOf : Arena → (Term → Fraction) → TermId → SurvivingFault → Type 0
IsFaultOf a listed f (Wide t w) = (t ≡ f) × (value listed (tree a t) ≡ Err w)
IsFaultOf a listed f Memory = Unit {0}

abbrev pub IsFaultAmong : Arena → (Term → Fraction) → List TermId → SurvivingFault → Type 0
IsFaultAmong a listed fs (Wide t w) = IsListedAt fs t × (value listed (tree a t) ≡ Err w)
IsFaultAmong a listed fs Memory = Unit {0}

pub record AllHold (a : Arena) (listed : Term → Fraction) (fs : List TermId) : Type 0 where
  pub each : (i : ℕ) (f : TermId) → slice_get fs i ≡ Some f → holds listed (tree a f) ≡ Ok true

-- these terms, each with its truth
pub record AreTruths (a : Arena) (listed : Term → Fraction) (fs : List TermId) (branch : List (TermId × Bool)) : Type 0 where
  pub terms : map (λ p. p.0) branch ≡ fs
  pub truths : (i : ℕ) (p : TermId × Bool) → slice_get branch i ≡ Some p → holds listed (tree a p.0) ≡ Ok p.1
