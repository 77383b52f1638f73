-- The hypotheses of a condition, and that its goal is false, as the first facts of a path.
use Rattle.std.specs.Prelude.{◌≡◌, ◌<◌, ℕ, zero, suc, Bool, true, false, List, [], Option, Some, None, slice_get}
use Rattle.spv_logic.specs.declared.conditions.TermId.{TermId}
use Rattle.spv_logic.specs.Terms.{Term}
use Rattle.spv_term.specs.declared.nodes.Condition.{Condition}
use Rattle.spv_term.specs.Arena.{Arena, tree}
use Rattle.spv_proof_rules.specs.Stand.{question}
use Rattle.spv_derivations.specs.declared.derivation.entries.Entry.{Entry}
use Rattle.spv_derivations.specs.derivation.Derived.{IsFalseTerm}
use Rattle.spv_models.specs.leaf_models.Subterms.{is_among}
use Rattle.spv_models.specs.leaf_models.Laws.{AreFormulas}
use Rattle.spv_models.specs.leaf_models.Tables.{formulas_of}
use Rattle.spv_models.specs.split_trees.Paths.{facts}
use Rattle.spv_derivations.specs.branches.Paths.{IsPath}
use Rattle.spv_assignments.specs.declared.partial_assignment.facts.Known.{Known}
use Rattle.spv_trail.specs.trail_states.Told.{IsStored, values_of}
use Rattle.spv_trail.specs.declared.propagation.ending.End.{End}
use Rattle.spv_trail.specs.propagation.Learning.{EndsBy}

-- a hypothesis by its number, which is true; or the goal, which is false
abbrev pub IsOfNumber : Condition → ℕ → TermId → Bool → Type 0
IsOfNumber c zero t false = c.goal ≡ t
IsOfNumber c (suc n) t true = slice_get c.given n ≡ Some t
IsOfNumber c n t truth = ⊥

-- facts of the path without cases, of which these are known
pub record AreFirst (a : Arena) (c : Condition) (es : List Entry) (ks : List Known) : Type 0 where
  pub path : IsPath (question a c) [] es
  pub stored : IsStored a c es ks []

-- one more came to them, and has the value true
pub record IsFirst (a : Arena) (c : Condition) (es : List Entry) (ks ks0 : List Known) (f : Term) : Type 0 where
  pub are : AreFirst a c es ks
  pub keeps : (t : Term) (b : Bool) → values_of a ks0 t ≡ Some b → values_of a ks t ≡ Some b
  pub true_now : values_of a ks f ≡ Some true

abbrev pub IsFirstOrEnded : Arena → Condition → List Entry → List Known → List Known → Term → Option End → Type 0
IsFirstOrEnded a c es ks ks0 f None = IsFirst a c es ks ks0 f
IsFirstOrEnded a c es ks ks0 f (Some e) = EndsBy a c [] es e

-- the first so many hypotheses are known
pub record KnowsFirst (a : Arena) (c : Condition) (es : List Entry) (ks : List Known) (count : ℕ) : Type 0 where
  pub are : AreFirst a c es ks
  pub known_ones : (i : ℕ) (t : TermId) → i < count → slice_get c.given i ≡ Some t → values_of a ks (tree a t) ≡ Some true

-- all of them are, or the path ends
pub record KnowsGiven (a : Arena) (c : Condition) (es : List Entry) (ks : List Known) : Type 0 where
  pub are : AreFirst a c es ks
  pub known_ones : (t : Term) → is_among (question a c).sequent.given t ≡ true → values_of a ks t ≡ Some true

abbrev pub KnowsGivenOrEnded : Arena → Condition → List Entry → List Known → Option End → Type 0
KnowsGivenOrEnded a c es ks None = KnowsGiven a c es ks
KnowsGivenOrEnded a c es ks (Some e) = EndsBy a c [] es e

-- and that the goal is false
pub record KnowsAll (a : Arena) (c : Condition) (es : List Entry) (ks : List Known) : Type 0 where
  pub are : AreFirst a c es ks
  pub known_ones : (t : Term) → is_among (facts (question a c) []) t ≡ true → values_of a ks t ≡ Some true

abbrev pub KnowsAllOrEnded : Arena → Condition → List Entry → List Known → Option End → Type 0
KnowsAllOrEnded a c es ks None = KnowsAll a c es ks
KnowsAllOrEnded a c es ks (Some e) = EndsBy a c [] es e

-- all formulas of a condition are of sort Bool; this is the term FALSE
pub record MayBegin (a : Arena) (c : Condition) (falsity : TermId) : Type 0 where
  pub formulas : AreFormulas a.shapes a.decls (formulas_of (question a c).sequent)
  pub falsity_is : IsFalseTerm a falsity
