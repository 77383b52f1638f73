-- What both sides are told on a path.
use Rattle.std.specs.Prelude.{◌≡◌, ◌<◌, ⊤, ℕ, Bool, true, false, List, [], ◌∷◌, ◌++◌, length, Option, Some, slice_get}
use Rattle.spv_logic.specs.declared.conditions.TermId.{TermId}
use Rattle.spv_logic.specs.Terms.{Term}
use Rattle.spv_term.specs.declared.nodes.Condition.{Condition}
use Rattle.spv_term.specs.Arena.{Arena, tree}
use Rattle.spv_congruence.specs.Keep.{IsNode}
use Rattle.spv_proof_rules.specs.Stand.{question}
use Rattle.spv_derivations.specs.declared.derivation.entries.Part.{Part}
use Rattle.spv_derivations.specs.declared.derivation.entries.Part.TheVariants.{True, False, Below, Above}
use Rattle.spv_derivations.specs.declared.derivation.entries.Entry.{Entry}
use Rattle.spv_derivations.specs.derivation.Derivation.{literal, PartFits}
use Rattle.spv_derivations.specs.derivation.Literals.{Literal}
use Rattle.spv_derivations.specs.derivation.Derived as derived
use Rattle.spv_models.specs.leaf_models.Subterms.{is_among}
use Rattle.spv_models.specs.leaf_models.Laws.{AreFormulas}
use Rattle.spv_models.specs.leaf_models.Tables.{formulas_of}
use Rattle.spv_models.specs.split_trees.Paths.{questions}
use Rattle.spv_share.specs.declared.both.Both.{Both}
use Rattle.spv_share.specs.Both.{KeepsLevels, Stays, told}
use Rattle.spv_derivations.specs.branches.Paths.{IsGrown, IsPath}
use Rattle.spv_assignments.specs.kleene.Passes.{at}
use Rattle.spv_assignments.specs.declared.partial_assignment.facts.Known.{Known}
use Rattle.spv_assignments.specs.partial_assignment.Facts.{facts_of}
use Rattle.spv_assignments.specs.partial_assignment.Values.{AreUncrossed}
use Rattle.spv_assignments.specs.partial_assignment.Following.{IsKnowledge}
use Rattle.spv_decisions.specs.literal_lookup.Facts.{AreCores}
use Rattle.spv_trail.specs.trail_states.Told.{IsStored, IsToldWith, values_of}
use Rattle.spv_trail.specs.propagation.Learning.{IsLonger}

-- ---- premises

-- known facts of a condition whose formulas are of sort Bool
pub record AreSound (a : Arena) (c : Condition) (ks : List Known) : Type 0 where
  pub formulas : AreFormulas a.shapes a.decls (formulas_of (question a c).sequent)
  pub cores : AreCores a ks
  pub knowledge : IsKnowledge a (facts_of a ks)
  pub uncrossed : AreUncrossed (facts_of a ks)

-- a question that both sides may be told
pub record IsTellable (a : Arena) (c : Condition) (b : Both) (t : TermId) : Type 0 where
  pub formula : derived.IsFormula a t
  pub asked : is_among (questions (question a c)) (tree a t) ≡ true
  pub node : IsNode b.trail.graph.nodes t

pub record AreTellable (a : Arena) (c : Condition) (b : Both) (ts : List TermId) : Type 0 where
  pub each : (i : ℕ) (t : TermId) → slice_get ts i ≡ Some t → IsTellable a c b t

-- beside each id the value of its term is listed
pub record ListsValuesOf (a : Arena) (ks : List Known) (values : List (Option Bool)) : Type 0 where
  pub each : (t : TermId) → t.0 < length a.nodes → at values t.0 ≡ values_of a ks (tree a t)

-- ---- both sides

-- they were told more
pub record Goes (a : Arena) (old new : Both) : Type 0 where
  pub longer : IsLonger (told old) (told new)
  pub levels : KeepsLevels a old new
  pub stays : Stays old new

-- they were told one literal more
pub record TellsLiteral (a : Arena) (old new : Both) (l : Literal) : Type 0 where
  pub told_is : told new ≡ told old ++ l ∷ []
  pub levels : KeepsLevels a old new
  pub stays : Stays old new

-- the truth of a term that a part tells
abbrev pub TellsTruth : Part → Bool → Type 0
TellsTruth True true = ⊤
TellsTruth False false = ⊤
TellsTruth Below false = ⊤
TellsTruth Above false = ⊤
TellsTruth _ _ = ⊥

-- the one literal more says of a term that it has this truth, and it is this formula, whose number is this
pub record TellsFact (a : Arena) (old new : Both) (t : TermId) (truth : Bool) (f : Term) (number : ℕ) : Type 0 where
  pub part : Part
  pub literal_told : TellsLiteral a old new (record { atom = t; part = part; why = number })
  pub says : literal (tree a t) part ≡ f
  pub fits : PartFits a t part
  pub tells : TellsTruth part truth

-- ---- a path while it is told

pub record IsTelling (a : Arena) (c : Condition) (cases : List Term) (es : List Entry) (ks : List Known) (b : Both) : Type 0 where
  pub path : IsPath (question a c) cases es
  pub stored : IsStored a c es ks (told b)

-- a question was told with its value
pub record TellsValue (a : Arena) (c : Condition) (cases : List Term) (es es2 : List Entry) (ks : List Known) (new : Both) (t : TermId) (truth : Bool) : Type 0 where
  pub telling : IsTelling a c cases es2 ks new
  pub grown : IsGrown es es2
  pub answered : IsToldWith a (told new) (tree a t) truth

-- it was told with the value that it has now, unless it was told with it before
pub record TellsChange (a : Arena) (c : Condition) (cases : List Term) (es es2 : List Entry) (ks : List Known) (old new : Both) (t : TermId) (before now : Option Bool) : Type 0 where
  pub telling : IsTelling a c cases es2 ks new
  pub grown : IsGrown es es2
  pub answered : (b : Bool) → now ≡ Some b → (before ≡ Some b → IsToldWith a (told old) (tree a t) b) → IsToldWith a (told new) (tree a t) b

-- each of these terms for which a value is listed was told with it
pub record AreToldAs (a : Arena) (asked : List TermId) (values : List (Option Bool)) (ls : List Literal) : Type 0 where
  pub each : (i : ℕ) (t : TermId) (b : Bool) → slice_get asked i ≡ Some t → at values t.0 ≡ Some b → IsToldWith a ls (tree a t) b

-- the questions were told with the values that they have now, where they were told with those before
pub record TellsValues (a : Arena) (c : Condition) (cases : List Term) (es es2 : List Entry) (ks : List Known) (old new : Both) (asked : List TermId) (before now : List (Option Bool)) : Type 0 where
  pub telling : IsTelling a c cases es2 ks new
  pub grown : IsGrown es es2
  pub answered : AreToldAs a asked before (told old) → AreToldAs a asked now (told new)
