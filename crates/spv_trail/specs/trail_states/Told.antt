-- What is told on a path of a search: its facts in order, those that say something of a core, and the literals that both sides were told.
use Rattle.std.specs.Prelude.{◌≡◌, ◌<◌, ⊤, ℕ, Bool, true, false, List, [], ◌++◌, length, map, Option, Some, None, slice_get}
use Rattle.spv_logic.specs.declared.conditions.TermId.{TermId}
use Rattle.spv_logic.specs.Terms.{Term}
use Rattle.spv_logic.specs.Formulas.{equation}
use Rattle.spv_term.specs.declared.nodes.Condition.{Condition}
use Rattle.spv_term.specs.Arena.{Arena, tree}
use Rattle.spv_proof_rules.specs.Sums.{negated}
use Rattle.spv_proof_rules.specs.Effects.{Question}
use Rattle.spv_proof_rules.specs.Stand.{question}
use Rattle.spv_derivations.specs.declared.derivation.entries.Part.{Part}
use Rattle.spv_derivations.specs.declared.derivation.entries.Part.TheVariants.{True, False, Below, Above}
use Rattle.spv_derivations.specs.declared.derivation.entries.Entry.{Entry}
use Rattle.spv_derivations.specs.derivation.Derivation.{literal, PartFits}
use Rattle.spv_derivations.specs.derivation.Literals.{Literal, AreKnown}
use Rattle.spv_models.specs.leaf_models.Subterms.{is_among}
use Rattle.spv_models.specs.split_trees.Paths.{questions, facts}
use Rattle.spv_derivations.specs.branches.Paths.{facts_in, IsPath}
use Rattle.spv_assignments.specs.declared.partial_assignment.facts.Known.{Known}
use Rattle.spv_assignments.specs.partial_assignment.Values.{value_by, AreUncrossed}
use Rattle.spv_assignments.specs.partial_assignment.Following.{IsKnowledge}
use Rattle.spv_assignments.specs.partial_assignment.Facts.{facts_of, AreNumbered}
use Rattle.spv_branch_theory.specs.search_invariant.Facts.{IsFormula}

-- ---- literals

-- what a literal says
abbrev pub meaning : Arena → Literal → Term
meaning a l = literal (tree a l.atom) l.part

abbrev pub meanings : Arena → List Literal → List Term
meanings a ls = map (meaning a) ls

-- a literal of a term was told
pub record IsToldIn (a : Arena) (ls : List Literal) (t : Term) (part : Part) : Type 0 where
  pub place : ℕ
  pub told_one : Literal
  pub there : slice_get ls place ≡ Some told_one
  pub atom : tree a told_one.atom ≡ t
  pub part_is : told_one.part ≡ part

-- that it is false; or of an equation one of the orders of its sides
pub data IsDeniedIn (a : Arena) (ls : List Literal) (t : Term) : Type 0 where
  by_itself : IsToldIn a ls t False → IsDeniedIn a ls t
  by_below : (x y : Term) → t ≡ equation x y → IsToldIn a ls t Below → IsDeniedIn a ls t
  by_above : (x y : Term) → t ≡ equation x y → IsToldIn a ls t Above → IsDeniedIn a ls t

-- a term was told with this truth
abbrev pub IsToldWith : Arena → List Literal → Term → Bool → Type 0
IsToldWith a ls t true = IsToldIn a ls t True
IsToldWith a ls t false = IsDeniedIn a ls t

-- each of these terms that has a value was told with it
pub record AreAnswered (a : Arena) (ts : List Term) (value : Term → Option Bool) (ls : List Literal) : Type 0 where
  pub each : (t : Term) (b : Bool) → is_among ts t ≡ true → value t ≡ Some b → IsToldWith a ls t b

-- a literal is one of a question
pub record IsAsked (a : Arena) (q : Question) (l : Literal) : Type 0 where
  pub asked : is_among (questions q) (tree a l.atom) ≡ true
  pub fits : PartFits a l.atom l.part

-- ---- known facts

-- an order that is known was told
abbrev pub IsOrderToldIn : Arena → List Literal → TermId → Part → Type 0
IsOrderToldIn a ls t True = ⊤
IsOrderToldIn a ls t False = ⊤
IsOrderToldIn a ls t Below = IsToldIn a ls (tree a t) Below
IsOrderToldIn a ls t Above = IsToldIn a ls (tree a t) Above

-- a known fact is of a formula of the search that is no negation
pub record IsFounded (a : Arena) (q : Question) (ls : List Literal) (k : Known) : Type 0 where
  pub within : k.term.0 < length a.nodes
  pub bare : negated (tree a k.term) ≡ None
  pub formula : IsFormula q (tree a k.term)
  pub fits : PartFits a k.term k.part
  pub order : IsOrderToldIn a ls k.term k.part

-- ---- paths

-- the values that known facts give
abbrev pub values_of : Arena → List Known → Term → Option Bool
values_of a ks = value_by (facts_of a ks)

-- facts by their numbers on a path, known ones, and literals that were told of questions that have these values
pub record IsStored (a : Arena) (c : Condition) (es : List Entry) (ks : List Known) (ls : List Literal) : Type 0 where
  pub numbered : AreNumbered a (facts_in (question a c) es) ks
  pub literals : AreKnown a (facts_in (question a c) es) ls
  pub knowledge : IsKnowledge a (facts_of a ks)
  pub uncrossed : AreUncrossed (facts_of a ks)
  pub founded : (i : ℕ) (k : Known) → slice_get ks i ≡ Some k → IsFounded a (question a c) ls k
  pub asked : (i : ℕ) (l : Literal) → slice_get ls i ≡ Some l → IsAsked a (question a c) l
  pub true_ones : (i : ℕ) (l : Literal) → slice_get ls i ≡ Some l → values_of a ks (meaning a l) ≡ Some true

-- and that is all of a path with these cases: the hypotheses, that the goal is false, and the cases have the value true, and each question that
-- has a value was told with it
pub record IsSettled (a : Arena) (c : Condition) (es : List Entry) (ks : List Known) (ls : List Literal) (cases : List Term) : Type 0 where
  pub path : IsPath (question a c) cases es
  pub stored : IsStored a c es ks ls
  pub begun : (t : Term) → is_among (facts (question a c) []) t ≡ true → values_of a ks t ≡ Some true
  pub answered : AreAnswered a (questions (question a c)) (values_of a ks) ls
  pub cases_known : (t : Term) → is_among cases t ≡ true → is_among (facts_of a ks) t ≡ true

-- what is said on a path beside the hypotheses and that the goal is false
abbrev pub said_on : Arena → List Known → List Literal → List Term
said_on a ks ls = facts_of a ks ++ meanings a ls
