-- Facts that become known on a path, and the facts that end it.
use Rattle.std.specs.Prelude.{◌≡◌, ℕ, Bool, true, false, List, [], ◌∷◌, ◌++◌, Option, Some, None, slice_get}
use Rattle.spv_logic.specs.declared.conditions.TermId.{TermId}
use Rattle.spv_logic.specs.Terms.{Term}
use Rattle.spv_logic.specs.Formulas.{below}
use Rattle.spv_term.specs.declared.nodes.Condition.{Condition}
use Rattle.spv_term.specs.Arena.{Arena, tree}
use Rattle.spv_atoms.specs.declared.proofs.Step.TheVariants.{Contra}
use Rattle.spv_atoms.specs.Tables.{numeral_relation}
use Rattle.spv_proof_rules.specs.Effects.{is_false, is_truth, numbered}
use Rattle.spv_proof_steps.specs.Candidates.{lower}
use Rattle.spv_proof_rules.specs.Accepted.{Closed, walk}
use Rattle.spv_proof_rules.specs.Stand.{question}
use Rattle.spv_tableau_rules.specs.constraints.Sayings.{literal}
use Rattle.spv_derivations.specs.declared.derivation.entries.Part.{Part}
use Rattle.spv_derivations.specs.declared.derivation.entries.Part.TheVariants.{True, False}
use Rattle.spv_derivations.specs.declared.derivation.entries.Entry.{Entry}
use Rattle.spv_derivations.specs.derivation.Literals.{Literal}
use Rattle.spv_derivations.specs.derivation.Derived.{IsFalseTerm}
use Rattle.spv_models.specs.leaf_models.Laws.{AreFormulas}
use Rattle.spv_models.specs.leaf_models.Tables.{formulas_of}
use Rattle.spv_derivations.specs.branches.Paths.{facts_in, IsGrown, IsPath}
use Rattle.spv_assignments.specs.declared.partial_assignment.facts.Known.{Known}
use Rattle.spv_assignments.specs.partial_assignment.Facts.{fact_of}
use Rattle.spv_decisions.specs.literal_lookup.Clashes.{NoneClashes}
use Rattle.spv_branch_theory.specs.search_invariant.Facts.{IsFormula}
use Rattle.spv_trail.specs.trail_states.Told.{IsStored, values_of}
use Rattle.spv_trail.specs.declared.propagation.ending.End.{End}

-- ---- facts by their numbers

-- the part that a truth is
abbrev pub part_of : Bool → Part
part_of true = True
part_of false = False

-- a known fact has its number on a path, and its term is of sort Bool
pub record IsCitable (a : Arena) (c : Condition) (es : List Entry) (k : Known) : Type 0 where
  pub number : numbered (facts_in (question a c) es) k.fact ≡ Some (fact_of a k)
  pub truth : is_truth (question a c) (tree a k.term) ≡ true

-- each of these
pub record AreCitable (a : Arena) (c : Condition) (es : List Entry) (ks : List Known) : Type 0 where
  pub each : (i : ℕ) (k : Known) → slice_get ks i ≡ Some k → IsCitable a c es k

-- on a path with these cases
pub record MayCite (a : Arena) (c : Condition) (falsity : TermId) (cases : List Term) (es : List Entry) (ks : List Known) : Type 0 where
  pub falsity_is : IsFalseTerm a falsity
  pub path : IsPath (question a c) cases es
  pub citable : AreCitable a c es ks

-- ---- the end of a path

-- facts end a path with these cases
pub record EndsBy (a : Arena) (c : Condition) (cases : List Term) (es : List Entry) (e : End) : Type 0 where
  pub path : IsPath (question a c) cases es
  pub closes : walk (question a c) (facts_in (question a c) es) (Contra e.first e.second ∷ []) ≡ Closed

-- after facts were put behind the others
pub record EndsNow (a : Arena) (c : Condition) (cases : List Term) (old new : List Entry) (e : End) : Type 0 where
  pub ends : EndsBy a c cases new e
  pub grown : IsGrown old new

-- whether two terms are numerals of which the first is not below the second
abbrev pub is_downward : Option (Term × Term) → Bool
is_downward None = false
is_downward (Some st) = is_false (numeral_relation (below st.0 st.1))

-- whether a formula is an order of two numerals that does not hold
abbrev pub is_refuted : Term → Bool
is_refuted f = is_downward (lower f)

-- a path ends where a new fact is such an order, or contradicts a known one
abbrev pub ContradictsIf : Arena → Condition → TermId → List Known → Known → List Entry → List Entry → Option End → Type 0
ContradictsIf a c falsity ks added old new None = (NoneClashes a ks added × (is_refuted (fact_of a added) ≡ false)) × (new ≡ old)
ContradictsIf a c falsity ks added old new (Some e) = (cases : List Term) → MayCite a c falsity cases old ks → IsCitable a c old added → EndsNow a c cases old new e

-- ---- learning

-- the fact of this number says on a path that a formula of the search is true, or false
pub record MayLearn (a : Arena) (c : Condition) (falsity : TermId) (cases : List Term) (es : List Entry) (ks : List Known) (ls : List Literal) (t : TermId) (truth : Bool) (number : ℕ) : Type 0 where
  pub formulas : AreFormulas a.shapes a.decls (formulas_of (question a c).sequent)
  pub falsity_is : IsFalseTerm a falsity
  pub path : IsPath (question a c) cases es
  pub stored : IsStored a c es ks ls
  pub formula : IsFormula (question a c) (tree a t)
  pub says : numbered (facts_in (question a c) es) number ≡ Some (literal truth (tree a t))

-- a list with others behind it
pub record IsLonger {A : Type 0} (old new : List A) : Type 0 where
  pub more : List A
  pub is : new ≡ old ++ more

-- a path goes on, and a formula has the value true
pub record HasLearned (a : Arena) (c : Condition) (cases : List Term) (ls : List Literal) (es es2 : List Entry) (ks ks2 : List Known) (f : Term) : Type 0 where
  pub path : IsPath (question a c) cases es2
  pub stored : IsStored a c es2 ks2 ls
  pub grown : IsGrown es es2
  pub longer : IsLonger ks ks2
  pub keeps : (t : Term) (b : Bool) → values_of a ks t ≡ Some b → values_of a ks2 t ≡ Some b
  pub true_now : values_of a ks2 f ≡ Some true

-- so it is; or the path ends, and the same facts are known
abbrev pub IsLearnedOrEnded : Arena → Condition → List Term → List Literal → List Entry → List Entry → List Known → List Known → Term → Option End → Type 0
IsLearnedOrEnded a c cases ls es es2 ks ks2 f None = HasLearned a c cases ls es es2 ks ks2 f
IsLearnedOrEnded a c cases ls es es2 ks ks2 f (Some e) = EndsNow a c cases es es2 e × (ks2 ≡ ks)
