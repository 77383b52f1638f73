-- The facts of a path in order, each told or derived, and when a list of such entries is a derivation.
use Rattle.std.specs.Prelude.{◌≡◌, ℕ, ◌<◌, Bool, true, false, ◌&&◌, List, [], ◌∷◌, ◌++◌, length, Option, Some, None}
use Rattle.spv_logic.specs.declared.conditions.TermId.{TermId}
use Rattle.spv_logic.specs.declared.operators.Head.TheVariants as head
use Rattle.spv_logic.specs.Terms.{Term, term, no_terms}
use Rattle.spv_logic.specs.Formulas.{negation, below}
use Rattle.spv_logic.specs.Conditions.{Sequent}
use Rattle.spv_term.specs.Arena.{Arena, tree}
use Rattle.spv_atoms.specs.Atoms as atoms
use Rattle.spv_atoms.specs.declared.proofs.Step.{Step}
use Rattle.spv_proof_rules.specs.Evaluation.{sides}
use Rattle.spv_proof_rules.specs.Effects.{Question, Effect, Adds, numbered, effect}
use Rattle.spv_proof_rules.specs.Stand.{StepIn}
use Rattle.spv_derivations.specs.declared.derivation.entries.Part.{Part}
use Rattle.spv_derivations.specs.declared.derivation.entries.Part.TheVariants.{True, False, Below, Above}
use Rattle.spv_derivations.specs.declared.derivation.entries.Entry.{Entry}
use Rattle.spv_derivations.specs.declared.derivation.entries.Entry.TheVariants.{Told, Derived}

-- ---- literals

-- what is made of the two sides of an equation; of every other term, the term itself
abbrev pub by_sides : (Term → Term → Term) → Option (Term × Term) → Term → Term
by_sides make None t = t
by_sides make (Some st) t = make st.0 st.1

-- what is told of a term: that it is true, that it is false, or that one side of it is below the other
abbrev pub literal : Term → Part → Term
literal t True = t
literal t False = negation t
literal t Below = by_sides below (sides t) t
literal t Above = by_sides (λ x y. below y x) (sides t) t

abbrev pub are_numbers : (Term → Bool) → Option (Term × Term) → Bool
are_numbers is_number None = false
are_numbers is_number (Some st) = is_number st.0 && is_number st.1

-- a term whose sides may be compared: an equation of two numbers
abbrev pub IsComparison : Arena → TermId → Type 0
IsComparison a t = are_numbers (atoms.is_number a.shapes a.decls) (sides (tree a t)) ≡ true

abbrev pub PartFits : Arena → TermId → Part → Type 0
PartFits a t True = Unit {0}
PartFits a t False = Unit {0}
PartFits a t Below = IsComparison a t
PartFits a t Above = IsComparison a t

-- ---- facts

-- what is to be shown, over an arena
abbrev pub asked : Arena → Sequent → Question
asked a c = record { shapes = a.shapes; decls = a.decls; at = tree a; sequent = c; rules = [] }

-- some sequent: no step of a derivation looks at what is to be shown
abbrev pub any_sequent : Sequent
any_sequent = record { given = []; goal = term head.True no_terms }

-- the fact that a step adds; of one that adds none, TRUE
abbrev pub added_by : Effect → Term
added_by (Adds t) = t
added_by _ = term head.True no_terms

-- the fact of an entry behind these facts
abbrev pub fact_of : Arena → List Term → Entry → Term
fact_of a before (Told t part why) = literal (tree a t) part
fact_of a before (Derived s) = added_by (effect (asked a any_sequent) before s)

-- these facts, and those of entries behind them
abbrev pub facts_from : Arena → List Term → List Entry → List Term
facts_from a before [] = before
facts_from a before (e ∷ es) = facts_from a (before ++ fact_of a before e ∷ []) es

-- the facts of entries, in order
abbrev pub facts : Arena → List Entry → List Term
facts a es = facts_from a [] es

-- the fact of a number, from 1
abbrev pub fact_at : Arena → List Entry → ℕ → Option Term
fact_at a es n = numbered (facts a es) n

-- ---- derivations

-- a step over terms of the arena that adds a fact behind these, whatever is to be shown
pub record Adding (a : Arena) (before : List Term) (s : Step) (t : Term) : Type 0 where
  pub terms : StepIn a s
  pub adds : (c : Sequent) → effect (asked a c) before s ≡ Adds t

-- an entry that may stand behind these facts: a term of the arena of which this may be told, or a step that adds a fact
abbrev pub MayFollow : Arena → List Term → Entry → Type 0
MayFollow a before (Told t part why) = (t.0 < length a.nodes) × PartFits a t part
MayFollow a before (Derived s) = (t : Term) × Adding a before s t

-- each of these entries may stand behind these facts and those of the entries before it
abbrev pub Follow : Arena → List Term → List Entry → Type 0
Follow a before [] = Unit {0}
Follow a before (e ∷ es) = MayFollow a before e × Follow a (before ++ fact_of a before e ∷ []) es

-- a derivation over an arena
pub record IsDerivation (a : Arena) (es : List Entry) : Type 0 where
  pub follow : Follow a [] es

-- a derivation goes on, and the fact of this number is now this one
pub record Gains (a : Arena) (old new : List Entry) (n : ℕ) (t : Term) : Type 0 where
  pub more : List Entry
  pub goes_on : new ≡ old ++ more
  pub derivation : IsDerivation a new
  pub fact : fact_at a new n ≡ Some t
