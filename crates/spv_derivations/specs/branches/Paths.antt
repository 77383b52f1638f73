-- The facts of a path of a search, as entries of a derivation: its cases are told, each with its number among the cases, and each other fact is added by a step behind those before it.
use Rattle.std.specs.Prelude.{◌≡◌, ℕ, List, [], ◌∷◌, ◌++◌, map, Option, Some, slice_get, ⊤}
use Rattle.spv_logic.specs.declared.conditions.TermId.{TermId}
use Rattle.spv_logic.specs.Terms.{Term}
use Rattle.spv_term.specs.Arena.{Arena}
use Rattle.spv_atoms.specs.declared.proofs.Step.{Step}
use Rattle.spv_atoms.specs.declared.proofs.Step.TheVariants.{Contra, Eval, Given}
use Rattle.spv_proof_rules.specs.Effects.{Question, Adds, effect, numbered}
use Rattle.spv_proof_rules.specs.Stand.{StepIn}
use Rattle.spv_derivations.specs.declared.derivation.entries.Part.{Part}
use Rattle.spv_derivations.specs.declared.derivation.entries.Entry.{Entry}
use Rattle.spv_derivations.specs.declared.derivation.entries.Entry.TheVariants.{Told, Derived}
use Rattle.spv_derivations.specs.derivation.Derivation.{added_by, literal}
use Rattle.spv_derivations.specs.derivation.Steps.{closing_steps_of}

-- ---- facts

-- the fact of an entry behind these facts
abbrev pub fact_in : Question → List Term → Entry → Term
fact_in q before (Told t part why) = literal (q.at t) part
fact_in q before (Derived s) = added_by (effect q before s)

-- these facts, and those of entries behind them
abbrev pub facts_from : Question → List Term → List Entry → List Term
facts_from q before [] = before
facts_from q before (e ∷ es) = facts_from q (before ++ fact_in q before e ∷ []) es

-- the facts of a path
abbrev pub facts_in : Question → List Entry → List Term
facts_in q es = facts_from q [] es

-- ---- paths

-- an entry that may stand behind these facts: a case, or a step that adds a fact
abbrev pub MayFollow : Question → List Term → Entry → Type 0
MayFollow q before (Told t part why) = ⊤
MayFollow q before (Derived s) = (t : Term) × (effect q before s ≡ Adds t)

abbrev pub Follow : Question → List Term → List Entry → Type 0
Follow q before [] = ⊤
Follow q before (e ∷ es) = MayFollow q before e × Follow q (before ++ fact_in q before e ∷ []) es

-- a step that a search puts on its path: a hypothesis, or that the goal is false; or an evaluation
abbrev pub IsSearchStep : Step → Type 0
IsSearchStep (Given k) = ⊤
IsSearchStep (Eval s ks) = ⊤
IsSearchStep _ = ⊥

abbrev pub IsSearchEntry : Entry → Type 0
IsSearchEntry (Told t part why) = ⊤
IsSearchEntry (Derived s) = IsSearchStep s

-- what is derived is so by such steps
abbrev pub AreSearchSteps : List Entry → Type 0
AreSearchSteps [] = ⊤
AreSearchSteps (e ∷ es) = IsSearchEntry e × AreSearchSteps es

-- what is told is one of these cases, by its number
pub record AreCases (q : Question) (cases : List Term) (es : List Entry) : Type 0 where
  pub each : (i : ℕ) (t : TermId) (part : Part) (why : ℕ) → slice_get es i ≡ Some (Told t part why) → numbered cases why ≡ Some (literal (q.at t) part)

-- entries are the facts of a path with these cases
pub record IsPath (q : Question) (cases : List Term) (es : List Entry) : Type 0 where
  pub follow : Follow q [] es
  pub steps : AreSearchSteps es
  pub cases_are : AreCases q cases es

-- ---- arenas

-- the terms that the step of an entry names are in an arena
abbrev pub EntryIn : Arena → Entry → Type 0
EntryIn a (Told t part why) = ⊤
EntryIn a (Derived s) = StepIn a s

abbrev pub EntriesIn : Arena → List Entry → Type 0
EntriesIn a [] = ⊤
EntriesIn a (e ∷ es) = EntryIn a e × EntriesIn a es

-- ---- closing steps

-- steps that end with the end of the path
pub record EndsPath (steps : List Step) : Type 0 where
  pub front : List Step
  pub first : ℕ
  pub second : Option ℕ
  pub is : steps ≡ front ++ Contra first second ∷ []

abbrev pub as_entries : List Step → List Entry
as_entries steps = map Derived steps

-- the same steps in the other order
abbrev pub turned : List Step → List Step
turned [] = []
turned (s ∷ steps) = turned steps ++ s ∷ []

-- entries with others behind them
pub record IsGrown (old new : List Entry) : Type 0 where
  pub more : List Entry
  pub is : new ≡ old ++ more

-- the steps of a path with so many cases that these steps end
pub record IsClosing (es : List Entry) (steps : List Step) (count : ℕ) (closing : List Step) : Type 0 where
  pub ends : EndsPath steps
  pub is : closing ≡ closing_steps_of count (es ++ as_entries ends.front) ends.first ends.second
