-- What is true of the facts of a path.
use Rattle.std.specs.Prelude.{◌≡◌, ℕ, ◌+◌, ◌<◌, ◌≤◌, List, [], ◌∷◌, ◌++◌, take, length, Option, Some, slice_get}
use Rattle.spv_logic.specs.declared.conditions.TermId.{TermId}
use Rattle.spv_logic.specs.Terms.{Term}
use Rattle.spv_term.specs.declared.nodes.Condition.{Condition}
use Rattle.spv_term.specs.Arena.{Arena}
use Rattle.spv_atoms.specs.declared.proofs.Step.{Step}
use Rattle.spv_atoms.specs.declared.proofs.Step.TheVariants.{Contra}
use Rattle.spv_proof_rules.specs.Effects.{Question, Adds, effect}
use Rattle.spv_proof_rules.specs.Accepted.{Closed, walk}
use Rattle.spv_proof_rules.specs.Stand.{question, StepsIn}
use Rattle.spv_derivations.specs.declared.derivation.entries.Part.{Part}
use Rattle.spv_derivations.specs.declared.derivation.entries.Entry.{Entry}
use Rattle.spv_derivations.specs.declared.derivation.entries.Entry.TheVariants.{Told, Derived}
use Rattle.spv_derivations.specs.derivation.Derivation.{IsDerivation, literal}
use Rattle.spv_derivations.specs.derivation.Steps.{closing_steps_of}
use Rattle.spv_derivations.specs.branches.Paths.{facts_in, EntriesIn, IsPath, IsSearchStep, as_entries}

-- at its start a path has no facts
abbrev pub BeginsEmpty : Type 0
BeginsEmpty = (q : Question) → IsPath q [] []

-- a path with one fact more
pub record GoesOn (q : Question) (cases : List Term) (old new : List Entry) (t : Term) : Type 0 where
  pub path : IsPath q cases new
  pub facts_are : facts_in q new ≡ facts_in q old ++ t ∷ []

-- one case more has the next number
abbrev pub CasesComeBehind : Type 0
CasesComeBehind = (q : Question) (cases : List Term) (es : List Entry) (t : TermId) (part : Part) → IsPath q cases es
    → GoesOn q (cases ++ literal (q.at t) part ∷ []) es (es ++ Told t part (length cases + 1) ∷ []) (literal (q.at t) part)

-- so has the fact of a step that a search puts there
abbrev pub StepsComeBehind : Type 0
StepsComeBehind = (q : Question) (cases : List Term) (es : List Entry) (s : Step) (t : Term) → IsPath q cases es → IsSearchStep s → effect q (facts_in q es) s ≡ Adds t → GoesOn q cases es (es ++ Derived s ∷ []) t

-- the first facts of a path are one, also with its cases alone that are told among them
abbrev pub FirstArePath : Type 0
FirstArePath = (q : Question) (cases more : List Term) (es : List Entry) (count : ℕ) → IsPath q (cases ++ more) es
    → ((i : ℕ) (t : TermId) (part : Part) (why : ℕ) → i < count → slice_get es i ≡ Some (Told t part why) → why ≤ length cases) → IsPath q cases (take count es)

-- steps that close a path behind all its facts close it behind its cases, with those of its other facts before them
abbrev pub StepsClose : Type 0
StepsClose = (q : Question) (cases : List Term) (es : List Entry) (front : List Step) (first : ℕ) (second : Option ℕ) → IsPath q cases es → walk q (facts_in q es) (front ++ Contra first second ∷ []) ≡ Closed
    → walk q cases (closing_steps_of (length cases) (es ++ as_entries front) first second) ≡ Closed

-- the terms that the steps of a path name are in the arena, since each of them adds a fact
abbrev pub StepsAreIn : Type 0
StepsAreIn = (a : Arena) (c : Condition) (cases : List Term) (es : List Entry) → IsPath (question a c) cases es → EntriesIn a es

-- so are those of the closing steps of a derivation over the arena
abbrev pub DerivationsCloseIn : Type 0
DerivationsCloseIn = (a : Arena) (es : List Entry) (count first : ℕ) (second : Option ℕ) → IsDerivation a es → StepsIn a (closing_steps_of count es first second)
