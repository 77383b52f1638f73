-- What is true of courses.
use Rattle.std.specs.Prelude.{◌≡◌, ℕ, List, ◌++◌, take, length, Option, Some}
use Rattle.spv_logic.specs.declared.conditions.TermId.{TermId}
use Rattle.spv_logic.specs.Terms.{Term}
use Rattle.spv_logic.specs.Formulas.{equation}
use Rattle.spv_logic.specs.Conditions.{Sequent}
use Rattle.spv_term.specs.Arena.{Arena, IsArena, tree}
use Rattle.spv_atoms.specs.declared.proofs.Step.{Step}
use Rattle.spv_proof_rules.specs.Effects.{Question, effect}
use Rattle.spv_proof_rules.specs.Accepted.{Open, Closed, walk}
use Rattle.spv_derivations.specs.declared.derivation.entries.Entry.{Entry}
use Rattle.spv_derivations.specs.derivation.Derivation.{asked, facts, fact_at, IsDerivation}
use Rattle.spv_atoms.specs.Steps.{renumbered}
use Rattle.spv_derivations.specs.derivation.Renumbered.{OfCited, Moves}
use Rattle.spv_derivations.specs.derivation.Sides.{sides_at}
use Rattle.spv_derivations.specs.derivation.Steps.{steps_of, closing_steps_of, derived, AreTold, IsEnd}

-- a step does the same among other facts, where each fact that it cites has the number that it cites there
abbrev pub LooksAtCited : Type 0
LooksAtCited = (q : Question) (old new : List Term) (f : ℕ → ℕ) (s : Step) → OfCited (Moves old new f) s → effect q new (renumbered f s) ≡ effect q old s

-- where an arena grows, a derivation stays one, with the same facts
pub record Stays (old new : Arena) (es : List Entry) : Type 0 where
  pub derivation : IsDerivation new es
  pub facts_same : facts new es ≡ facts old es

-- the first entries of a derivation are one
abbrev pub FirstAreDerivation : Type 0
FirstAreDerivation = (a : Arena) (es : List Entry) (n : ℕ) → IsDerivation a es → IsDerivation a (take n es)

-- the facts of entries stay where others come behind them
abbrev pub FactsStay : Type 0
FactsStay = (a : Arena) (es more : List Entry) (n : ℕ) (t : Term) → fact_at a es n ≡ Some t → fact_at a (es ++ more) n ≡ Some t

-- on a path that has what was told under its own numbers, the steps add the derived facts in order
abbrev pub StepsAdd : Type 0
StepsAdd = (a : Arena) (c : Sequent) (known : List Term) (es : List Entry) → IsDerivation a es → AreTold a known es
    → walk (asked a c) known (steps_of (length known) es) ≡ Open (known ++ derived a es)

-- and with an end of the path, they close it
abbrev pub StepsClose : Type 0
StepsClose = (a : Arena) (c : Sequent) (known : List Term) (es : List Entry) (first : ℕ) (second : Option ℕ) → IsDerivation a es → AreTold a known es
    → IsEnd a es first second → walk (asked a c) known (closing_steps_of (length known) es first second) ≡ Closed

-- an entry that states an equation by its form adds it
abbrev pub SidesAreEqual : Type 0
SidesAreEqual = (a : Arena) (es : List Entry) (n : ℕ) (s t : TermId) → IsArena a → IsDerivation a es → sides_at a es n ≡ Some (s, t)
    → fact_at a es n ≡ Some (equation (tree a s) (tree a t))
