-- What is true of a path on which nothing is left to split on.
use Rattle.std.specs.Prelude.{◌≡◌, ◌⊎◌, ℕ, ◌<◌, Bool, true, false, List, Option, Some, is_some, length, map, slice_get}
use Rattle.spv_logic.specs.declared.conditions.TermId.{TermId}
use Rattle.spv_logic.specs.Terms.{Term}
use Rattle.spv_logic.specs.Formulas.{equation, below}
use Rattle.spv_logic.specs.Conditions.{Sequent}
use Rattle.spv_term.specs.Arena.{Arena, AllBelow, tree}
use Rattle.spv_proof_rules.specs.Effects.{Question, is_number}
use Rattle.spv_derivations.specs.derivation.Derivation.{asked}
use Rattle.spv_models.specs.leaf_models.Subterms.{is_among}
use Rattle.spv_models.specs.leaf_models.Laws.{AreFormulas}
use Rattle.spv_models.specs.leaf_models.Tables.{formulas_of}
use Rattle.spv_models.specs.split_trees.Paths as paths
use Rattle.spv_models.specs.split_trees.Paths.{atoms, questions}
use Rattle.spv_models.specs.split_trees.Shown.{IsFinished}
use Rattle.spv_assignments.specs.kleene.Passes.{at}
use Rattle.spv_assignments.specs.declared.partial_assignment.facts.Known.{Known}
use Rattle.spv_assignments.specs.partial_assignment.Facts.{fact_of}
use Rattle.spv_decisions.specs.decision.Choosing.{HaveValues, HaveOrders}

-- where evaluations add nothing more and each atom has a value, each question has one
abbrev pub AtomsFillQuestions : Type 0
AtomsFillQuestions = (q : Question) → AreFormulas q.shapes q.decls (formulas_of q.sequent) → (fs : List Term) (value : Term → Option Bool) → IsFinished q fs value
    → ((t : Term) → is_among (atoms q) t ≡ true → is_some (value t) ≡ true)
    → (t : Term) → is_among (questions q) t ≡ true → is_some (value t) ≡ true

-- each question is given a truth, and of each equation of whole numbers among the atoms that is given false an order is known
pub record IsFilledBy (q : Question) (fs : List Term) (given : Term → Option Bool) : Type 0 where
  pub full : (t : Term) → is_among (questions q) t ≡ true → is_some (given t) ≡ true
  pub ordered : (s t : Term) → is_among (atoms q) (equation s t) ≡ true → given (equation s t) ≡ Some false → is_number q s ≡ true → paths.Known q fs (below s t) ⊎ paths.Known q fs (below t s)

-- to each question the truth is given that is its value
abbrev pub GivesValues : Question → (Term → Option Bool) → (Term → Option Bool) → Type 0
GivesValues q value given = (t : Term) → is_among (questions q) t ≡ true → given t ≡ value t

-- each of these facts is known on a path
abbrev pub AreKnownOn : Arena → Sequent → List Term → List Known → Type 0
AreKnownOn a c fs known = (i : ℕ) (k : Known) → slice_get known i ≡ Some k → paths.Known (asked a c) fs (fact_of a k)

-- beside each id the value of its term is listed
abbrev pub ListsValues : Arena → List (Option Bool) → (Term → Option Bool) → Type 0
ListsValues a values value = (t : TermId) → t.0 < length a.nodes → at values t.0 ≡ value (tree a t)

-- where nothing is left to split on, and evaluations add nothing more, the path is filled by the values of the questions
abbrev pub NothingLeftIsFilled : Type 0
NothingLeftIsFilled = (a : Arena) (c : Sequent) → AreFormulas a.shapes a.decls (formulas_of c)
    → (ids : List TermId) → map (tree a) ids ≡ atoms (asked a c) → AllBelow (length a.nodes) ids
    → (value : Term → Option Bool) (values : List (Option Bool)) → ListsValues a values value
    → (known : List Known) → HaveValues values ids × HaveOrders a values known ids
    → (fs : List Term) → IsFinished (asked a c) fs value → AreKnownOn a c fs known
    → (given : Term → Option Bool) → GivesValues (asked a c) value given → IsFilledBy (asked a c) fs given
