-- What is true of the values that facts give, and of what a pass over them finds.
use Rattle.std.specs.Prelude.{◌≡◌, ◌<◌, Bool, true, false, List, Option, Some, None, length, map}
use Rattle.spv_logic.specs.declared.conditions.TermId.{TermId}
use Rattle.spv_logic.specs.Terms.{Term}
use Rattle.spv_logic.specs.Conditions.{Sequent}
use Rattle.spv_term.specs.Arena.{Arena, IsArena, tree}
use Rattle.spv_proof_rules.specs.Evaluation.{cites, bare, clashes, evaluates}
use Rattle.spv_proof_rules.specs.Effects.{cited}
use Rattle.spv_derivations.specs.derivation.Derivation.{asked}
use Rattle.spv_assignments.specs.declared.partial_assignment.facts.Known.{Known}
use Rattle.spv_assignments.specs.partial_assignment.Facts.{facts_of, numbers_of, AreNumbered}
use Rattle.spv_models.specs.split_trees.Paths.{questions}
use Rattle.spv_models.specs.split_trees.Shown.{supposing_false, IsFinished}
use Rattle.spv_assignments.specs.kleene.Passes.{AreQuiet, IsLoud, Clashes, ClashesListed, NoneClashes, NoneClashesListed}
use Rattle.spv_assignments.specs.partial_assignment.Values.{value_by, supposed_value, AreLiterals, AreUncrossed}
use Rattle.spv_assignments.specs.partial_assignment.Following.{is_truth, AreListed, IsKnowledge, Contradicts, IsStill}

-- each fact has the value true
abbrev pub FactsAreTrue : Type 0
FactsAreTrue = (facts : List Term) → AreLiterals facts → (t : Term) → cites facts t ≡ true → value_by facts t ≡ Some true

-- what facts give is listed beside the ids of an arena, and no truth by a fact is opposite to what a term is by itself
abbrev pub AreKnown : Arena → List Term → List (Option Bool) → List (Option Bool) → List (Option Bool) → Type 0
AreKnown a facts direct cores all = IsKnowledge a facts × AreListed a facts direct cores all × AreQuiet a direct

-- then no value is opposite to what a term is by itself
abbrev pub CoresAreQuiet : Type 0
CoresAreQuiet = (a : Arena) → IsArena a → (facts : List Term) (direct cores all : List (Option Bool)) → AreKnown a facts direct cores all → AreQuiet a cores

-- where a term clashes when a formula without a value is supposed to be false, the formula follows from the facts
abbrev pub ClashesFollow : Type 0
ClashesFollow = (a : Arena) → IsArena a → (facts : List Term) (direct cores all : List (Option Bool)) → AreKnown a facts direct cores all
    → (f : Term) → value_by facts (bare f) ≡ None → (s t : TermId) → s.0 < length a.nodes → tree a s ≡ bare f → Clashes a cores s (supposed_value f) t → evaluates (is_truth a) facts f ≡ true

-- where none does, no term at all clashes when it is supposed to be false
abbrev pub NoneMeansNone : Type 0
NoneMeansNone = (a : Arena) → IsArena a → (facts : List Term) (direct cores all : List (Option Bool)) → AreKnown a facts direct cores all
    → (f : Term) → value_by facts (bare f) ≡ None → (s : TermId) → s.0 < length a.nodes → tree a s ≡ bare f → NoneClashes a cores s (supposed_value f) → (u : Term) → clashes (is_truth a) (supposing_false (value_by facts) f) u ≡ false

-- where nothing is supposed and no term of the arena clashes, no term does
abbrev pub ValuesAgree : Type 0
ValuesAgree = (a : Arena) → IsArena a → (facts : List Term) (direct cores all : List (Option Bool)) → AreKnown a facts direct cores all
    → NoneClashesListed a cores → (u : Term) → clashes (is_truth a) (value_by facts) u ≡ false

-- a truth by a fact that is opposite to what its term is by itself makes the facts contradict each other
abbrev pub LoudContradict : Type 0
LoudContradict = (a : Arena) → IsArena a → (facts : List Term) (direct cores all : List (Option Bool)) → IsKnowledge a facts → AreListed a facts direct cores all
    → (t : TermId) → IsLoud a direct t → (b : Bool) × Contradicts a facts t b

-- and so does a term that clashes where nothing is supposed
abbrev pub ListedContradict : Type 0
ListedContradict = (a : Arena) → IsArena a → (facts : List Term) (direct cores all : List (Option Bool)) → AreKnown a facts direct cores all
    → (t : TermId) → ClashesListed a cores t → (b : Bool) × Contradicts a facts t b

-- where nothing follows for the questions, and each fact of a path has the value true, evaluations add nothing more
abbrev pub StillIsFinished : Type 0
StillIsFinished = (a : Arena) (c : Sequent) (facts : List Term) (ids : List TermId) → map (tree a) ids ≡ questions (asked a c) → IsStill a facts ids → AreUncrossed facts
    → (fs : List Term) → ((t : Term) → cites fs t ≡ true → value_by facts t ≡ Some true) → IsFinished (asked a c) fs (value_by facts)

-- a step that cites the numbers of all facts that are known cites these facts
abbrev pub AllAreCited : Type 0
AllAreCited = (a : Arena) (facts : List Term) (known : List Known) → AreNumbered a facts known → cited facts (numbers_of known) ≡ Some (facts_of a known)
