-- A full path is never stuck.
use Rattle.std.specs.Prelude.{◌≡◌, Bool, true, List, Option, Ok}
use Rattle.spv_whole.specs.Fraction.{Fraction}
use Rattle.spv_logic.specs.declared.conditions.TermId.{TermId}
use Rattle.spv_logic.specs.Terms.{Term}
use Rattle.spv_term.specs.declared.nodes.Condition.{Condition}
use Rattle.spv_term.specs.Arena.{Arena, tree}
use Rattle.spv_proof_rules.specs.Stand.{question}
use Rattle.spv_proof_rules.specs.Effects.{Question}
use Rattle.spv_table.specs.declared.operations.WideValue.{WideValue}
use Rattle.spv_table.specs.Kept.{listed_over}
use Rattle.spv_table.specs.Values as table
use Rattle.spv_models.specs.leaf_models.Laws.{AreFormulas, listed_at}
use Rattle.spv_models.specs.leaf_models.Leaves.{IsLeaf}
use Rattle.spv_models.specs.leaf_models.Subterms.{is_among}
use Rattle.spv_models.specs.leaf_models.Tables as tables
use Rattle.spv_models.specs.leaf_models.Tables.{formulas_of, Falsifies}
use Rattle.spv_models.specs.split_trees.Paths.{facts}
use Rattle.spv_models.specs.split_trees.Shown.{ShowsLive}
use Rattle.spv_share.specs.declared.both.Both.{Both}
use Rattle.spv_branch_theory.specs.model_construction.Firsts.{HasNodes}
use Rattle.spv_branch_theory.specs.consistency.Laws.{IsOpenState}
use Rattle.spv_verdicts.specs.model_check.Surviving.{IsNotShown, IsShown, ShowsFalse, IsFaultFor}
use Rattle.spv_verdicts.specs.declared.model_check.faults.SurvivingFault.TheVariants.{Wide}
use Rattle.spv_verdicts.specs.Verdicts.{Survives, HasWideValue}
use Rattle.spv_verdicts.specs.answers.Views.{branch_in, pairs_in}
use Rattle.spv_branch_theory.specs.saturation.Filled.{IsFilled, shown_leaf}
use Rattle.spv_branch_theory.specs.saturation.States.{AreListed, IsTableOf}

-- ---- filled paths

-- a filled path that is shown live ends in a leaf
abbrev pub ShownIsLeaf : Type 0
ShownIsLeaf = (q : Question) → AreFormulas q.shapes q.decls (formulas_of q.sequent) → (fs : List Term) (same : Term → Term → Bool) (shows : ShowsLive q fs same) (given : Term → Option Bool) → IsFilled q fs given
    → IsLeaf q.shapes q.decls (formulas_of q.sequent) (shown_leaf q fs same shows given)

-- there the hypotheses are true and the goal is false: its table falsifies the condition, where no operation is too wide
abbrev pub ShownSurvives : Type 0
ShownSurvives = (q : Question) → AreFormulas q.shapes q.decls (formulas_of q.sequent) → (cases : List Term) (same : Term → Term → Bool) (shows : ShowsLive q (facts q cases) same) (given : Term → Option Bool)
    → IsFilled q (facts q cases) given
    → ((f : Term) → is_among (formulas_of q.sequent) f ≡ true → (b : Bool) × (table.holds (listed_at q.shapes q.decls (formulas_of q.sequent) (shown_leaf q (facts q cases) same shows given)) f ≡ Ok b))
    → Falsifies q.shapes q.decls q.sequent (tables.table q.shapes q.decls (formulas_of q.sequent) (shown_leaf q (facts q cases) same shows given))

-- ---- full states

-- the subterms that a table lists were added to the graph
abbrev pub ListedAreNodes : Type 0
ListedAreNodes = (a : Arena) (c : Condition) (b : Both) (cases : List Term) (value : Term → Option Bool) → IsOpenState a c b cases value
    → (ids : List TermId) (flags : List Bool) → AreListed a c ids flags → HasNodes b.trail.graph.nodes ids flags

-- where no operation is too wide, the table of a full state shows the condition false
abbrev pub FullIsShown : Type 0
FullIsShown = (a : Arena) (c : Condition) (b : Both) (cases : List Term) (value : Term → Option Bool) (values : List (TermId × Fraction)) → IsTableOf a c b cases value values
    → ((f : Term) → is_among (formulas_of (question a c).sequent) f ≡ true → (d : Bool) × (table.holds (listed_over a values) f ≡ Ok d)) → IsShown a c (listed_over a values)

-- whatever an evaluation meets, no hypothesis is false in it, and the goal is not true
abbrev pub NeverNotShown : Type 0
NeverNotShown = (a : Arena) (c : Condition) (b : Both) (cases : List Term) (value : Term → Option Bool) (values : List (TermId × Fraction)) → IsTableOf a c b cases value values
    → IsNotShown a c (listed_over a values) → ⊥

-- where it shows the condition false, the condition is unproved, with this branch and this table
abbrev pub ShownIsUnproved : Type 0
ShownIsUnproved = (a : Arena) (c : Condition) (b : Both) (cases : List Term) (value : Term → Option Bool) (values : List (TermId × Fraction)) → IsTableOf a c b cases value values
    → (branch : List (TermId × Bool)) → ShowsFalse a c (listed_over a values) branch → Survives (question a c) (branch_in a branch) (pairs_in a values)

-- where an operation is too wide, the search may give up at it
abbrev pub WideIsReached : Type 0
WideIsReached = (a : Arena) (c : Condition) (b : Both) (cases : List Term) (value : Term → Option Bool) (values : List (TermId × Fraction)) → IsTableOf a c b cases value values
    → (t : TermId) (w : WideValue) → IsFaultFor a c (listed_over a values) (Wide t w) → HasWideValue a (question a c) (pairs_in a values) (tree a t) w
