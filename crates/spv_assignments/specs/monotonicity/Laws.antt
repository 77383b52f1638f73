-- What facts give as they become more.
use Rattle.std.specs.Prelude.{◌≡◌, ◌⊎◌, Bool, true, false, List, [], ◌∷◌, ◌++◌, Some, None, is_some, if◌then◌else◌}
use Rattle.spv_logic.specs.declared.conditions.TermId.{TermId}
use Rattle.spv_logic.specs.Terms.{Term}
use Rattle.spv_logic.specs.Formulas.{negation, equation, below}
use Rattle.spv_term.specs.Arena.{Arena, tree}
use Rattle.spv_atoms.specs.Tables.{not_of}
use Rattle.spv_atoms.specs.Atoms.{is_number}
use Rattle.spv_proof_rules.specs.Sums.{negated}
use Rattle.spv_proof_rules.specs.Evaluation.{sides, cites, apart, bare}
use Rattle.spv_tableau_rules.specs.constraints.Sayings.{literal}
use Rattle.spv_assignments.specs.polarity.Cores.{IsCore}
use Rattle.spv_assignments.specs.partial_assignment.Values.{value_by, AreLiterals, AreUncrossed, AreOver, IsIn, IsCase}

-- ---- a further fact

-- facts stay literals with one of a core of which they do not say the opposite
abbrev pub LiteralsGrow : Type 0
LiteralsGrow = (facts : List Term) → AreLiterals facts → (f : Term) → negated (bare f) ≡ None → cites facts (negation f) ≡ false → ((g : Term) → f ≡ negation g → cites facts g ≡ false) → AreLiterals (facts ++ f ∷ [])

-- they stay uncrossed with an equation of whose sides they give no order, and with an order of sides whose equation is no fact
abbrev pub UncrossedGrow : Type 0
UncrossedGrow = (facts : List Term) → AreUncrossed facts → (f : Term)
    → ((s t : Term) → f ≡ equation s t → (cites facts (below s t) ≡ false) × (cites facts (below t s) ≡ false))
    → ((s t : Term) → f ≡ below s t → (cites facts (equation s t) ≡ false) × (cites facts (equation t s) ≡ false)) → AreUncrossed (facts ++ f ∷ [])

-- they stay over an arena with one of a term of it, or an order that is a case; an order is one of numbers
abbrev pub OverGrows : Type 0
OverGrows = (a : Arena) (facts : List Term) → AreOver a facts → (f : Term) → IsIn a (bare f) ⊎ IsCase f
    → ((s t : Term) → f ≡ below s t → (is_number a.shapes a.decls s ≡ true) × (is_number a.shapes a.decls t ≡ true)) → AreOver a (facts ++ f ∷ [])

-- what has a value keeps it where facts become more
abbrev pub ValuesGrow : Type 0
ValuesGrow = (few more : List Term) → ((t : Term) → cites few t ≡ true → cites more t ≡ true) → AreLiterals more → AreUncrossed more → (t : Term) (b : Bool) → value_by few t ≡ Some b → value_by more t ≡ Some b

-- ---- values, and why terms have them

-- a term has the value of its core, or the opposite one where the number of negations is odd
abbrev pub ValuesOfCores : Type 0
ValuesOfCores = (a : Arena) (t u : TermId) (even : Bool) → IsCore a t u even → (facts : List Term) → value_by facts (tree a t) ≡ (if even then value_by facts (tree a u) else not_of (value_by facts (tree a u)))

-- a term has a value where the formula that says so is true, and only there
abbrev pub LiteralsGiveValues : Type 0
LiteralsGiveValues = (facts : List Term) (t : Term) (b : Bool) → value_by facts (literal b t) ≡ Some true → value_by facts t ≡ Some b

abbrev pub ValuesGiveLiterals : Type 0
ValuesGiveLiterals = (facts : List Term) (t : Term) (b : Bool) → value_by facts t ≡ Some b → value_by facts (literal b t) ≡ Some true

-- a term that is no negation has a value because a fact says so; or it is an equation that is false, since facts give an order of its sides
abbrev pub ValuesHaveReasons : Type 0
ValuesHaveReasons = (facts : List Term) (u : Term) → negated u ≡ None → (b : Bool) → value_by facts u ≡ Some b → (cites facts (literal b u) ≡ true) ⊎ ((b ≡ false) × (is_some (apart facts (sides u)) ≡ true))

-- what a fact says is a value
abbrev pub CitedHaveValues : Type 0
CitedHaveValues = (facts : List Term) → AreLiterals facts → (t : Term) (b : Bool) → cites facts (literal b t) ≡ true → value_by facts t ≡ Some b

-- where facts give an order of two terms, their equations are false
abbrev pub OrdersMakeFalse : Type 0
OrdersMakeFalse = (facts : List Term) → AreUncrossed facts → (s t : Term) → cites facts (below s t) ≡ true → (value_by facts (equation s t) ≡ Some false) × (value_by facts (equation t s) ≡ Some false)
