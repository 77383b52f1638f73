-- Worked checks under a rule, that F of each whole number is 1.
use Rattle.std.specs.Prelude.{◌≡◌, ℕ, Bool, true, false, List, [], ◌∷◌, ◌++◌, Some, None, pos, slice_index_or}
use Rattle.spv_logic.specs.declared.conditions.TermId.{TermId}
use Rattle.spv_logic.specs.declared.types.Sort.TheVariants as sort
use Rattle.spv_logic.specs.declared.types.Decl.{Decl}
use Rattle.spv_logic.specs.declared.operators.Head.{Head}
use Rattle.spv_logic.specs.declared.operators.Head.TheVariants as head
use Rattle.spv_logic.specs.Terms.{Term, term, no_terms, terms}
use Rattle.spv_logic.specs.Formulas.{negation, equation}
use Rattle.spv_atoms.specs.declared.proofs.Step.TheVariants as step
use Rattle.spv_proof_rules.specs.Rules.{Rule}
use Rattle.spv_proof_rules.specs.Stops.{TooMany}
use Rattle.spv_proof_rules.specs.Outcomes.{Outcome, comes, stops, outcome}

abbrev id : ℕ → TermId
id n = record { 0 = n }

-- a variable of this number and of sort Int
abbrev variable : ℕ → Head
variable n = head.Var (record { 0 = n }) sort.Int 0

abbrev y : Term
y = term (variable 1) no_terms

abbrev one : Term
one = term (head.Num (pos 1)) no_terms

-- the symbol F, of one whole number
abbrev f_is : Decl
f_is = record { name = record { 0 = 7 }; args = sort.Int ∷ []; result = sort.Int }

abbrev f_of : Term → Term
f_of t = term (head.App (record { 0 = 7 })) (terms t no_terms)

abbrev f_is_one : Rule
f_is_one = let x = term (variable 0) no_terms in record { replaced = variable 0 ∷ []; trigger = f_of x; formula = equation (f_of x) one }

abbrev goal : Term
goal = equation one (f_of y)

-- the terms that there are: what the proofs name, by their ids from 0
abbrev known : List Term
known = one ∷ y ∷ f_of y ∷ goal ∷ []

-- of at most so many terms, the goal by what the rule of this number says of these, with its sides exchanged
abbrev by_rule : ℕ → ℕ → List TermId → Outcome Bool
by_rule most number ts =
    outcome most (record { shapes = []; decls = f_is ∷ []; at = λ t. slice_index_or known t.0 y; sequent = record { given = []; goal = goal }; rules = f_is_one ∷ [] }) known
    (record { steps = step.Given 0 ∷ step.Rule number ts ∷ step.Symm 2 ∷ step.Contra 1 (Some 3) ∷ []; split = None } ∷ [])

abbrev denied : List Term
denied = known ++ negation goal ∷ []

abbrev pub RuleIsCited : Type 0
RuleIsCited = by_rule 9 1 (id 1 ∷ []) ≡ comes (denied ++ equation (f_of y) one ∷ []) true

-- rules are numbered from 1
abbrev pub NoRuleIsThere : Type 0
NoRuleIsThere = (by_rule 9 0 (id 1 ∷ []) ≡ comes denied false) × (by_rule 9 2 (id 1 ∷ []) ≡ comes denied false)

-- there is one term for each variable, of its sort
abbrev pub TermsDoNotFit : Type 0
TermsDoNotFit = (by_rule 9 1 [] ≡ comes denied false) × (by_rule 9 1 (id 1 ∷ id 1 ∷ []) ≡ comes denied false) × (by_rule 9 1 (id 3 ∷ []) ≡ comes denied false)

-- an instance about another term is made behind its subterms, and shows nothing of y
abbrev pub OtherInstance : Type 0
OtherInstance = by_rule 9 1 (id 0 ∷ []) ≡ comes (denied ++ f_of one ∷ equation (f_of one) one ∷ equation one (f_of one) ∷ []) false

-- there is room for its subterm alone
abbrev pub NoRoomForInstance : Type 0
NoRoomForInstance = by_rule 6 1 (id 0 ∷ []) ≡ stops (denied ++ f_of one ∷ []) TooMany
