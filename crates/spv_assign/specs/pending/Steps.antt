-- The conditions that steps lead to: goals, and hypotheses in front of the first of them.
use Rattle.std.specs.Prelude.{◌≡◌, ℕ, zero, suc, ◌<◌, ◌≤◌, List, [], ◌∷◌, ◌++◌, map, length}
use Rattle.spv_logic.specs.declared.conditions.TermId.{TermId}
use Rattle.spv_term.specs.declared.nodes.Condition.{Condition}
use Rattle.spv_assign.specs.declared.pending.steps.Assumption.{Assumption}
use Rattle.spv_assign.specs.declared.pending.steps.Step.{Step}
use Rattle.spv_assign.specs.declared.pending.steps.Step.TheVariants.{Goal, Given}
use Rattle.spv_assign.specs.Conditions.{with_given}

-- the first so many items changed
abbrev pub at_first : {A : Type 0} → (A → A) → ℕ → List A → List A
at_first f zero xs = xs
at_first f (suc n) [] = []
at_first f (suc n) (x ∷ xs) = f x ∷ at_first f n xs

-- the conditions of steps, of which the last one that was taken stands first
abbrev pub conditions_in : List Step → List Condition
conditions_in [] = []
conditions_in (Goal t o ∷ steps) = record { given = []; goal = t; origin = o } ∷ conditions_in steps
conditions_in (Given h ∷ steps) = at_first (with_given h.term) h.count (conditions_in steps)

-- a hypothesis stands in front of one condition at least, and of no more than there are
abbrev pub AreSteps : List Step → Type 0
AreSteps [] = Unit {0}
AreSteps (Goal t o ∷ steps) = AreSteps steps
AreSteps (Given h ∷ steps) = (0 < h.count) × (h.count ≤ length (conditions_in steps)) × AreSteps steps

-- the term of a step: a goal, or a hypothesis
abbrev pub id_of : Step → TermId
id_of (Goal t o) = t
id_of (Given h) = h.term

-- a step with this term in the place of its own
abbrev pub with_id : Step → TermId → Step
with_id (Goal t o) u = Goal u o
with_id (Given h) u = Given (record { term = u; count = h.count })

-- steps with these terms in the place of their own, in order
abbrev pub all_with_id : List Step → List TermId → List Step
all_with_id [] ids = []
all_with_id (step ∷ steps) [] = []
all_with_id (step ∷ steps) (t ∷ ids) = with_id step t ∷ all_with_id steps ids

-- ---- conditions one by one

-- hypotheses in front of the first of these conditions, the first one outermost
abbrev pub under : List Assumption → List Condition → List Condition
under [] conditions = conditions
under (h ∷ known) conditions = at_first (with_given h.term) h.count (under known conditions)

-- a hypothesis of which one condition is done, in front of others; none where it was the last
abbrev pub left_of : TermId → ℕ → List Assumption → List Assumption
left_of t zero known = known
left_of t (suc zero) known = known
left_of t (suc (suc n)) known = record { term = t; count = suc n } ∷ known

-- the hypotheses that are left where one condition is done
abbrev pub left_behind : List Assumption → List Assumption
left_behind [] = []
left_behind (h ∷ known) = left_of h.term h.count (left_behind known)

-- the terms of hypotheses
abbrev pub terms_of : List Assumption → List TermId
terms_of known = map (λ h. h.term) known

-- each hypothesis stands in front of a condition
abbrev pub AreUsed : List Assumption → Type 0
AreUsed [] = Unit {0}
AreUsed (h ∷ known) = (0 < h.count) × AreUsed known

-- what a step does with the hypotheses in use and the conditions so far
abbrev pub Takes : Step → List Assumption → List Condition → List Assumption → List Condition → Type 0
Takes (Given h) known all left more = (left ≡ known ++ h ∷ []) × (more ≡ all)
Takes (Goal t o) known all left more = (left ≡ left_behind known) × (more ≡ all ++ record { given = terms_of known; goal = t; origin = o } ∷ [])
