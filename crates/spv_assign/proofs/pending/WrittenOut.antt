-- Steps written out as conditions, one by one.
use Rattle.std.proofs.Common.{◌≡◌, ℕ, zero, suc, ◌+◌, ◌<◌, List, [], ◌∷◌, ◌++◌, drop, length, get_or, refl, sym, ap, ◌∙◌, subst, arith}
use Rattle.std.proofs.lemmas.List.{append_assoc, append-nil, drop_more}
use Rattle.spv_logic.specs.declared.conditions.TermId.{TermId}
use Rattle.spv_logic.specs.declared.conditions.Origin.{Origin}
use Rattle.spv_term.specs.declared.nodes.Condition.{Condition}
use Rattle.spv_assign.specs.declared.pending.steps.Assumption.{Assumption}
use Rattle.spv_assign.specs.declared.pending.steps.Step.{Step}
use Rattle.spv_assign.specs.declared.pending.steps.Step.TheVariants.{Goal, Given}
use Rattle.spv_assign.specs.Conditions.{with_given}
use Rattle.spv_assign.specs.pending.Steps.{at_first, conditions_in, AreSteps, under, left_of, left_behind, terms_of, AreUsed, Takes}

-- ---- hypotheses that are in use

-- one more hypothesis, innermost
pub under_one_more : (known : List Assumption) (h : Assumption) (cs : List Condition) → under (known ++ h ∷ []) cs ≡ under known (at_first (with_given h.term) h.count cs)
under_one_more [] h cs = refl
under_one_more (k ∷ known) h cs = ap (at_first (with_given k.term) k.count) (under_one_more known h cs)

pub used_one_more : (known : List Assumption) (h : Assumption) → AreUsed known → 0 < h.count → AreUsed (known ++ h ∷ [])
used_one_more [] h used more = (more, tt)
used_one_more (k ∷ known) h used more = (used.0, used_one_more known h used.1 more)

used_left_of : (t : TermId) (n : ℕ) (known : List Assumption) → AreUsed known → AreUsed (left_of t n known)
used_left_of t zero known h = h
used_left_of t (suc zero) known h = h
used_left_of t (suc (suc n)) known h = (omega arith, h)

pub used_behind : (known : List Assumption) → AreUsed known → AreUsed (left_behind known)
used_behind [] h = tt
used_behind (k ∷ known) h = used_left_of k.term k.count (left_behind known) (used_behind known h.1)

-- a condition with all that is given in front of it
abbrev pub given_all : List Assumption → TermId → Origin → Condition
given_all known t o = record { given = terms_of known; goal = t; origin = o }

under_this : (t : TermId) (n : ℕ) (known : List Assumption) (c : Condition) (cs : List Condition) → 0 < n
    → at_first (with_given t) n (c ∷ under known cs) ≡ with_given t c ∷ under (left_of t n known) cs
under_this t zero known c cs h = absurd (omega (arith, h))
under_this t (suc zero) known c cs h = refl
under_this t (suc (suc n)) known c cs h = refl

-- the first condition is done
pub under_first : (known : List Assumption) (t : TermId) (o : Origin) (cs : List Condition) → AreUsed known
    → under known (record { given = []; goal = t; origin = o } ∷ cs) ≡ given_all known t o ∷ under (left_behind known) cs
under_first [] t o cs h = refl
under_first (k ∷ known) t o cs h =
    ap (at_first (with_given k.term) k.count) (under_first known t o cs h.1)
    ∙ under_this k.term k.count (left_behind known) (given_all known t o) cs h.0

-- ---- the loop

-- what is written out so far, and what the rest of the steps leads to under the hypotheses in use
pub record Listed (steps rest : List Step) (known : List Assumption) (made : List Condition) : Type 0 where
  pub same : made ++ under known (conditions_in rest) ≡ conditions_in steps
  pub used : AreUsed known
  pub steps_left : AreSteps rest

pub nothing_listed : (steps : List Step) → AreSteps steps → Listed steps steps [] []
nothing_listed steps h = record { same = refl; used = tt; steps_left = h }

given_listed : (steps rest others : List Step) (known more : List Assumption) (made : List Condition) (h : Assumption) → rest ≡ Given h ∷ others → more ≡ known ++ h ∷ []
    → Listed steps rest known made → Listed steps others more made
given_listed steps rest others known more made h is is_more l =
    let same : made ++ under known (conditions_in (Given h ∷ others)) ≡ conditions_in steps = subst (λ (r : List Step). made ++ under known (conditions_in r) ≡ conditions_in steps) is l.same in
    let left : AreSteps (Given h ∷ others) = subst AreSteps is l.steps_left in
    subst (λ (m : List Assumption). Listed steps others m made) (sym is_more) (record {
      same = ap (λ (cs : List Condition). made ++ cs) (under_one_more known h (conditions_in others)) ∙ same;
      used = used_one_more known h l.used left.0;
      steps_left = left.2;
    })

goal_listed : (steps rest others : List Step) (known left : List Assumption) (made more : List Condition) (given : List TermId) (t : TermId) (o : Origin) → rest ≡ Goal t o ∷ others
    → given ≡ terms_of known → left ≡ left_behind known → more ≡ made ++ record { given = given; goal = t; origin = o } ∷ [] → Listed steps rest known made → Listed steps others left more
goal_listed steps rest others known left made more given t o is is_given is_left is_more l =
    let same : made ++ under known (conditions_in (Goal t o ∷ others)) ≡ conditions_in steps = subst (λ (r : List Step). made ++ under known (conditions_in r) ≡ conditions_in steps) is l.same in
    let all : more ≡ made ++ given_all known t o ∷ [] = is_more ∙ ap (λ (ts : List TermId). made ++ record { given = ts; goal = t; origin = o } ∷ []) is_given in
    record {
      same =
          (λ i. all i ++ under (is_left i) (conditions_in others))
          ∙ (append_assoc made (given_all known t o ∷ []) (under (left_behind known) (conditions_in others))
          ∙ (ap (λ (cs : List Condition). made ++ cs) (sym (under_first known t o (conditions_in others) l.used)) ∙ same));
      used = subst AreUsed (sym is_left) (used_behind known l.used);
      steps_left = subst AreSteps is l.steps_left;
    }

-- the next step
pub step_listed : (steps : List Step) (i : ℕ) (step : Step) (known left : List Assumption) (made more : List Condition) → i < length steps → step ≡ get_or steps i step
    → Takes step known made left more → Listed steps (drop i steps) known made → Listed steps (drop (i + 1) steps) left more
step_listed steps i (Given h) known left made more within is t l =
    subst (λ (cs : List Condition). Listed steps (drop (i + 1) steps) left cs) (sym t.1)
    (given_listed steps (drop i steps) (drop (i + 1) steps) known left made h (drop_more steps i (Given h) within ∙ ap (λ s. s ∷ drop (i + 1) steps) (sym is)) t.0 l)
step_listed steps i (Goal u o) known left made more within is t l =
    goal_listed steps (drop i steps) (drop (i + 1) steps) known left made more (terms_of known) u o (drop_more steps i (Goal u o) within ∙ ap (λ s. s ∷ drop (i + 1) steps) (sym is)) refl t.0 t.1 l

pub all_listed : (steps rest : List Step) (known : List Assumption) (made : List Condition) → rest ≡ [] → Listed steps rest known made → made ≡ conditions_in steps
all_listed steps rest known made is l =
    let same : made ++ under known [] ≡ conditions_in steps = subst (λ (r : List Step). made ++ under known (conditions_in r) ≡ conditions_in steps) is l.same in
    sym (append-nil made) ∙ (ap (λ (cs : List Condition). made ++ cs) (sym (under_nothing known)) ∙ same)
  where
    nothing : (t : TermId) (n : ℕ) → at_first (with_given t) n [] ≡ []
    nothing t zero = refl
    nothing t (suc n) = refl

    under_nothing : (known : List Assumption) → under known [] ≡ []
    under_nothing [] = refl
    under_nothing (k ∷ known) = ap (at_first (with_given k.term) k.count) (under_nothing known) ∙ nothing k.term k.count
