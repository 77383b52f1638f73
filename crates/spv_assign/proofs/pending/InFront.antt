-- Steps one behind the other, and hypotheses in front of the first conditions.
use Rattle.std.proofs.Common.{◌≡◌, ℕ, zero, suc, ◌+◌, ◌<◌, ◌≤◌, List, [], ◌∷◌, ◌++◌, map, length, refl, sym, ap, ◌∙◌, subst, arith}
use Rattle.std.proofs.lemmas.List.{length-append}
use Rattle.spv_logic.specs.declared.conditions.TermId.{TermId}
use Rattle.spv_term.specs.declared.nodes.Condition.{Condition}
use Rattle.spv_assign.specs.declared.pending.steps.Step.{Step}
use Rattle.spv_assign.specs.declared.pending.steps.Step.TheVariants.{Goal, Given}
use Rattle.spv_assign.specs.Conditions.{with_given}
use Rattle.spv_assign.specs.pending.Steps.{at_first, conditions_in, AreSteps}

-- ---- the first items changed

pub length-at_first : {A : Type 0} (f : A → A) (n : ℕ) (xs : List A) → length (at_first f n xs) ≡ length xs
length-at_first f zero xs = refl
length-at_first f (suc n) [] = refl
length-at_first f (suc n) (x ∷ xs) = ap suc (length-at_first f n xs)

pub at_first-append : {A : Type 0} (f : A → A) (n : ℕ) (xs ys : List A) → n ≤ length xs → at_first f n (xs ++ ys) ≡ at_first f n xs ++ ys
at_first-append f zero xs ys h = refl
at_first-append f (suc n) [] ys h = absurd (omega (arith, h))
at_first-append f (suc n) (x ∷ xs) ys h = ap (λ zs. f x ∷ zs) (at_first-append f n xs ys (omega (arith, h)))

pub at_first-all : {A : Type 0} (f : A → A) (xs : List A) → at_first f (length xs) xs ≡ map f xs
at_first-all f [] = refl
at_first-all f (x ∷ xs) = ap (λ zs. f x ∷ zs) (at_first-all f xs)

-- what is shown of items, of which the first are changed
pub map-at_first : {A B : Type 0} (f : A → A) (g : A → B) (k : B → B) → ((x : A) → g (f x) ≡ k (g x)) → (n : ℕ) (xs : List A) → map g (at_first f n xs) ≡ at_first k n (map g xs)
map-at_first f g k e zero xs = refl
map-at_first f g k e (suc n) [] = refl
map-at_first f g k e (suc n) (x ∷ xs) =
    let first = e x in let others = map-at_first f g k e n xs in
    λ i. first i ∷ others i

-- ---- steps in front of others

pub conditions_in-append : (xs ys : List Step) → AreSteps xs → conditions_in (xs ++ ys) ≡ conditions_in xs ++ conditions_in ys
conditions_in-append [] ys h = refl
conditions_in-append (Goal t o ∷ xs) ys h = ap (λ (cs : List Condition). record { given = []; goal = t; origin = o } ∷ cs) (conditions_in-append xs ys h)
conditions_in-append (Given g ∷ xs) ys h =
    ap (at_first (with_given g.term) g.count) (conditions_in-append xs ys h.2)
    ∙ at_first-append (with_given g.term) g.count (conditions_in xs) (conditions_in ys) h.1

pub AreSteps-append : (xs ys : List Step) → AreSteps xs → AreSteps ys → AreSteps (xs ++ ys)
AreSteps-append [] ys h k = k
AreSteps-append (Goal t o ∷ xs) ys h k = AreSteps-append xs ys h k
AreSteps-append (Given g ∷ xs) ys h k =
    let longer : length (conditions_in (xs ++ ys)) ≡ length (conditions_in xs ++ conditions_in ys) = ap (λ (cs : List Condition). length cs) (conditions_in-append xs ys h.2) in
    let both = length-append (conditions_in xs) (conditions_in ys) in
    let within = h.1 in
    (h.0, omega (arith, longer, both, within), AreSteps-append xs ys h.2 k)

pub joined_steps : (xs ys all : List Step) (m n : ℕ) → AreSteps xs × (m ≡ length (conditions_in xs)) → AreSteps ys × (n ≡ length (conditions_in ys)) → all ≡ xs ++ ys
    → AreSteps all × (m + n ≡ length (conditions_in all))
joined_steps xs ys all m n h k is =
    subst (λ (ss : List Step). AreSteps ss × (m + n ≡ length (conditions_in ss))) (sym is)
    (let longer : length (conditions_in (xs ++ ys)) ≡ length (conditions_in xs ++ conditions_in ys) = ap (λ (cs : List Condition). length cs) (conditions_in-append xs ys h.0) in
    let both = length-append (conditions_in xs) (conditions_in ys) in
    let first = h.1 in
    let second = k.1 in
    (AreSteps-append xs ys h.0 k.0, omega (arith, longer, both, first, second)))

-- ---- one hypothesis more

pub given_steps : (steps more : List Step) (h : TermId) (n : ℕ) → AreSteps steps × (n ≡ length (conditions_in steps)) → 0 < n → more ≡ Given (record { term = h; count = n }) ∷ steps
    → AreSteps more × (n ≡ length (conditions_in more))
given_steps steps more h n ok some is =
    subst (λ (ss : List Step). AreSteps ss × (n ≡ length (conditions_in ss))) (sym is)
    (let count = ok.1 in ((some, omega (arith, count), ok.0), count ∙ sym (length-at_first (with_given h) n (conditions_in steps))))

pub given_conditions : (steps more : List Step) (h : TermId) (n : ℕ) → AreSteps steps × (n ≡ length (conditions_in steps)) → more ≡ Given (record { term = h; count = n }) ∷ steps
    → conditions_in more ≡ map (with_given h) (conditions_in steps)
given_conditions steps more h n ok is =
    ap conditions_in is ∙ (ap (λ k. at_first (with_given h) k (conditions_in steps)) ok.1 ∙ at_first-all (with_given h) (conditions_in steps))

pub nothing_given : (h : TermId) (cs : List Condition) → length cs ≡ 0 → cs ≡ map (with_given h) cs
nothing_given h [] e = refl
nothing_given h (c ∷ cs) e = absurd (omega (arith, e))
