-- Texts that are added one after the other.
use Rattle.std.proofs.Common.{◌≡◌, ℕ, zero, suc, ◌<◌, ◌≤◌, ◌+◌, List, [], ◌∷◌, ◌++◌, length, take, get_or, Bool, refl, sym, ap, ◌∙◌, append_assoc, append-nil, arith}
use Rattle.spv_term.specs.declared.nodes.Condition.{Condition}
use Rattle.spv_term.specs.Arena.{Arena}
use Rattle.spv_verdicts.specs.declared.answers.verdicts.Decided.{Decided}
use Rattle.spv_verdicts.specs.answers.Views.{VerdictIn}
use Rattle.spv_reports.specs.declared.report.ProgramNames.{ProgramNames}
use Rattle.spv_assign.specs.Conditions.{AreIn, IsIn, condition_of, conditions_of}
use Rattle.spv_listing.specs.Page.{claim_lines, claims, condition_lines, blocks, checked_line, checked_lines, AreDecided}

-- one text, and then another
pub then_added : {A : Type 0} (o p q a b : List A) → p ≡ o ++ a → q ≡ p ++ b → q ≡ o ++ (a ++ b)
then_added o p q a b e f = f ∙ ap (λ l. l ++ b) e ∙ append_assoc o a b

-- ---- verdicts by their place

not_below_zero : (k : ℕ) → k < 0 → ⊥
not_below_zero k h = grind (arith)

below : (k n : ℕ) → suc k < suc n → k < n
below k n h = grind (arith)

pub same_length : (cs : List Condition) (vs : List Decided) → AreDecided cs vs → length cs ≡ length vs
same_length [] [] right = refl
same_length [] (v ∷ vs) right = absurd right
same_length (c ∷ cs) [] right = absurd right
same_length (c ∷ cs) (v ∷ vs) right = ap suc (same_length cs vs right.1)

pub verdict_at : (cs : List Condition) (vs : List Decided) (k : ℕ) (c : Condition) (v : Decided) → AreDecided cs vs → k < length cs → VerdictIn (get_or vs k v).terms (get_or vs k v).verdict
verdict_at [] vs k c v right within = absurd (not_below_zero k within)
verdict_at (d ∷ cs) [] k c v right within = absurd right
verdict_at (d ∷ cs) (w ∷ vs) zero c v right within = right.0
verdict_at (d ∷ cs) (w ∷ vs) (suc k) c v right within = verdict_at cs vs k c v right.1 (below k (length cs) within)

-- ---- blocks

pub blocks_more : (proofs : Bool) (named : ProgramNames) (a : Arena) (n : ℕ) (cs : List Condition) (vs : List Decided) (k : ℕ) (c : Condition) (v : Decided)
    → AreDecided cs vs → k < length cs
    → blocks proofs named n (conditions_of a (take (suc k) cs)) (take (suc k) vs)
    ≡ blocks proofs named n (conditions_of a (take k cs)) (take k vs) ++ condition_lines proofs named (k + n) (condition_of a (get_or cs k c)) (get_or vs k v)
blocks_more proofs named a n [] vs k c v right within = absurd (not_below_zero k within)
blocks_more proofs named a n (d ∷ cs) [] k c v right within = absurd right
blocks_more proofs named a n (d ∷ cs) (w ∷ vs) zero c v right within =
    append-nil (condition_lines proofs named n (condition_of a d) w) ∙ ap (λ m. condition_lines proofs named m (condition_of a d) w) (plain n)
  where
    plain : (i : ℕ) → i ≡ 0 + i
    plain i = grind (arith)
blocks_more proofs named a n (d ∷ cs) (w ∷ vs) (suc k) c v right within =
    let here = condition_lines proofs named n (condition_of a d) w in
    let later : ℕ → List ℕ = λ m. condition_lines proofs named m (condition_of a (get_or cs k c)) (get_or vs k v) in
    let more = blocks_more proofs named a (suc n) cs vs k c v right.1 (below k (length cs) within) in
    ap (λ l. here ++ l) more
    ∙ sym (append_assoc here (blocks proofs named (suc n) (conditions_of a (take k cs)) (take k vs)) (later (k + suc n)))
    ∙ ap (λ m. (here ++ blocks proofs named (suc n) (conditions_of a (take k cs)) (take k vs)) ++ later m) (shift k n)
  where
    shift : (i j : ℕ) → i + suc j ≡ suc i + j
    shift i j = grind (arith)

-- from the length on, all are taken
pub blocks_all : (proofs : Bool) (named : ProgramNames) (a : Arena) (n : ℕ) (cs : List Condition) (vs : List Decided) (k : ℕ)
    → AreDecided cs vs → length cs ≤ k → blocks proofs named n (conditions_of a (take k cs)) (take k vs) ≡ blocks proofs named n (conditions_of a cs) vs
blocks_all proofs named a n [] [] zero right all = refl
blocks_all proofs named a n [] [] (suc k) right all = refl
blocks_all proofs named a n [] (v ∷ vs) k right all = absurd right
blocks_all proofs named a n (c ∷ cs) [] k right all = absurd right
blocks_all proofs named a n (c ∷ cs) (v ∷ vs) zero right all = absurd (none (length cs) all)
  where
    none : (i : ℕ) → suc i ≤ 0 → ⊥
    none i h = grind (arith)
blocks_all proofs named a n (c ∷ cs) (v ∷ vs) (suc k) right all =
    ap (λ l. condition_lines proofs named n (condition_of a c) v ++ l) (blocks_all proofs named a (suc n) cs vs k right.1 (less (length cs) k all))
  where
    less : (i j : ℕ) → suc i ≤ suc j → i ≤ j
    less i j h = grind (arith)

-- ---- lines of conditions whose proofs were checked

pub checked_more : (named : ProgramNames) (n : ℕ) (cs : List Condition) (vs : List Decided) (k : ℕ) (c : Condition) (v : Decided)
    → AreDecided cs vs → k < length cs
    → checked_lines named n (take (suc k) cs) (take (suc k) vs) ≡ checked_lines named n (take k cs) (take k vs) ++ checked_line named (k + n) (get_or cs k c).origin (get_or vs k v)
checked_more named n [] vs k c v right within = absurd (not_below_zero k within)
checked_more named n (d ∷ cs) [] k c v right within = absurd right
checked_more named n (d ∷ cs) (w ∷ vs) zero c v right within =
    append-nil (checked_line named n d.origin w) ∙ ap (λ m. checked_line named m d.origin w) (plain n)
  where
    plain : (i : ℕ) → i ≡ 0 + i
    plain i = grind (arith)
checked_more named n (d ∷ cs) (w ∷ vs) (suc k) c v right within =
    let here = checked_line named n d.origin w in
    let later : ℕ → List ℕ = λ m. checked_line named m (get_or cs k c).origin (get_or vs k v) in
    let more = checked_more named (suc n) cs vs k c v right.1 (below k (length cs) within) in
    ap (λ l. here ++ l) more
    ∙ sym (append_assoc here (checked_lines named (suc n) (take k cs) (take k vs)) (later (k + suc n)))
    ∙ ap (λ m. (here ++ checked_lines named (suc n) (take k cs) (take k vs)) ++ later m) (shift k n)
  where
    shift : (i j : ℕ) → i + suc j ≡ suc i + j
    shift i j = grind (arith)

-- from the length on, all are taken
pub checked_all : (named : ProgramNames) (n : ℕ) (cs : List Condition) (vs : List Decided) (k : ℕ)
    → AreDecided cs vs → length cs ≤ k → checked_lines named n (take k cs) (take k vs) ≡ checked_lines named n cs vs
checked_all named n [] [] zero right all = refl
checked_all named n [] [] (suc k) right all = refl
checked_all named n [] (v ∷ vs) k right all = absurd right
checked_all named n (c ∷ cs) [] k right all = absurd right
checked_all named n (c ∷ cs) (v ∷ vs) zero right all = absurd (none (length cs) all)
  where
    none : (i : ℕ) → suc i ≤ 0 → ⊥
    none i h = grind (arith)
checked_all named n (c ∷ cs) (v ∷ vs) (suc k) right all =
    ap (λ l. checked_line named n c.origin v ++ l) (checked_all named (suc n) cs vs k right.1 (less (length cs) k all))
  where
    less : (i j : ℕ) → suc i ≤ suc j → i ≤ j
    less i j h = grind (arith)

-- ---- conditions alone

pub claims_more : (named : ProgramNames) (a : Arena) (n : ℕ) (cs : List Condition) (k : ℕ) (c : Condition) → k < length cs
    → claims named n (conditions_of a (take (suc k) cs)) ≡ claims named n (conditions_of a (take k cs)) ++ claim_lines named (k + n) (condition_of a (get_or cs k c))
claims_more named a n [] k c within = absurd (not_below_zero k within)
claims_more named a n (d ∷ cs) zero c within = append-nil (claim_lines named n (condition_of a d)) ∙ ap (λ m. claim_lines named m (condition_of a d)) (plain n)
  where
    plain : (i : ℕ) → i ≡ 0 + i
    plain i = grind (arith)
claims_more named a n (d ∷ cs) (suc k) c within =
    let here = claim_lines named n (condition_of a d) in
    let later : ℕ → List ℕ = λ m. claim_lines named m (condition_of a (get_or cs k c)) in
    let more = claims_more named a (suc n) cs k c (below k (length cs) within) in
    ap (λ l. here ++ l) more
    ∙ sym (append_assoc here (claims named (suc n) (conditions_of a (take k cs))) (later (k + suc n)))
    ∙ ap (λ m. (here ++ claims named (suc n) (conditions_of a (take k cs))) ++ later m) (shift k n)
  where
    shift : (i j : ℕ) → i + suc j ≡ suc i + j
    shift i j = grind (arith)

pub claims_all : (named : ProgramNames) (a : Arena) (n : ℕ) (cs : List Condition) (k : ℕ) → length cs ≤ k → claims named n (conditions_of a (take k cs)) ≡ claims named n (conditions_of a cs)
claims_all named a n [] zero all = refl
claims_all named a n [] (suc k) all = refl
claims_all named a n (c ∷ cs) zero all = absurd (none (length cs) all)
  where
    none : (i : ℕ) → suc i ≤ 0 → ⊥
    none i h = grind (arith)
claims_all named a n (c ∷ cs) (suc k) all = ap (λ l. claim_lines named n (condition_of a c) ++ l) (claims_all named a (suc n) cs k (less (length cs) k all))
  where
    less : (i j : ℕ) → suc i ≤ suc j → i ≤ j
    less i j h = grind (arith)

pub in_at : (a : Arena) (cs : List Condition) (k : ℕ) (c : Condition) → AreIn a cs → k < length cs → IsIn a (get_or cs k c)
in_at a [] k c within h = absurd (not_below_zero k h)
in_at a (d ∷ cs) zero c within h = within.0
in_at a (d ∷ cs) (suc k) c within h = in_at a cs k c within.1 (below k (length cs) h)
