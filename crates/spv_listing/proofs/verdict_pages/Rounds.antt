-- How many instances rounds have, counted one after the other.
use Rattle.std.proofs.Common.{◌≡◌, ℕ, zero, suc, ◌<◌, ◌≤◌, ◌+◌, ◌-◌, Option, Result, OnOk, List, [], ◌∷◌, ◌++◌, length, take, get_or, codes, decimal, refl, sym, ap, ◌∙◌, subst, arith}
use mathlib.Core.Path.{ap₂}
use Rattle.std.proofs.lemmas.List.{length-map}
use Rattle.spv_logic.specs.declared.names.names.Symbol.{Symbol}
use Rattle.spv_term.specs.Arena.{Arena}
use Rattle.spv_verdicts.specs.declared.answers.verdicts.Limit.{Limit}
use Rattle.spv_verdicts.specs.declared.answers.verdicts.Limit.TheVariants as limit
use Rattle.spv_verdicts.specs.declared.answers.verdicts.Round.{Round}
use Rattle.spv_verdicts.specs.declared.answers.verdicts.Wide.{Wide}
use Rattle.spv_verdicts.specs.declared.answers.verdicts.Wide.TheVariants as wide
use Rattle.spv_verdicts.specs.answers.Views.{instance_in, limit_in, rounds_in, wide_in}
use Rattle.spv_listing.specs.verdict_pages.Counting.{member_total}
use Rattle.spv_listing.specs.verdict_pages.VerdictLines.{limit_text, member_count, wide_text}

nowhere : (k : ℕ) → k < 0 → ⊥
nowhere k h = omega (arith, h)

-- over trees they have as many
pub members_counted : (a : Arena) (rounds : List Round) → member_count (rounds_in a rounds) ≡ member_total rounds
members_counted a [] = refl
members_counted a (r ∷ rounds) = ap₂ (λ m n. m + n) (length-map r.members (instance_in a)) (members_counted a rounds)

pub total_more : (rounds : List Round) (k : ℕ) (r : Round) → k < length rounds → r ≡ get_or rounds k r → member_total (take (k + 1) rounds) ≡ member_total (take k rounds) + length r.members
total_more rounds k r within is = ap (λ n. member_total (take n rounds)) (next k) ∙ (go rounds k within ∙ ap (λ (x : Round). member_total (take k rounds) + length x.members) (sym is))
  where
    next : (n : ℕ) → n + 1 ≡ suc n
    next n = omega arith

    plain : (w : ℕ) → w + 0 ≡ 0 + w
    plain w = omega arith

    grouped : (w a b c : ℕ) → a ≡ b + c → w + a ≡ (w + b) + c
    grouped w a b c e = omega (arith, e)

    go : (rs : List Round) (n : ℕ) → n < length rs → member_total (take (suc n) rs) ≡ member_total (take n rs) + length (get_or rs n r).members
    go [] n h = absurd (nowhere n h)
    go (x ∷ rs) zero h = plain (length x.members)
    go (x ∷ rs) (suc n) h = grouped (length x.members) (member_total (take (suc n) rs)) (member_total (take n rs)) (length (get_or rs n r).members) (go rs n (omega (arith, h)))

pub total_all : (rounds : List Round) (k n : ℕ) → length rounds ≤ k → n ≡ member_total (take k rounds) → n ≡ member_total rounds
total_all rounds k n h e = e ∙ ap member_total (all rounds k h)
  where
    none : (i : ℕ) → suc i ≤ 0 → ⊥
    none i b = omega (arith, b)

    all : (rs : List Round) (m : ℕ) → length rs ≤ m → take m rs ≡ rs
    all [] zero b = refl
    all [] (suc m) b = refl
    all (x ∷ rs) zero b = absurd (none (length rs) b)
    all (x ∷ rs) (suc m) b = ap (λ l. x ∷ l) (all rs m (omega (arith, b)))

-- what is said of the instances of rounds over any terms is said of them over those of an arena
pub instances_limit : {T F : Type 0} (names : List (List ℕ)) (titles : List (Option Symbol)) (rounds : List Round) (a : Arena) (l : Limit) (r : Result T F) (old new : List ℕ)
    → l ≡ limit.Instances → ((b : Arena) → OnOk r (new ≡ old ++ (codes "INSTANCES " ++ decimal (member_count (rounds_in b rounds) - 1))))
    → OnOk r (new ≡ old ++ limit_text names titles (rounds_in a rounds) (limit_in a l))
instances_limit names titles rounds a l r old new is says = subst (λ m. OnOk r (new ≡ old ++ limit_text names titles (rounds_in a rounds) (limit_in a m))) (sym is) (says a)

-- a number that does not fit is a limit, whatever the rounds are
pub number_limit : {T F : Type 0} (names : List (List ℕ)) (titles : List (Option Symbol)) (rounds : List Round) (a : Arena) (l : Limit) (w : Wide) (r : Result T F) (old new : List ℕ)
    → l ≡ limit.Number w → OnOk r (new ≡ old ++ wide_text names titles (wide_in a w)) → OnOk r (new ≡ old ++ limit_text names titles (rounds_in a rounds) (limit_in a l))
number_limit names titles rounds a l w r old new is says =
    subst (λ m. OnOk r (new ≡ old ++ limit_text names titles (rounds_in a rounds) (limit_in a m))) (sym is) (subst (λ t. OnOk r (new ≡ old ++ t)) (sym (same w)) says)
  where
    same : (x : Wide) → limit_text names titles (rounds_in a rounds) (wide_in a x) ≡ wide_text names titles (wide_in a x)
    same (wide.Form t) = refl
    same (wide.Pivot e) = refl
    same (wide.Sum nodes op m n) = refl
    same (wide.Value table t op m n) = refl
