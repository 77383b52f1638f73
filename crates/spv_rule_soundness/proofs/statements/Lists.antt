-- The truth of lists of conditions, by how they are made.
use Rattle.std.proofs.Common.{◌≡◌, Bool, true, false, not, ◌&&◌, ◌||◌, List, [], ◌∷◌, ◌++◌, map, refl, sym, ap, ◌∙◌}
use Rattle.std.specs.List.{list_all}
use Rattle.std.proofs.lemmas.Bool.{false≢true}
use Rattle.spv_logic.specs.declared.operators.Head.{Head}
use Rattle.spv_logic.specs.Values.{truth_of}
use Rattle.spv_logic.specs.Terms.{Term, eval}
use Rattle.spv_logic.specs.Substitution.{Replacement, substitute, under}
use Rattle.spv_logic.specs.Conditions.{Meaning, Valuation, Condition, holds, follows}
use Rattle.spv_logic.proofs.list.Tests.{left_true, right_true}
use Rattle.spv_logic.proofs.Substitution.{eval-substitute}
use Rattle.spv_program.specs.Programs.{Program}
use Rattle.spv_program.specs.Supplies.{Supply}
use Rattle.spv_program.specs.Calls.{replacing}
use Rattle.spv_meaning.specs.Before.{assuming, all_assuming, replaced}
use Rattle.spv_rule_soundness.specs.statements.Truth.{is_new, IsLater, meaning_in, all_follow, Ignores, TermIgnores}

-- ---- the parts of a list

pub follow-append : (symbols : Meaning) (v : Valuation) (xs ys : List Condition) → all_follow symbols v (xs ++ ys) ≡ (all_follow symbols v xs && all_follow symbols v ys)
follow-append symbols v [] ys = refl
follow-append symbols v (c ∷ xs) ys =
    ap (λ b. follows symbols v c.claim && b) (follow-append symbols v xs ys) ∙ and_turned (follows symbols v c.claim) (all_follow symbols v xs) (all_follow symbols v ys)
  where
    and_turned : (a b c : Bool) → (a && (b && c)) ≡ ((a && b) && c)
    and_turned true b c = refl
    and_turned false b c = refl

implied : (h g b rest : Bool) → ((not (h && g) || b) && (not h || rest)) ≡ (not h || ((not g || b) && rest))
implied true g b rest = refl
implied false g b rest = refl

pub follow-assuming : (symbols : Meaning) (v : Valuation) (h : Term) (conditions : List Condition) → all_follow symbols v (all_assuming h conditions) ≡ (not (holds symbols v h) || all_follow symbols v conditions)
follow-assuming symbols v h [] = sym (or_true (not (holds symbols v h)))
  where
    or_true : (b : Bool) → (b || true) ≡ true
    or_true true = refl
    or_true false = refl
follow-assuming symbols v h (c ∷ conditions) =
    ap (λ b. follows symbols v (assuming h c).claim && b) (follow-assuming symbols v h conditions)
    ∙ implied (holds symbols v h) (list_all (holds symbols v) c.claim.given) (holds symbols v c.claim.goal) (all_follow symbols v conditions)

holds-substituted : (symbols : Meaning) (by : Replacement) (v : Valuation) (ts : List Term) → list_all (holds symbols v) (map (substitute by) ts) ≡ list_all (holds symbols (under symbols by v)) ts
holds-substituted symbols by v [] = refl
holds-substituted symbols by v (t ∷ ts) =
    ap (λ b. truth_of b && list_all (holds symbols v) (map (substitute by) ts)) (eval-substitute symbols by v t)
    ∙ ap (λ b. holds symbols (under symbols by v) t && b) (holds-substituted symbols by v ts)

pub follow-replaced : (symbols : Meaning) (v : Valuation) (pairs : List (Head × Term)) (conditions : List Condition) → all_follow symbols v (replaced pairs conditions) ≡ all_follow symbols (under symbols (replacing pairs) v) conditions
follow-replaced symbols v pairs [] = refl
follow-replaced symbols v pairs (c ∷ conditions) =
    ap (λ b. b && all_follow symbols v (replaced pairs conditions))
    (ap (λ b. not b || truth_of (eval symbols v (substitute (replacing pairs) c.claim.goal))) (holds-substituted symbols (replacing pairs) v c.claim.given)
    ∙ ap (λ w. not (list_all (holds symbols (under symbols (replacing pairs) v)) c.claim.given) || truth_of w) (eval-substitute symbols (replacing pairs) v c.claim.goal))
    ∙ ap (λ b. follows symbols (under symbols (replacing pairs) v) c.claim && b) (follow-replaced symbols v pairs conditions)

-- ---- what a true list tells

pub first_part : (symbols : Meaning) (v : Valuation) (xs ys : List Condition) → all_follow symbols v (xs ++ ys) ≡ true → all_follow symbols v xs ≡ true
first_part symbols v xs ys h = left_true (all_follow symbols v xs) _ (sym (follow-append symbols v xs ys) ∙ h)

pub second_part : (symbols : Meaning) (v : Valuation) (xs ys : List Condition) → all_follow symbols v (xs ++ ys) ≡ true → all_follow symbols v ys ≡ true
second_part symbols v xs ys h = right_true (all_follow symbols v xs) _ (sym (follow-append symbols v xs ys) ∙ h)

pub assumed : (symbols : Meaning) (v : Valuation) (h : Term) (conditions : List Condition) → holds symbols v h ≡ true → all_follow symbols v (all_assuming h conditions) ≡ true → all_follow symbols v conditions ≡ true
assumed symbols v h conditions is e = ap (λ b. not b || all_follow symbols v conditions) (sym is) ∙ (sym (follow-assuming symbols v h conditions) ∙ e)

-- ---- what is left of a supply

pub not_new : (n m : Supply) (h : Head) → IsLater n m → is_new n h ≡ false → is_new m h ≡ false
not_new n m h later old = by_case (is_new m h) refl
  where
    by_case : (b : Bool) → is_new m h ≡ b → b ≡ false
    by_case true e = absurd (false≢true (sym old ∙ later h e))
    by_case false e = refl

pub later_after : (k n m : Supply) → IsLater k n → IsLater n m → IsLater k m
later_after k n m first second h e = first h (second h e)

module _ (p : Program) (world : Meaning) where
  pub ignores_later : (n m : Supply) (conditions : List Condition) → IsLater n m → Ignores p world n conditions → Ignores p world m conditions
  ignores_later n m conditions later ignores = record { alike = λ v w same. ignores.alike v w (λ h is old. same h is (not_new n m h later old)) }

  pub ignores_none : (n : Supply) → Ignores p world n []
  ignores_none n = record { alike = λ v w same. refl }

  pub ignores_both : (n : Supply) (xs ys : List Condition) → Ignores p world n xs → Ignores p world n ys → Ignores p world n (xs ++ ys)
  ignores_both n xs ys first second = record {
    alike = λ v w same. follow-append (meaning_in p world) v xs ys
        ∙ (ap (λ b. b && all_follow (meaning_in p world) v ys) (first.alike v w same)
        ∙ (ap (λ b. all_follow (meaning_in p world) w xs && b) (second.alike v w same) ∙ sym (follow-append (meaning_in p world) w xs ys)));
  }

  pub ignores_assuming : (n : Supply) (h : Term) (conditions : List Condition) → TermIgnores p world n h → Ignores p world n conditions → Ignores p world n (all_assuming h conditions)
  ignores_assuming n h conditions plain ignores = record {
    alike = λ v w same. follow-assuming (meaning_in p world) v h conditions
        ∙ (ap (λ x. not (truth_of x) || all_follow (meaning_in p world) v conditions) (plain.alike v w same)
        ∙ (ap (λ b. not (holds (meaning_in p world) w h) || b) (ignores.alike v w same) ∙ sym (follow-assuming (meaning_in p world) w h conditions)));
  }
