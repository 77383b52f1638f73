-- Headings by the numbers of their routines.
use Rattle.std.proofs.Common.{◌≡◌, ◌≤◌, ◌+◌, ℕ, zero, suc, Bool, true, false, cond, List, [], ◌∷◌, length, drop, filter, Some, refl, sym, ap, ◌∙◌, nat_eq, slice_get, arith}
use Rattle.std.proofs.lemmas.List.{drop_all}
use Rattle.spv_logic.specs.declared.names.names.Symbol.{Symbol}
use Rattle.spv_logic.specs.declared.conditions.RoutineId.{RoutineId}
use Rattle.spv_typing.specs.Known as spec
use Rattle.spv_environments.specs.declared.routines.Heading.{Heading}
use Rattle.spv_environments.specs.Views.{heading_of, headings_of}
use Rattle.spv_environments.specs.Numbered.{numbered}

heading_there : (table : List (Symbol × Heading)) (n : ℕ) (name : Symbol) (h : Heading) → slice_get table n ≡ Some (name, h)
    → drop n (headings_of table) ≡ heading_of name h ∷ drop (suc n) (headings_of table)
heading_there [] n name h is = absurd cc
heading_there (e ∷ table) zero name h is = cc
heading_there (e ∷ table) (suc n) name h is = heading_there table n name h is

filter_first : {X : Type 0} (p : X → Bool) (x : X) (xs : List X) → p x ≡ true → filter p (x ∷ xs) ≡ x ∷ filter p xs
filter_first p x xs h = ap (λ b. cond b (x ∷ filter p xs) (filter p xs)) h

filter_other : {X : Type 0} (p : X → Bool) (x : X) (xs : List X) → p x ≡ false → filter p (x ∷ xs) ≡ filter p xs
filter_other p x xs h = ap (λ b. cond b (x ∷ filter p xs) (filter p xs)) h

module _ (number : RoutineId) (headings : List spec.Heading) (table : List (Symbol × Heading)) (same : headings ≡ headings_of table) (n : ℕ) where
  opened : (name : Symbol) (h : Heading) → slice_get table n ≡ Some (name, h) → numbered number (drop n headings) ≡ numbered number (heading_of name h ∷ drop (suc n) headings)
  opened name h is =
      ap (λ hs. numbered number (drop n hs)) same ∙ ap (numbered number) (heading_there table n name h is)
      ∙ ap (λ hs. numbered number (heading_of name h ∷ drop (suc n) hs)) (sym same)

  next : suc n ≡ n + 1
  next = omega arith

  pub number_first : (name : Symbol) (h : Heading) → slice_get table n ≡ Some (name, h) → nat_eq h.number.0 number.0 ≡ true
      → numbered number (drop n headings) ≡ heading_of name h ∷ numbered number (drop (n + 1) headings)
  number_first name h is e =
      opened name h is ∙ filter_first (λ g. nat_eq g.number.0 number.0) (heading_of name h) (drop (suc n) headings) e
      ∙ ap (λ (m : ℕ). heading_of name h ∷ numbered number (drop m headings)) next

  pub number_other : (name : Symbol) (h : Heading) → slice_get table n ≡ Some (name, h) → nat_eq h.number.0 number.0 ≡ false
      → numbered number (drop n headings) ≡ numbered number (drop (n + 1) headings)
  number_other name h is e =
      opened name h is ∙ filter_other (λ g. nat_eq g.number.0 number.0) (heading_of name h) (drop (suc n) headings) e
      ∙ ap (λ (m : ℕ). numbered number (drop m headings)) next

pub number_past : (number : RoutineId) (headings : List spec.Heading) (n : ℕ) → length headings ≤ n → numbered number (drop n headings) ≡ []
number_past number headings n h = ap (numbered number) (drop_all n headings h)

pub headings_count : (headings : List spec.Heading) (table : List (Symbol × Heading)) → headings ≡ headings_of table → length headings ≡ length table
headings_count headings table same = ap length same ∙ same_length table
  where
    same_length : (table : List (Symbol × Heading)) → length (headings_of table) ≡ length table
    same_length [] = refl
    same_length (e ∷ table) = ap suc (same_length table)
