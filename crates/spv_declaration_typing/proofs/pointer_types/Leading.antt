-- For each type the first pointer whose target is the same, found from the last pointer on.
use Rattle.std.proofs.Common.{◌≡◌, ◌≢◌, ℕ, suc, ◌<◌, ◌≤◌, ◌+◌, Bool, true, false, cond, nat_eq, List, ◌∷◌, drop, length, get_or, set, replicate, Option, Some, None, refl, sym, ap, ◌∙◌, subst, arith, length-set, get_or-set_same, get_or-set_other}
use Rattle.std.proofs.lemmas.Bool.{false≢true, eqb-true, eq-eqb}
use Rattle.std.proofs.lemmas.List.{length-replicate, get_or-replicate, drop_all}
use Rattle.std.proofs.Math.Seq.{drop-cons}
use Rattle.spv_typing.specs.Merging.{first_where, same_number}
use Rattle.spv_declaration_typing.specs.pointer_types.Rounds.{marked, IsLed}

-- ---- leaders, from the last place on

pub record LedFrom (seen : List (Option ℕ)) (place : ℕ) (leaders : List ℕ) : Type 0 where
  pub many : length leaders ≡ suc (length seen)
  pub led : (f : ℕ) → f ≤ length seen → get_or leaders f 0 ≡ first_where (same_number (Some f)) (drop place seen) + place

pub led_at_end : (seen : List (Option ℕ)) → LedFrom seen (length seen) (replicate (length seen + 1) (length seen))
led_at_end seen = record {
  many = length-replicate (length seen + 1) (length seen) ∙ (omega arith);
  led = λ f h.
      get_or-replicate (length seen + 1) f (length seen) 0 (omega (arith, h))
      ∙ (none (length seen) ∙ ap (λ (xs : List (Option ℕ)). first_where (same_number (Some f)) xs + length seen) (sym (drop_all (length seen) seen (same (length seen)))));
}
  where
    none : (n : ℕ) → n ≡ 0 + n
    none n = omega arith

    same : (n : ℕ) → n ≤ n
    same n = omega arith

pub led_before : (seen : List (Option ℕ)) (place : ℕ) (leaders : List ℕ) (o : Option ℕ) → place < length seen → o ≡ get_or seen place None → LedFrom seen (suc place) leaders
    → LedFrom seen place (marked leaders o place)
led_before seen place leaders None within is so_far = record {
  many = so_far.many;
  led = λ f h.
      so_far.led f h
      ∙ (moved (first_where (same_number (Some f)) (drop (suc place) seen)) place
      ∙ ap (λ (xs : List (Option ℕ)). first_where (same_number (Some f)) xs + place) (sym (drop-cons seen place None within ∙ ap (λ (y : Option ℕ). y ∷ drop (suc place) seen) (sym is))));
}
  where
    moved : (n m : ℕ) → n + suc m ≡ suc n + m
    moved n m = omega arith
led_before seen place leaders (Some g) within is so_far = record {
  many = length-set leaders g place ∙ so_far.many;
  led = λ f h.
      by_case f h (nat_eq f g) refl
      ∙ ap (λ (xs : List (Option ℕ)). first_where (same_number (Some f)) xs + place) (sym (drop-cons seen place None within ∙ ap (λ (y : Option ℕ). y ∷ drop (suc place) seen) (sym is)));
}
  where
    moved : (n m : ℕ) → n + suc m ≡ suc n + m
    moved n m = omega arith

    none : (n : ℕ) → n ≡ 0 + n
    none n = omega arith

    lower : (f n m : ℕ) → f ≤ n → m ≡ suc n → f < m
    lower f n m h e = omega arith

    by_case : (f : ℕ) → f ≤ length seen → (b : Bool) → nat_eq f g ≡ b
        → get_or (set leaders g place) f 0 ≡ cond b 0 (suc (first_where (same_number (Some f)) (drop (suc place) seen))) + place
    by_case f h true e =
        let same : f ≡ g = eqb-true f g e in
        ap (λ n. get_or (set leaders g place) n 0) same
        ∙ (get_or-set_same leaders g place 0 (lower g (length seen) (length leaders) (subst (λ n. n ≤ length seen) same h) so_far.many) ∙ none place)
    by_case f h false e =
        let other : f ≢ g = λ same. false≢true (sym e ∙ eq-eqb f g same) in
        get_or-set_other leaders g f place 0 other
        ∙ (so_far.led f h ∙ moved (first_where (same_number (Some f)) (drop (suc place) seen)) place)

pub led_all : (seen : List (Option ℕ)) (leaders : List ℕ) → LedFrom seen 0 leaders → IsLed seen leaders
led_all seen leaders so_far = record {
  many = so_far.many;
  led = λ f h. so_far.led f h ∙ none (first_where (same_number (Some f)) seen);
}
  where
    none : (n : ℕ) → n + 0 ≡ n
    none n = omega arith
