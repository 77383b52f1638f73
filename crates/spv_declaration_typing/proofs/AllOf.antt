-- Loops that make a value for each item of a list, up to the first fault.
use Rattle.std.proofs.Common.{◌≡◌, ℕ, suc, ◌<◌, ◌≤◌, ◌+◌, List, [], ◌∷◌, ◌++◌, drop, length, get_or, Ok, Err, refl, sym, ap, ◌∙◌, subst, arith}
use Rattle.std.proofs.Math.Seq.{drop-cons}
use Rattle.std.proofs.lemmas.List.{append_assoc, append-nil, drop_all}
use Rattle.spv_typing.specs.declared.faults.TypeFault.{TypeFault}
use Rattle.spv_typing.specs.Outcomes.{Outcome, after, all_of}
use Rattle.spv_environments.specs.Answers.{Stops}
use Rattle.spv_declaration_typing.proofs.type_typing.Each.{stops_after}

-- one more value, put behind those that are done
one_more : {A : Type 0} (o : Outcome (List A)) (done : List A) (x : A)
    → after (after o (λ rest. Ok (x ∷ rest))) (λ all. Ok (done ++ all)) ≡ after o (λ all. Ok ((done ++ x ∷ []) ++ all))
one_more (Ok rest) done x = ap Ok (sym (append_assoc done (x ∷ []) rest))
one_more (Err e) done x = refl

module _ {X A : Type 0} (step : X → Outcome A) (xs : List X) where
  -- the values so far, and what the items from a place on add
  pub record AllSoFar (place : ℕ) (done : List A) (whole : Outcome (List A)) : Type 0 where
    pub rest : after (all_of step (drop place xs)) (λ all. Ok (done ++ all)) ≡ whole

  pub all_begun : (first : X) (a : A) (done : List A) → step first ≡ Ok a → done ≡ a ∷ [] → AllSoFar 0 done (all_of step (first ∷ xs))
  all_begun first a done is one = record {
    rest =
        ap (λ (l : List A). after (all_of step xs) (λ all. Ok (l ++ all))) one ∙ sym (ap (λ o. after o (λ a. after (all_of step xs) (λ others. Ok (a ∷ others)))) is);
  }

  opened : (n : ℕ) (d : X) (done : List A) (whole : Outcome (List A)) → n < length xs → AllSoFar n done whole
      → after (after (step (get_or xs n d)) (λ a. after (all_of step (drop (suc n) xs)) (λ others. Ok (a ∷ others)))) (λ all. Ok (done ++ all)) ≡ whole
  opened n d done whole within so_far = ap (λ (l : List X). after (all_of step l) (λ all. Ok (done ++ all))) (sym (drop-cons xs n d within)) ∙ so_far.rest

  pub all_more : (n : ℕ) (d : X) (a : A) (done grown : List A) (whole : Outcome (List A)) → n < length xs → step (get_or xs n d) ≡ Ok a → grown ≡ done ++ a ∷ []
      → AllSoFar n done whole → AllSoFar (n + 1) grown whole
  all_more n d a done grown whole within is pushed so_far = record {
    rest =
        ap (λ (l : List A). after (all_of step (drop (n + 1) xs)) (λ all. Ok (l ++ all))) pushed
        ∙ (ap (λ m. after (all_of step (drop m xs)) (λ all. Ok ((done ++ a ∷ []) ++ all))) (further n)
        ∙ (sym (one_more (all_of step (drop (suc n) xs)) done a)
        ∙ (sym (ap (λ o. after (after o (λ a. after (all_of step (drop (suc n) xs)) (λ others. Ok (a ∷ others)))) (λ all. Ok (done ++ all))) is)
        ∙ opened n d done whole within so_far)));
  }
    where
      further : (n : ℕ) → n + 1 ≡ suc n
      further n = omega arith

  pub all_stopped : (n : ℕ) (d : X) (e : TypeFault) (done : List A) (whole : Outcome (List A)) → n < length xs → Stops e (step (get_or xs n d)) → AllSoFar n done whole
      → Stops e whole
  all_stopped n d e done whole within h so_far =
      subst (Stops e) (opened n d done whole within so_far)
      (stops_after e (after (step (get_or xs n d)) (λ a. after (all_of step (drop (suc n) xs)) (λ others. Ok (a ∷ others)))) (λ all. Ok (done ++ all))
      (stops_after e (step (get_or xs n d)) (λ a. after (all_of step (drop (suc n) xs)) (λ others. Ok (a ∷ others))) h))

  pub all_done : (n : ℕ) (done : List A) (whole : Outcome (List A)) → length xs ≤ n → AllSoFar n done whole → whole ≡ Ok done
  all_done n done whole past so_far =
      sym so_far.rest ∙ (ap (λ (l : List X). after (all_of step l) (λ all. Ok (done ++ all))) (drop_all n xs past) ∙ ap Ok (append-nil done))
