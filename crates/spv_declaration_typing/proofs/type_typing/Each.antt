-- Loops that do a step for each item of a list, up to the first fault.
use Rattle.std.proofs.Common.{◌≡◌, ℕ, suc, ◌<◌, ◌≤◌, ◌+◌, List, drop, length, get_or, Ok, sym, ap, ◌∙◌, subst, arith}
use Rattle.std.proofs.Math.Seq.{drop-cons}
use Rattle.std.proofs.lemmas.List.{drop_all}
use Rattle.spv_typing.specs.declared.faults.TypeFault.{TypeFault}
use Rattle.spv_typing.specs.declared.faults.TypeFault.TheVariants.{Undeclared, DeclaredTwice, LabelTwice, WrongType, Count, Nested, ProcParameter, ControlChanged, Memory}
use Rattle.spv_typing.specs.Outcomes.{Outcome, after, each}
use Rattle.spv_environments.specs.Answers.{Stops}

pub stops_after : {A B : Type 0} (e : TypeFault) (o : Outcome A) (next : A → Outcome B) → Stops e o → Stops e (after o next)
stops_after Memory o next h = tt
stops_after (Undeclared line x) o next h = ap (λ r. after r next) h
stops_after (DeclaredTwice line x) o next h = ap (λ r. after r next) h
stops_after (LabelTwice line z) o next h = ap (λ r. after r next) h
stops_after (WrongType line) o next h = ap (λ r. after r next) h
stops_after (Count line) o next h = ap (λ r. after r next) h
stops_after (Nested line x) o next h = ap (λ r. after r next) h
stops_after (ProcParameter line x) o next h = ap (λ r. after r next) h
stops_after (ControlChanged line x) o next h = ap (λ r. after r next) h

module _ {S X : Type 0} (step : S → X → Outcome S) (xs : List X) where
  -- what the items from a place on make of what was found
  pub record EachFrom (place : ℕ) (state : S) (whole : Outcome S) : Type 0 where
    pub rest : each step state (drop place xs) ≡ whole

  opened : (n : ℕ) (d : X) (state : S) (whole : Outcome S) → n < length xs → EachFrom n state whole
      → after (step state (get_or xs n d)) (λ next. each step next (drop (suc n) xs)) ≡ whole
  opened n d state whole within so_far = ap (each step state) (sym (drop-cons xs n d within)) ∙ so_far.rest

  pub each_more : (n : ℕ) (d : X) (state next : S) (whole : Outcome S) → n < length xs → step state (get_or xs n d) ≡ Ok next → EachFrom n state whole
      → EachFrom (n + 1) next whole
  each_more n d state next whole within is so_far = record {
    rest =
        ap (λ m. each step next (drop m xs)) (further n)
        ∙ (sym (ap (λ o. after o (λ next. each step next (drop (suc n) xs))) is) ∙ opened n d state whole within so_far);
  }
    where
      further : (n : ℕ) → n + 1 ≡ suc n
      further n = omega arith

  pub each_stopped : (n : ℕ) (d : X) (state : S) (whole : Outcome S) (e : TypeFault) → n < length xs → Stops e (step state (get_or xs n d)) → EachFrom n state whole
      → Stops e whole
  each_stopped n d state whole e within h so_far =
      subst (Stops e) (opened n d state whole within so_far) (stops_after e (step state (get_or xs n d)) (λ next. each step next (drop (suc n) xs)) h)

  pub each_all : (n : ℕ) (state : S) (whole : Outcome S) → length xs ≤ n → EachFrom n state whole → whole ≡ Ok state
  each_all n state whole past so_far = sym so_far.rest ∙ ap (each step state) (drop_all n xs past)
