-- Loops that do a step for each item of a list.
use Rattle.std.proofs.Common.{◌≡◌, ℕ, suc, ◌<◌, ◌≤◌, ◌+◌, List, drop, length, get_or, Ok, sym, ap, ◌∙◌, subst, arith}
use Rattle.std.proofs.Math.Seq.{drop-cons}
use Rattle.std.proofs.lemmas.List.{drop_all}
use Rattle.spv_rule_files.specs.declared.faults.RuleFault.{RuleFault}
use Rattle.spv_rule_files.specs.declared.faults.RuleFault.TheVariants.{Typing, Unbound, Memory}
use Rattle.spv_rule_files.specs.Outcomes.{RuleOutcome, and_then, each_rule, fold, RuleStops}

further : (n : ℕ) → n + 1 ≡ suc n
further n = omega arith

-- ---- steps that always go on

module _ {S X : Type 0} (step : S → X → S) (xs : List X) where
  -- what the items from a place on make of what was found
  pub record FoldFrom (place : ℕ) (state whole : S) : Type 0 where
    pub rest : fold step state (drop place xs) ≡ whole

  pub fold_more : (n : ℕ) (d : X) (state next whole : S) → n < length xs → next ≡ step state (get_or xs n d) → FoldFrom n state whole
      → FoldFrom (n + 1) next whole
  fold_more n d state next whole within is so_far = record {
    rest =
        ap (λ m. fold step next (drop m xs)) (further n)
        ∙ (ap (λ s. fold step s (drop (suc n) xs)) is ∙ (ap (fold step state) (sym (drop-cons xs n d within)) ∙ so_far.rest));
  }

  pub fold_all : (n : ℕ) (state whole : S) → length xs ≤ n → FoldFrom n state whole → state ≡ whole
  fold_all n state whole past so_far = sym (ap (fold step state) (drop_all n xs past)) ∙ so_far.rest

-- ---- steps up to the first fault

pub stops_then : {A B : Type 0} (e : RuleFault) (o : RuleOutcome A) (next : A → RuleOutcome B) → RuleStops e o → RuleStops e (and_then o next)
stops_then Memory o next h = tt
stops_then (Typing fault) o next h = ap (λ r. and_then r next) h
stops_then (Unbound line x) o next h = ap (λ r. and_then r next) h

module _ {S X : Type 0} (step : S → X → RuleOutcome S) (xs : List X) where
  pub record EachRuleFrom (place : ℕ) (state : S) (whole : RuleOutcome S) : Type 0 where
    pub rest : each_rule step state (drop place xs) ≡ whole

  opened : (n : ℕ) (d : X) (state : S) (whole : RuleOutcome S) → n < length xs → EachRuleFrom n state whole
      → and_then (step state (get_or xs n d)) (λ next. each_rule step next (drop (suc n) xs)) ≡ whole
  opened n d state whole within so_far = ap (each_rule step state) (sym (drop-cons xs n d within)) ∙ so_far.rest

  pub rules_more : (n : ℕ) (d : X) (state next : S) (whole : RuleOutcome S) → n < length xs → step state (get_or xs n d) ≡ Ok next → EachRuleFrom n state whole
      → EachRuleFrom (n + 1) next whole
  rules_more n d state next whole within is so_far = record {
    rest =
        ap (λ m. each_rule step next (drop m xs)) (further n)
        ∙ (sym (ap (λ o. and_then o (λ next. each_rule step next (drop (suc n) xs))) is) ∙ opened n d state whole within so_far);
  }

  pub rules_stopped : (n : ℕ) (d : X) (state : S) (whole : RuleOutcome S) (e : RuleFault) → n < length xs → RuleStops e (step state (get_or xs n d)) → EachRuleFrom n state whole
      → RuleStops e whole
  rules_stopped n d state whole e within h so_far =
      subst (RuleStops e) (opened n d state whole within so_far) (stops_then e (step state (get_or xs n d)) (λ next. each_rule step next (drop (suc n) xs)) h)

  pub rules_all : (n : ℕ) (state : S) (whole : RuleOutcome S) → length xs ≤ n → EachRuleFrom n state whole → whole ≡ Ok state
  rules_all n state whole past so_far = sym so_far.rest ∙ ap (each_rule step state) (drop_all n xs past)
