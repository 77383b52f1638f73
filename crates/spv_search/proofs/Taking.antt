-- Nodes that take the branch that comes next.
use Rattle.std.proofs.Common.{◌≡◌, ℕ, ◌+◌, ◌<◌, ◌≤◌, Bool, true, false, ◌||◌, List, length, refl, sym, ap, ◌∙◌, arith}
use Rattle.spv_logic.specs.declared.conditions.TermId.{TermId}
use Rattle.spv_atoms.specs.declared.proofs.Step.{Step}
use Rattle.spv_term.specs.declared.nodes.Condition.{Condition}
use Rattle.spv_term.specs.Arena.{Arena, tree}
use Rattle.spv_proof_rules.specs.Accepted.{Closed, walk}
use Rattle.spv_proof_rules.specs.Stand.{question}
use Rattle.spv_verdicts.specs.Verdicts.{Limits}
use Rattle.spv_models.specs.split_trees.Paths.{facts, IsLive}
use Rattle.spv_verdicts.specs.declared.answers.growing.Grown.{Grown}
use Rattle.spv_verdicts.specs.declared.answers.growing.Grown.TheVariants as grown
use Rattle.spv_search.specs.branches.Branches.{HasCases, MayTake}
use Rattle.spv_search.specs.branches.Counts.{is_open, splits_of}
use Rattle.spv_search.specs.branches.Growth.{Growth, GoesBack, IsIn, next, Takes}
use Rattle.spv_search.specs.Searching.{formulas_in, HasTaken, IsWithin, KeepsFewer}
use Rattle.spv_search.proofs.Branching.{fewer_kept}

without_false : (b : Bool) → (b || false) ≡ true → b ≡ true
without_false true e = refl
without_false false e = e

module _ (a : Arena) (c : Condition) (limits : Limits) (old new : Growth) (here : old.is_left ≡ true) (w : IsWithin a c limits old) (inside : IsIn a new) where
  taken : (n : Grown) (count : ℕ) → Takes (question a c) old new n → MayTake (question a c) (next (tree a) old) n → new.splits ≤ limits.splits → (new.is_open ≡ true → new.splits ≡ limits.splits)
      → (new.is_left ≡ true → KeepsFewer count old.cases new.cases) → HasTaken a c limits count old new
  taken n count takes may few spent back = record {
    within = record { grows = takes.grows w.grows may; terms_in = inside; few = few; spent = spent };
    less = takes.less w.grows may;
    back = back;
  }

  -- what was spent stays so, where the node is neither open nor a split
  spent_on : (n : Grown) → Takes (question a c) old new n → is_open n ≡ false → splits_of n ≡ 0 → new.is_open ≡ true → new.splits ≡ limits.splits
  spent_on n takes no_open no_split e =
      let was : (old.is_open || false) ≡ true = ap (λ (b : Bool). old.is_open || b) (sym no_open) ∙ (sym takes.open_is ∙ e) in
      let spent = w.spent (without_false old.is_open was) in
      let more = takes.splits_are in
      omega (arith, spent, more, no_split)

  pub taken_closed : (steps : List Step) → Takes (question a c) old new (grown.Closed steps) → walk (question a c) (formulas_in a old.cases) steps ≡ Closed → HasTaken a c limits (length old.cases) old new
  taken_closed steps takes closes =
      let few : new.splits ≤ limits.splits = let more : new.splits ≡ old.splits + 0 = takes.splits_are in let l = w.few in omega (arith, more, l) in
      taken (grown.Closed steps) (length old.cases) takes closes few (spent_on (grown.Closed steps) takes refl refl)
      (λ e. fewer_kept (question a c) old new w.grows here e (takes.leaves w.grows) (takes.goes_back w.grows e))

  pub taken_open : Takes (question a c) old new grown.Open → IsLive (question a c) (facts (question a c) (formulas_in a old.cases)) → limits.splits ≤ old.splits → HasTaken a c limits (length old.cases) old new
  taken_open takes live none_left =
      let more : new.splits ≡ old.splits + 0 = takes.splits_are in
      let l = w.few in
      taken grown.Open (length old.cases) takes live (omega (arith, more, l)) (λ e. omega (arith, more, l, none_left))
      (λ e. fewer_kept (question a c) old new w.grows here e (takes.leaves w.grows) (takes.goes_back w.grows e))

  pub taken_split : (t : TermId) (count : ℕ) → Takes (question a c) old new (grown.Split t count) → HasCases (question a c) (next (tree a) old) (tree a t) count → old.splits < limits.splits → HasTaken a c limits (length old.cases + 1) old new
  taken_split t count takes may some_left =
      let more : new.splits ≡ old.splits + 1 = takes.splits_are in
      taken (grown.Split t count) (length old.cases + 1) takes may (omega (arith, more, some_left)) (λ e. absurd (never e)) (λ e. kept (takes.goes_back w.grows e))
    where
      never : new.is_open ≡ true → ⊥
      never e =
          let spent = w.spent (without_false old.is_open (sym takes.open_is ∙ e)) in
          omega (arith, spent, some_left)

      kept : GoesBack old.cases new.cases → KeepsFewer (length old.cases + 1) old.cases new.cases
      kept back = record { kept = back.kept; last = back.last; within = back.within; fewer = let l = back.within in omega (arith, l); cases_are = back.cases_are }
