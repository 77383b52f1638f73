-- What is proved where all is refuted without rules is proved under rules, where steps of rules stand in the place of what instances say.
use Rattle.std.proofs.Common.{◌≡◌, ℕ, zero, suc, ◌+◌, true, List, [], ◌∷◌, ◌++◌, map, length, Option, Some, None, refl, sym, ap, ◌∙◌, arith, slice_get}
use Rattle.std.specs.Prelude.{slice_index_or, if◌then◌else◌}
use Rattle.std.proofs.lemmas.Bool.{false≢true}
use Rattle.spv_logic.specs.declared.conditions.TermId.{TermId}
use Rattle.spv_logic.specs.declared.operators.Head.TheVariants.{False}
use Rattle.spv_logic.specs.Terms.{Term, term, no_terms}
use Rattle.spv_logic.specs.Formulas.{negation}
use Rattle.spv_atoms.specs.declared.proofs.Step.{Step}
use Rattle.spv_atoms.specs.declared.proofs.Step.TheVariants as step
use Rattle.spv_atoms.specs.declared.proofs.Split.{Split}
use Rattle.spv_atoms.specs.declared.proofs.ProofNode.{ProofNode}
use Rattle.spv_proof_rules.specs.Rules.{Rule}
use Rattle.spv_proof_rules.specs.Effects.{Question, Effect, Adds, Ends, Fails, is_truth, effect, given_effect, adds_known, evaluated, rule_stated}
use Rattle.spv_proof_rules.specs.Accepted.{Path, Open, Closed, Broken, closed_if_last, on_effect, walk, after_node, on_opened, closes}
use Rattle.spv_verdicts.specs.translation.Exchanged.{exchanged_step, Exchanges}
use Rattle.spv_verdicts.specs.translation.Replacements.{given_behind, replacements}
use Rattle.spv_verdicts.specs.translation.Laws.{ExchangedIsAccepted}
use Rattle.spv_rounds.specs.Claims.{claim}
use Rattle.spv_rounds.specs.Laws.{said_by, StepsSay, AnsweredUnder}

-- ---- without rules, and under rules

-- a question under other rules
abbrev pub under : List Rule → Question → Question
under rules q = record { shapes = q.shapes; decls = q.decls; at = q.at; sequent = q.sequent; rules = rules }

pub data Fails_or (A : Type 0) (x : Effect) : Type 0 where
  fails : x ≡ Fails → Fails_or A x
  stays : A → Fails_or A x

module _ (q : Question) (rules : List Rule) where
  abbrev plain : Question
  plain = under [] q

  abbrev ruled : Question
  ruled = under rules q

  no-rule : (number : ℕ) (ts : List TermId) → rule_stated plain number ts ≡ None
  no-rule zero ts = refl
  no-rule (suc k) ts = refl

  -- a step that follows without rules does the same under rules
  effect-under : (facts : List Term) (s : Step) → Fails_or (effect ruled facts s ≡ effect plain facts s) (effect plain facts s)
  effect-under facts (step.Given k) = stays refl
  effect-under facts (step.Refl t) = stays refl
  effect-under facts (step.Symm i) = stays refl
  effect-under facts (step.Trans i j) = stays refl
  effect-under facts (step.Cong t u ks) = stays refl
  effect-under facts (step.Linear r first second) = stays refl
  effect-under facts (step.Schema kind ts field) = stays refl
  effect-under facts (step.Rule r ts) = fails (ap adds_known (no-rule r ts))
  effect-under facts (step.Eval s ks) = stays refl
  effect-under facts (step.Contra i j) = stays refl

  onward : (p : Path) (facts : List Term) (steps : List Step) (x : Effect) → ((t : Term) → walk plain (facts ++ t ∷ []) steps ≡ p → walk ruled (facts ++ t ∷ []) steps ≡ p)
      → on_effect x (λ t. walk plain (facts ++ t ∷ []) steps) (closed_if_last steps) ≡ p → on_effect x (λ t. walk ruled (facts ++ t ∷ []) steps) (closed_if_last steps) ≡ p
  onward p facts steps (Adds t) later h = later t h
  onward p facts steps Ends later h = h
  onward p facts steps Fails later h = h

  by_effect : (p : Path) (facts : List Term) (s : Step) (steps : List Step) → (p ≡ Broken → ⊥) → walk plain facts (s ∷ steps) ≡ p
      → ((t : Term) → walk plain (facts ++ t ∷ []) steps ≡ p → walk ruled (facts ++ t ∷ []) steps ≡ p)
      → Fails_or (effect ruled facts s ≡ effect plain facts s) (effect plain facts s) → walk ruled facts (s ∷ steps) ≡ p
  by_effect p facts s steps whole e later (fails f) = absurd (whole (sym e ∙ ap (λ x. on_effect x (λ t. walk plain (facts ++ t ∷ []) steps) (closed_if_last steps)) f))
  by_effect p facts s steps whole e later (stays f) =
      ap (λ x. on_effect x (λ t. walk ruled (facts ++ t ∷ []) steps) (closed_if_last steps)) f ∙ onward p facts steps (effect plain facts s) later e

  pub walk-under : (facts : List Term) (steps : List Step) (p : Path) → (p ≡ Broken → ⊥) → walk plain facts steps ≡ p → walk ruled facts steps ≡ p
  walk-under facts [] p whole e = e
  walk-under facts (s ∷ steps) p whole e = by_effect p facts s steps whole e (λ t. walk-under (facts ++ t ∷ []) steps p whole) (effect-under facts s)

  after-under : (p : Path) (split : Option Split) → after_node ruled p split ≡ after_node plain p split
  after-under Closed None = refl
  after-under Closed (Some s) = refl
  after-under (Open facts) None = refl
  after-under (Open facts) (Some s) = refl
  after-under Broken None = refl
  after-under Broken (Some s) = refl

  broken : (split : Option Split) → after_node plain Broken split ≡ None
  broken None = refl
  broken (Some s) = refl

  opened_onward : (paths : List (List Term)) (nodes : List ProofNode) → ((new : List (List Term)) → closes plain (new ++ paths) nodes ≡ true → closes ruled (new ++ paths) nodes ≡ true)
      → (o : Option (List (List Term))) → on_opened o (λ new. closes plain (new ++ paths) nodes) ≡ true → on_opened o (λ new. closes ruled (new ++ paths) nodes) ≡ true
  opened_onward paths nodes later None k = k
  opened_onward paths nodes later (Some new) k = later new k

  module _ (facts : List Term) (paths : List (List Term)) (n : ProofNode) (nodes : List ProofNode) (later : (new : List (List Term)) → closes plain (new ++ paths) nodes ≡ true → closes ruled (new ++ paths) nodes ≡ true)
      (h : closes plain (facts ∷ paths) (n ∷ nodes) ≡ true) where
    whole_path : (p : Path) → (p ≡ Broken → ⊥) → walk plain facts n.steps ≡ p → closes ruled (facts ∷ paths) (n ∷ nodes) ≡ true
    whole_path p whole e =
        ap (λ r. on_opened (after_node ruled r n.split) (λ new. closes ruled (new ++ paths) nodes)) (walk-under facts n.steps p whole e)
        ∙ (ap (λ o. on_opened o (λ new. closes ruled (new ++ paths) nodes)) (after-under p n.split)
        ∙ opened_onward paths nodes later (after_node plain p n.split) (ap (λ r. on_opened (after_node plain r n.split) (λ new. closes plain (new ++ paths) nodes)) (sym e) ∙ h))

    by_path : (p : Path) → walk plain facts n.steps ≡ p → closes ruled (facts ∷ paths) (n ∷ nodes) ≡ true
    by_path (Open fs) e = whole_path (Open fs) (λ b. cc) e
    by_path Closed e = whole_path Closed (λ b. cc) e
    by_path Broken e =
        absurd (false≢true (sym (ap (λ r. on_opened (after_node plain r n.split) (λ new. closes plain (new ++ paths) nodes)) e ∙ ap (λ o. on_opened o (λ new. closes plain (new ++ paths) nodes)) (broken n.split)) ∙ h))

  pub closes-under : (paths : List (List Term)) (nodes : List ProofNode) → closes plain paths nodes ≡ true → closes ruled paths nodes ≡ true
  closes-under [] [] h = h
  closes-under [] (n ∷ nodes) h = h
  closes-under (facts ∷ paths) [] h = h
  closes-under (facts ∷ paths) (n ∷ nodes) h = by_path facts paths n nodes (λ new. closes-under (new ++ paths) nodes) h (walk plain facts n.steps) refl

-- ---- what a step of a rule does

effect-of : (q : Question) (facts : List Term) (s : Step) (t : Term) → said_by q s ≡ Some t → effect q facts s ≡ Adds t
effect-of q facts (step.Rule number ts) t e = ap adds_known e
effect-of q facts _ t e = absurd (cc)

-- what FALSE is by evaluation
abbrev after_evaluation : Question → Term → List Term → Type 0
after_evaluation q t facts = evaluated (is_truth q) (if is_truth q t then Some (negation t) else None) (Some []) ≡ Adds (negation t)

false_is_false : (q : Question) (facts : List Term) → after_evaluation q (term False no_terms) facts
false_is_false q facts = refl

module _ (q : Question) (facts : List Term) where
  behind : (steps : List Step) (further : List Term) → StepsSay q steps further → (j : ℕ) (s : Step) → effect q facts s ≡ Fails → adds_known (slice_get further j) ≡ effect q facts (slice_index_or steps j s)
  behind [] [] e j s none = sym none
  behind [] (t ∷ further) e j s none = absurd (cc)
  behind (r ∷ steps) [] e j s none = absurd (cc)
  behind (r ∷ steps) (t ∷ further) e zero s none =
      let first : said_by q r ≡ Some t = cc in
      sym (effect-of q facts r t first)
  behind (r ∷ steps) (t ∷ further) e (suc j) s none =
      let others : map (said_by q) steps ≡ map Some further = cc in
      behind steps further others j s none

  -- the last hypotheses, those behind a place
  from : (steps : List Step) (further : List Term) → StepsSay q steps further → (gs : List Term) (place : ℕ) → ((i : ℕ) → slice_get gs i ≡ slice_get q.sequent.given (place + i)) → (j : ℕ)
      → adds_known (slice_get (gs ++ negation q.sequent.goal ∷ further) j) ≡ effect q facts (slice_index_or (given_behind place (length gs) ++ step.Given 0 ∷ steps) j (step.Given (suc (place + j))))
  from steps further e [] place h zero = refl
  from steps further e [] place h (suc j) = behind steps further e j (step.Given (suc (place + suc j))) (ap adds_known (sym (h (suc j))))
  from steps further e (g ∷ gs) place h zero =
      let same : place + 0 ≡ place = omega arith in
      ap adds_known (h 0 ∙ ap (slice_get q.sequent.given) same)
  from steps further e (g ∷ gs) place h (suc j) =
      let same : suc place + j ≡ place + suc j = omega arith in
      from steps further e gs (suc place) next j ∙ ap (λ n. effect q facts (slice_index_or (given_behind (suc place) (length gs) ++ step.Given 0 ∷ steps) j (step.Given (suc n)))) same
    where
      next : (i : ℕ) → slice_get gs i ≡ slice_get q.sequent.given (suc place + i)
      next i =
          let same : place + suc i ≡ suc place + i = omega arith in
          h (suc i) ∙ ap (slice_get q.sequent.given) same

  -- what each hypothesis adds, of those of the condition, that the goal is false, and the formulas, with the goal FALSE
  replaced : (fs : List Term) (falsity : TermId) → q.at falsity ≡ term False no_terms → (steps : List Step) → StepsSay q steps fs → (k : ℕ)
      → given_effect (claim q fs).sequent k ≡ effect q facts (exchanged_step (replacements (length q.sequent.given) falsity steps) (step.Given k))
  replaced fs falsity is steps e zero = sym (ap (λ t. evaluated (is_truth q) (if is_truth q t then Some (negation t) else None) (Some [])) is ∙ false_is_false q facts)
  replaced fs falsity is steps e (suc j) =
      let same : 0 + j ≡ j = omega arith in
      from steps fs e q.sequent.given 0 first j
      ∙ ap (λ n. effect q facts (slice_index_or (given_behind 0 (length q.sequent.given) ++ step.Given 0 ∷ steps) j (step.Given (suc n)))) same
    where
      first : (i : ℕ) → slice_get q.sequent.given i ≡ slice_get q.sequent.given (0 + i)
      first i =
          let same : i ≡ 0 + i = omega arith in
          ap (slice_get q.sequent.given) same

-- each hypothesis of what claims that all is refuted is replaced by what does the same under the rules
pub exchanges : (q : Question) (fs : List Term) (falsity : TermId) (steps : List Step) → q.at falsity ≡ term False no_terms → StepsSay q steps fs
    → Exchanges (under q.rules (claim q fs)) q (replacements (length q.sequent.given) falsity steps)
exchanges q fs falsity steps is s = record { shapes = refl; decls = refl; at = refl; rules = refl; effects = λ k facts. replaced q facts fs falsity is steps s k }

-- ---- proofs

pub answered-under : ExchangedIsAccepted → AnsweredUnder
answered-under law q fs falsity steps is say nodes h =
    law (under q.rules (claim q fs)) q (replacements (length q.sequent.given) falsity steps) (exchanges q fs falsity steps is say) nodes (closes-under (claim q fs) q.rules ([] ∷ []) nodes h)
