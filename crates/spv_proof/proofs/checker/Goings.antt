-- How far a walk over steps has come, over plain variables.
use Rattle.std.proofs.Common.{◌≡◌, ℕ, zero, suc, ◌<◌, ◌≤◌, ◌+◌, ◌-◌, false, List, [], ◌∷◌, ◌++◌, map, length, take, drop, get_or, refl, sym, ap, ◌∙◌, subst, Option, Some, None, nat_eq, length-drop, length-take, Result, Ok, Err, arith, IfSome, IfErr}
use Rattle.std.proofs.lemmas.Bool.Decides.{nat_tests}
use Rattle.std.proofs.lemmas.List.{append-nil, at_drop_more}
use Rattle.std.proofs.Math.Seq.{take-nil}
use Rattle.std.specs.Result.{IsErrAnd}
use Rattle.spv_logic.specs.declared.conditions.TermId.{TermId}
use Rattle.spv_logic.specs.Terms.{Term}
use Rattle.spv_term.specs.Arena.{Arena, Extends, AllBelow, tree, trees_of}
use Rattle.spv_term.proofs.ArenaLemmas.{Extends-refl, Extends-trans, AllBelow-Extends, map_tree-Extends}
use Rattle.spv_atoms.specs.declared.proofs.Step.{Step}
use Rattle.spv_proof_rules.specs.Accepted.{Path, closed_if_last}
use Rattle.spv_proof_rules.specs.Stand.{StepIn, StepsIn}
use Rattle.spv_proof_rules.specs.Stops.{all_kept, kept, terms_of}
use Rattle.spv_proof_rules.specs.Outcomes.{IsFirst, Trial, Does, Halts, trial, Outcome, comes, stops, on_kept, on_does, on_trial, add_fact, made_by, where_made, steps_outcome}
use Rattle.spv_proof_rules.proofs.Growing.{first-same, first-then, step-rest-first, steps-first}
use Rattle.spv_proof_steps.specs.declared.facts.Effect.{Effect}
use Rattle.spv_proof_steps.specs.declared.facts.Fact.{Fact}
use Rattle.spv_proof_steps.specs.declared.facts.Effect.TheVariants as effect
use Rattle.spv_proof_steps.specs.Steps.{fact_of, effect_of}
use Rattle.spv_proof.specs.declared.checker.stops.CheckStop.{CheckStop}
use Rattle.spv_proof.specs.declared.checker.stops.CheckStop.TheVariants.{Wide, Form, Size, Memory}
use Rattle.spv_proof.specs.checker.KeptFaults.{IsAddFault}
use Rattle.spv_proof.specs.checker.Ends.{halt_at, FormIn, IsMadeStop, IsTrialStop, EndsAs}
use Rattle.spv_proof.specs.checker.Tasks.{asks, TaskIn}
use Rattle.spv_proof.specs.declared.checker.tasks.Task.{Task}
use Rattle.spv_proof.specs.declared.checker.walking.Path as walked
use Rattle.spv_proof.specs.declared.checker.walking.Path.TheVariants as path
use Rattle.spv_proof.specs.checker.Walks.{no_steps, path_of, steps_in, Leads}
use Rattle.spv_proof_rules.proofs.Staying.{StepIn-Extends}
use Rattle.spv_proof.proofs.checker.Staying.{made-Extends, trial-Extends}

-- ---- ends

-- an error ends a check as it is told
pub ends-told : {T : Type 0} (a : Arena) (e : CheckStop) (o : Outcome T) → IfSome (halt_at a e) (λ h. o ≡ stops h.known h.stop) → FormIn a e → (e ≡ Memory → IsFirst (trees_of a.nodes) o.known) → EndsAs a e o
ends-told a (Wide op x y) o t f m = record { told = t; form = f; kept = record { others = []; all_are = ap (λ p. p.known) t ∙ sym (append-nil (trees_of a.nodes)) } }
ends-told a (Form u) o t f m = record { told = t; form = f; kept = record { others = []; all_are = ap (λ p. p.known) t ∙ sym (append-nil (trees_of a.nodes)) } }
ends-told a Size o t f m = record { told = t; form = f; kept = record { others = []; all_are = ap (λ p. p.known) t ∙ sym (append-nil (trees_of a.nodes)) } }
ends-told a Memory o t f m = record { told = t; form = f; kept = m refl }

if_some : {T : Type 0} {P Q : T → Type 0} (o : Option T) → ((x : T) → P x → Q x) → IfSome o P → IfSome o Q
if_some None f h = tt
if_some (Some x) f h = f x h

-- the same end of another outcome that is the same
pub ends-as : {T : Type 0} (a : Arena) (e : CheckStop) (o p : Outcome T) → o ≡ p → EndsAs a e o → EndsAs a e p
ends-as a e o p same h = subst (EndsAs a e) same h

-- ---- how far the walk has come

pub record Going (old : Arena) (c : Task) (start : List TermId) (steps : List Step) (now : Arena) (facts : List TermId) (rest : List Step) : Type 0 where
  pub grows : Extends old now
  pub facts_in : AllBelow (length now.nodes) facts
  pub rest_in : StepsIn old rest
  pub before_is : take (length start) facts ≡ start
  pub same : steps_outcome old.most (asks old c) (trees_of now.nodes) (map (tree now) facts) rest ≡ steps_in old c start steps

-- the terms of the next step are made, and it has not been tried
pub record Prepared (old : Arena) (c : Task) (start : List TermId) (steps : List Step) (now : Arena) (facts : List TermId) (s : Step) (others : List Step) : Type 0 where
  pub grows : Extends old now
  pub facts_in : AllBelow (length now.nodes) facts
  pub rest_in : StepsIn old (s ∷ others)
  pub before_is : take (length start) facts ≡ start
  pub same : on_trial (trees_of now.nodes) (trial old.most (asks old c) (trees_of now.nodes) (map (tree now) facts) s)
      (λ t. add_fact old.most (trees_of now.nodes) t (λ more. steps_outcome old.most (asks old c) more (map (tree now) facts ++ t ∷ []) others)) (closed_if_last others)
      ≡ steps_in old c start steps

take-all : (xs : List TermId) → take (length xs) xs ≡ xs
take-all [] = refl
take-all (x ∷ xs) = ap (λ ys. x ∷ ys) (take-all xs)

pub going-start : (old : Arena) (c : Task) (start : List TermId) (steps : List Step) → AllBelow (length old.nodes) start → StepsIn old steps → Going old c start steps old start steps
going-start old c start steps f h = record { grows = Extends-refl old; facts_in = f; rest_in = h; before_is = take-all start; same = refl }

pub take-take : (n m : ℕ) (xs : List TermId) → n ≤ m → take n (take m xs) ≡ take n xs
take-take n m [] h = ap (take n) (take-nil m)
take-take n m (x ∷ xs) h = by n m h (λ k l i. take-take k l xs i)
  where
    by : (n m : ℕ) → n ≤ m → ((k l : ℕ) → k ≤ l → take k (take l xs) ≡ take k xs) → take n (take m (x ∷ xs)) ≡ take n (x ∷ xs)
    by zero m h later = refl
    by (suc n) zero h later = absurd (omega arith)
    by (suc n) (suc m) h later = ap (λ ys. x ∷ ys) (later n m (omega arith))

pub take-short : (n : ℕ) (xs ys : List TermId) → take n xs ≡ ys → length ys ≡ n → n ≤ length xs
take-short n xs ys e f = omega (arith, ap length e, length-take n xs)

take-longer : (n m : ℕ) (xs ys zs : List TermId) → take n xs ≡ zs → take m ys ≡ xs → n ≤ m → take n ys ≡ zs
take-longer n m xs ys zs e f h = sym (take-take n m ys h) ∙ (ap (take n) f ∙ e)

module _ {old : Arena} {c : Task} {start : List TermId} {steps : List Step} {now : Arena} {facts : List TermId} {rest : List Step} (g : Going old c start steps now facts rest) (ci : TaskIn old c) where
  abbrev found : List Term
  found = map (tree now) facts

  -- no step is left
  pub going-end : rest ≡ [] → Leads old c start steps now facts path.Open
  going-end e = record {
    outcome = sym g.same ∙ ap (steps_outcome old.most (asks old c) (trees_of now.nodes) found) e;
    in_range = g.facts_in;
    before_is = g.before_is;
  }

  module _ (s : Step) (others : List Step) (next : rest ≡ s ∷ others) where
    in_old : StepsIn old (s ∷ others)
    in_old = subst (StepsIn old) next g.rest_in

    pub going-step : StepIn now s
    going-step = StepIn-Extends g.grows s in_old.0

    -- what is left, once its terms are made
    abbrev rest_of : List Term → Outcome Path
    rest_of known = on_trial known (trial old.most (asks old c) known found s) (λ t. add_fact old.most known t (λ more. steps_outcome old.most (asks old c) more (found ++ t ∷ []) others)) (closed_if_last others)

    going-made : (r : Result (List Term) (List Term)) → all_kept now.most (trees_of now.nodes) (made_by (asks now c) s) ≡ r → where_made r rest_of ≡ steps_in old c start steps
    going-made r e =
        ap (λ x. where_made x rest_of) (sym e ∙ (λ i. all_kept (g.grows.most i) (trees_of now.nodes) (made-Extends g.grows c ci s in_old.0 i)))
        ∙ (ap (steps_outcome old.most (asks old c) (trees_of now.nodes) found) (sym next) ∙ g.same)

    -- its terms are made
    pub going-prepared : (new : Arena) → Extends now new → all_kept now.most (trees_of now.nodes) (made_by (asks now c) s) ≡ Ok (trees_of new.nodes) → Prepared old c start steps new facts s others
    going-prepared new grows e = record {
      grows = Extends-trans g.grows grows;
      facts_in = AllBelow-Extends grows facts g.facts_in;
      rest_in = in_old;
      before_is = g.before_is;
      same = ap (λ fs. on_trial (trees_of new.nodes) (trial old.most (asks old c) (trees_of new.nodes) fs s)
          (λ t. add_fact old.most (trees_of new.nodes) t (λ more. steps_outcome old.most (asks old c) more (fs ++ t ∷ []) others)) (closed_if_last others)) (map_tree-Extends grows facts g.facts_in)
          ∙ going-made (Ok (trees_of new.nodes)) e;
    }

    -- the terms that there are come first
    going-first : IsFirst (trees_of now.nodes) (steps_in old c start steps).known
    going-first = subst (λ (o : Outcome Path). IsFirst (trees_of now.nodes) o.known) g.same (steps-first old.most (asks old c) rest (trees_of now.nodes) found)

    made-first : (r : Result (List Term) (List Term)) → IsFirst (terms_of r) (where_made r rest_of).known
    made-first (Ok known) = step-rest-first old.most (asks old c) known found s others
    made-first (Err known) = first-same known

    -- there is no room for one of them, or no memory
    pub going-unmade : (new : Arena) (e : CheckStop) → IsMadeStop new e (all_kept now.most (trees_of now.nodes) (made_by (asks now c) s)) → EndsAs new e (steps_in old c start steps)
    going-unmade new (Wide op a b) h = absurd h
    going-unmade new (Form t) h = absurd h
    going-unmade new Size h = ends-told new Size (steps_in old c start steps) (sym (going-made (Err (trees_of new.nodes)) h)) tt (λ m. absurd (cc))
    going-unmade new Memory h =
        let r = all_kept now.most (trees_of now.nodes) (made_by (asks now c) s) in
        ends-told new Memory (steps_in old c start steps) tt tt
        (λ m. first-then (trees_of new.nodes) (terms_of r) (steps_in old c start steps).known h (subst (λ (o : Outcome Path). IsFirst (terms_of r) o.known) (going-made r refl) (made-first r)))

-- ---- a step whose terms are made

module _ {old : Arena} {c : Task} {start : List TermId} {steps : List Step} {now : Arena} {facts : List TermId} {s : Step} {others : List Step} (p : Prepared old c start steps now facts s others) (ci : TaskIn old c) where
  abbrev found_now : List Term
  found_now = map (tree now) facts

  abbrev after : Term → Outcome Path
  after t = add_fact old.most (trees_of now.nodes) t (λ more. steps_outcome old.most (asks old c) more (found_now ++ t ∷ []) others)

  pub prepared-step : StepIn now s
  prepared-step = StepIn-Extends p.grows s p.rest_in.0

  -- what the step does decides the rest
  going-trial : (t : Trial) → trial now.most (asks now c) (trees_of now.nodes) found_now s ≡ t → on_trial (trees_of now.nodes) t after (closed_if_last others) ≡ steps_in old c start steps
  going-trial t e = ap (λ u. on_trial (trees_of now.nodes) u after (closed_if_last others)) (sym e ∙ trial-Extends p.grows c ci (trees_of now.nodes) found_now s p.rest_in.0) ∙ p.same

  -- the terms that there are come first
  step-first : IsFirst (trees_of now.nodes) (steps_in old c start steps).known
  step-first = subst (λ (o : Outcome Path). IsFirst (trees_of now.nodes) o.known) p.same (step-rest-first old.most (asks old c) (trees_of now.nodes) found_now s others)

  -- the check ends in the step
  pub going-stops : (new : Arena) (e : CheckStop) → IsTrialStop now new e (trial now.most (asks now c) (trees_of now.nodes) found_now s) → EndsAs new e (steps_in old c start steps)
  going-stops new e h =
      ends-told new e (steps_in old c start steps) (if_some (halt_at new e) (λ x is. sym (going-trial (Halts x) is)) h.told) h.form
      (λ m. subst (λ (b : Arena). IsFirst (trees_of b.nodes) (steps_in old c start steps).known) (sym (h.unchanged m)) step-first)

  module _ (e : Effect) (is : trial now.most (asks now c) (trees_of now.nodes) found_now s ≡ Does (effect_of now e)) where
    going-does : (f : Effect) → e ≡ f → on_does (trees_of now.nodes) (effect_of now f) after (closed_if_last others) ≡ steps_in old c start steps
    going-does f same = ap (λ k. on_does (trees_of now.nodes) (effect_of now k) after (closed_if_last others)) (sym same) ∙ going-trial (Does (effect_of now e)) is

    pub going-ends : e ≡ effect.Ends → (r : walked.Path) → path_of found_now r ≡ closed_if_last others → Leads old c start steps now facts r
    going-ends same r last = record {
      outcome = sym (going-does effect.Ends same) ∙ ap (comes (trees_of now.nodes)) (sym last);
      in_range = p.facts_in;
      before_is = p.before_is;
    }

    pub going-fails : e ≡ effect.Fails → Leads old c start steps now facts path.Broken
    going-fails same = record { outcome = sym (going-does effect.Fails same); in_range = p.facts_in; before_is = p.before_is }

    module _ (fact : Fact) (same : e ≡ effect.Adds fact) where
      abbrev later : List Term → Outcome Path
      later more = steps_outcome old.most (asks old c) more (found_now ++ fact_of now fact ∷ []) others

      going-adds : on_kept (trees_of now.nodes) (kept old.most (trees_of now.nodes) (fact_of now fact)) later ≡ steps_in old c start steps
      going-adds = going-does (effect.Adds fact) same

      kept-now : (o : Option (List Term)) → kept now.most (trees_of now.nodes) (fact_of now fact) ≡ o → on_kept (trees_of now.nodes) o later ≡ steps_in old c start steps
      kept-now o k = ap (λ r. on_kept (trees_of now.nodes) r later) (sym k ∙ ap (λ m. kept m (trees_of now.nodes) (fact_of now fact)) p.grows.most) ∙ going-adds

      pub going-on : (new : Arena) → Extends now new → (more : List TermId) → map (tree new) more ≡ found_now ++ fact_of now fact ∷ [] → AllBelow (length new.nodes) more → take (length facts) more ≡ facts
          → kept now.most (trees_of now.nodes) (fact_of now fact) ≡ Some (trees_of new.nodes) → Going old c start steps new more others
      going-on new grows more m in_range longer k = record {
        grows = Extends-trans p.grows grows;
        facts_in = in_range;
        rest_in = p.rest_in.1;
        before_is = take-longer (length start) (length facts) facts more start p.before_is longer (take-short (length start) facts start p.before_is refl);
        same = ap (λ fs. steps_outcome old.most (asks old c) (trees_of new.nodes) fs others) m ∙ kept-now (Some (trees_of new.nodes)) k;
      }

      pub going-full : (new : Arena) (x : CheckStop) → IsAddFault x (kept now.most (trees_of now.nodes) (fact_of now fact)) → new ≡ now → EndsAs new x (steps_in old c start steps)
      going-full new x h unchanged = subst (λ (b : Arena). EndsAs b x (steps_in old c start steps)) (sym unchanged) (by x h)
        where
          by : (y : CheckStop) → IsAddFault y (kept now.most (trees_of now.nodes) (fact_of now fact)) → EndsAs now y (steps_in old c start steps)
          by (Wide op a b) h = absurd h
          by (Form t) h = absurd h
          by Size h = ends-told now Size (steps_in old c start steps) (sym (kept-now None h)) tt (λ m. step-first)
          by Memory h = ends-told now Memory (steps_in old c start steps) tt tt (λ m. step-first)

-- ---- a step that stops nothing leaves the arena as it is

pub record Stepped (old : Arena) (c : Task) (start : List TermId) (steps : List Step) (now : Arena) (facts : List TermId) (s : Step) (others : List Step) (e : Effect) : Type 0 where
  pub prepared : Prepared old c start steps now facts s others
  pub does : trial now.most (asks now c) (trees_of now.nodes) (map (tree now) facts) s ≡ Does (effect_of now e)

pub stepped : {old : Arena} {c : Task} {start : List TermId} {steps : List Step} {now : Arena} {facts : List TermId} {s : Step} {others : List Step} → Prepared old c start steps now facts s others
    → (new : Arena) (slice : List TermId) (e : Effect) → new ≡ now → slice ≡ facts → trial now.most (asks now c) (trees_of now.nodes) (map (tree now) slice) s ≡ Does (effect_of now e)
    → Stepped old c start steps new facts s others e
stepped {old} {c} {start} {steps} {now} {facts} {s} {others} p new slice e same items does =
    subst (λ (b : Arena). Stepped old c start steps b facts s others e) (sym same)
    (record { prepared = p; does = ap (λ (ts : List TermId). trial now.most (asks now c) (trees_of now.nodes) (map (tree now) ts) s) (sym items) ∙ does })

-- the error that is handed on
pub if_same : {T : Type 0} (r : Result T CheckStop) (e : CheckStop) (Q : CheckStop → Type 0) → IsErrAnd r (λ f. f ≡ e) → Q e → IfErr r Q
if_same (Ok x) e Q k q = tt
if_same (Err f) e Q k q = subst Q (sym k) q

-- ---- the place of the last step

no_steps-length : (steps : List Step) → nat_eq (length steps) 0 ≡ no_steps steps
no_steps-length [] = refl
no_steps-length (s ∷ steps) = none (length steps)
  where
    none : (n : ℕ) → nat_eq (suc n) 0 ≡ false
    none n = grind (arith, nat_tests)

same_test : (k n : ℕ) → k ≤ n → nat_eq k n ≡ nat_eq (n - k) 0
same_test k n h = grind (arith, nat_tests)

pub last-step : (steps : List Step) (i : ℕ) → i < length steps → no_steps (drop (i + 1) steps) ≡ nat_eq (i + 1) (length steps)
last-step steps i h =
    sym (same_test (i + 1) (length steps) (omega arith)
    ∙ (ap (λ n. nat_eq n 0) (sym (length-drop (i + 1) steps)) ∙ no_steps-length (drop (i + 1) steps)))

pub next-step : (steps : List Step) (i : ℕ) (s : Step) → i < length steps → s ≡ get_or steps i s → drop i steps ≡ s ∷ drop (i + 1) steps
next-step steps i s h e = at_drop_more (λ (r : List Step). r) steps i s h ∙ ap (λ t. t ∷ drop (i + 1) steps) (sym e)
