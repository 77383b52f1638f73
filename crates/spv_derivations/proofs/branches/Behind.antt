-- Steps that close a path behind its cases.
use Rattle.std.proofs.Common.{◌≡◌, ℕ, zero, suc, ◌+◌, ◌<◌, Bool, true, false, List, [], ◌∷◌, ◌++◌, length, fold, refl, sym, ap, ◌∙◌, subst, Option, Some, None, arith, inl, inr, ◌⊎◌}
use Rattle.std.specs.Prelude.{slice_get, slice_index_or}
use Rattle.std.proofs.lemmas.Bool.{cases_lt}
use Rattle.std.proofs.lemmas.List.{length_push, get_or_past}
use Rattle.std.proofs.lemmas.Option.{slice_get_within, slice_get_past, get_or_from_slice_get, same_Some}
use Rattle.spv_logic.specs.declared.conditions.TermId.{TermId}
use Rattle.spv_logic.specs.Terms.{Term, term_eq}
use Rattle.spv_logic.specs.Formulas.{equation}
use Rattle.spv_term.proofs.ListLemmas.{slice_get-append_left, slice_get_push}
use Rattle.spv_atoms.specs.declared.proofs.Relation.TheVariants.{AtMost, Equal}
use Rattle.spv_atoms.specs.declared.proofs.Step.{Step}
use Rattle.spv_atoms.specs.declared.proofs.Step.TheVariants as step
use Rattle.spv_proof_rules.specs.Effects.{Question, Effect, Adds, Ends, Fails, effect, numbered, adds_if, adds_known, cited, sides_of, exchanged, joined, congruent, evaluated, is_truth, rule_stated, schema_stated, stated}
use Rattle.spv_proof_rules.specs.Evaluation.{evaluates}
use Rattle.spv_proof_rules.specs.Accepted.{Open, Closed, closed_if_last, on_effect, walk}
use Rattle.spv_derivations.specs.declared.derivation.entries.Part.{Part}
use Rattle.spv_derivations.specs.declared.derivation.entries.Entry.{Entry}
use Rattle.spv_derivations.specs.declared.derivation.entries.Entry.TheVariants.{Told, Derived}
use Rattle.spv_derivations.specs.derivation.Derivation.{added_by, literal}
use Rattle.spv_atoms.specs.Steps.{renumbered}
use Rattle.spv_derivations.specs.derivation.Renumbered.{Moves}
use Rattle.spv_derivations.specs.derivation.Steps.{Copied, outside_of, with_entry, uncopied, copy_of, closing_steps_of}
use Rattle.spv_derivations.proofs.derivation.Renumbering.{of_cited, effect-renumbered}
use Rattle.spv_derivations.proofs.derivation.Growth.{numbered-more, numbered-push}
use Rattle.spv_derivations.specs.branches.Paths.{fact_in, facts_from, facts_in, Follow, AreCases, IsPath, EndsPath, IsClosing, as_entries}
use Rattle.spv_derivations.proofs.branches.Following.{follow-append}

-- ---- numbers of facts

-- the facts have these numbers among those of a path
record Numbers (old now : List Term) (ns : List ℕ) : Type 0 where
  many : length ns ≡ length old
  each : (j n : ℕ) → slice_get ns j ≡ Some n → numbered now n ≡ slice_get old j

there : {X : Type 0} (xs : List X) (j : ℕ) → j < length xs → (x : X) × (slice_get xs j ≡ Some x)
there [] j h = absurd (omega arith)
there (x ∷ xs) zero h = (x, refl)
there (x ∷ xs) (suc j) h = there xs j (omega arith)

-- an item of a list with one more at the end
pushed : {X : Type 0} (xs : List X) (y z : X) (j : ℕ) → slice_get (xs ++ y ∷ []) j ≡ Some z → ((j < length xs) × (slice_get xs j ≡ Some z)) ⊎ ((j ≡ length xs) × (y ≡ z))
pushed xs y z j h = elim (cases_lt j (length xs)) [
  | inl below ↦ inl (below, sym (slice_get-append_left xs (y ∷ []) j below) ∙ h)
  | inr above ↦
      let within = slice_get_within (xs ++ y ∷ []) j z h in
      let at : j ≡ length xs = omega (arith, length_push xs y) in
      inr (at, same_Some y z (sym (slice_get_push xs y) ∙ ap (slice_get (xs ++ y ∷ [])) (sym at) ∙ h))
]

numbers-told : (old now : List Term) (ns : List ℕ) (t : Term) (n : ℕ) → Numbers old now ns → numbered now n ≡ Some t → Numbers (old ++ t ∷ []) now (ns ++ n ∷ [])
numbers-told old now ns t n h at = record {
  many = omega (arith, length_push ns n, length_push old t, h.many);
  each = λ j m there. elim (pushed ns n m j there) [
    | inl p ↦
        let within : j < length old = omega (arith, h.many, p.0) in
        h.each j m p.1 ∙ sym (slice_get-append_left old (t ∷ []) j within)
    | inr p ↦
        let place : j ≡ length old = omega (arith, h.many, p.0) in
        ap (numbered now) (sym p.1) ∙ at ∙ sym (ap (slice_get (old ++ t ∷ [])) place ∙ slice_get_push old t)
  ];
}

numbers-more : (old now more : List Term) (ns : List ℕ) → Numbers old now ns → Numbers old (now ++ more) ns
numbers-more old now more ns h = record {
  many = h.many;
  each = λ j n at.
      let within = slice_get_within ns j n at in
      let fact = there old j (omega (arith, h.many)) in
      numbered-more now more n fact.0 (h.each j n at ∙ fact.1) ∙ sym fact.1;
}

past_end : (now : List Term) (next : ℕ) → next ≡ length now + 1 → numbered now next ≡ None
past_end now zero e = refl
past_end now (suc k) e = slice_get_past now k (omega arith)

-- so each fact moves
moves : (old now : List Term) (c : Copied) → Numbers old now c.numbers → c.next ≡ length now + 1 → (k : ℕ) → Moves old now (outside_of c) k
moves old now c h e zero = record { same = refl; zero_stays = λ z. refl; only_zero = λ z. refl }
moves old now c h e (suc j) = elim (cases_lt j (length c.numbers)) [
  | inl below ↦
      let n = there c.numbers j below in
      let fact = there old j (omega (arith, h.many)) in
      let is : slice_index_or c.numbers j c.next ≡ n.0 = get_or_from_slice_get c.numbers j n.0 c.next n.1 in
      let same : numbered now (slice_index_or c.numbers j c.next) ≡ slice_get old j = ap (numbered now) is ∙ h.each j n.0 n.1 in
      record {
        same = same;
        zero_stays = λ z. absurd (omega arith);
        only_zero = λ z. absurd (nothing (ap (numbered now) (sym z) ∙ same ∙ fact.1));
      }
  | inr above ↦
      let is : slice_index_or c.numbers j c.next ≡ c.next = get_or_past c.numbers j c.next above in
      record {
        same = ap (numbered now) is ∙ past_end now c.next e ∙ sym (slice_get_past old j (omega (arith, h.many)));
        zero_stays = λ z. absurd (omega arith);
        only_zero = λ z. absurd (omega (arith, e, is, z));
      }
]
  where
    nothing : {t : Term} → None ≡ Some t → ⊥
    nothing e = cc

-- ---- walks

module _ (q : Question) where
  not_open : (xs : List Step) (now : List Term) → closed_if_last xs ≡ Open now → ⊥
  not_open [] now h = cc
  not_open (s ∷ xs) now h = cc

  walk-append : (xs ys : List Step) (start now : List Term) → walk q start xs ≡ Open now → walk q start (xs ++ ys) ≡ walk q now ys
  walk-append [] ys start now h = let same : start ≡ now = cc in ap (λ ts. walk q ts ys) same
  walk-append (s ∷ xs) ys start now h = by_effect (effect q start s) (λ t g. walk-append xs ys (start ++ t ∷ []) now g) h
    where
      by_effect : (e : Effect) → ((t : Term) → walk q (start ++ t ∷ []) xs ≡ Open now → walk q (start ++ t ∷ []) (xs ++ ys) ≡ walk q now ys)
          → on_effect e (λ t. walk q (start ++ t ∷ []) xs) (closed_if_last xs) ≡ Open now
          → on_effect e (λ t. walk q (start ++ t ∷ []) (xs ++ ys)) (closed_if_last (xs ++ ys)) ≡ walk q now ys
      by_effect (Adds t) next g = next t g
      by_effect Ends next g = absurd (not_open xs now g)
      by_effect Fails next g = absurd (cc)

  walk-one : (now : List Term) (s : Step) (t : Term) → effect q now s ≡ Adds t → walk q now (s ∷ []) ≡ Open (now ++ t ∷ [])
  walk-one now s t h = ap (λ e. on_effect e (λ x. walk q (now ++ x ∷ []) []) (closed_if_last [])) h

  walk-end : (now : List Term) (s : Step) → effect q now s ≡ Ends → walk q now (s ∷ []) ≡ Closed
  walk-end now s h = ap (λ e. on_effect e (λ x. walk q (now ++ x ∷ []) []) (closed_if_last [])) h

-- ---- effects that are no ends

not_if : (b : Bool) (t : Term) → adds_if b t ≡ Ends → ⊥
not_if true t e = cc
not_if false t e = cc

not_known : (o : Option Term) → adds_known o ≡ Ends → ⊥
not_known None e = cc
not_known (Some t) e = cc

not_exchanged : (o : Option (Term × Term)) → exchanged o ≡ Ends → ⊥
not_exchanged None e = cc
not_exchanged (Some st) e = cc

not_joined : (o p : Option (Term × Term)) → joined o p ≡ Ends → ⊥
not_joined None p e = cc
not_joined (Some st) None e = cc
not_joined (Some st) (Some tu) e = not_if (term_eq st.1 tu.0) (equation st.0 tu.1) e

not_evaluated : (truth : Term → Bool) (o : Option Term) (p : Option (List Term)) → evaluated truth o p ≡ Ends → ⊥
not_evaluated truth None p e = cc
not_evaluated truth (Some t) None e = cc
not_evaluated truth (Some t) (Some ts) e = not_if (evaluates truth ts t) t e

-- ---- copies

module _ (q : Question) (start : List Term) where
  -- what was copied so far: its steps lead to a path on which each fact has its number
  record Stands (before now : List Term) (x : Copied) : Type 0 where
    walks : walk q start x.steps ≡ Open now
    next_is : x.next ≡ length now + 1
    numbers : Numbers before now x.numbers

  cases-next : (now : List Term) (e : Entry) (es : List Entry) → AreCases q now (e ∷ es) → AreCases q now es
  cases-next now e es h = record { each = λ i t part why at. h.each (suc i) t part why at }

  cases-behind : (now more : List Term) (es : List Entry) → AreCases q now es → AreCases q (now ++ more) es
  cases-behind now more es h = record { each = λ i t part why at. numbered-more now more why (literal (q.at t) part) (h.each i t part why at) }

  effect-moved : (before now : List Term) (x : Copied) (s : Step) → Stands before now x → effect q now (renumbered (outside_of x) s) ≡ effect q before s
  effect-moved before now x s h = effect-renumbered before now (outside_of x) q s (of_cited (λ k. Moves before now (outside_of x) k) (moves before now x h.numbers h.next_is) s)

  stands-told : (before now : List Term) (x : Copied) (t : TermId) (part : Part) (why : ℕ) → numbered now why ≡ Some (literal (q.at t) part)
      → Stands before now x → Stands (before ++ literal (q.at t) part ∷ []) now (with_entry x (Told t part why))
  stands-told before now x t part why at h = record { walks = h.walks; next_is = h.next_is; numbers = numbers-told before now x.numbers (literal (q.at t) part) why h.numbers at }

  stands-derived : (before now : List Term) (x : Copied) (s : Step) (t : Term) → effect q before s ≡ Adds t → Stands before now x → Stands (before ++ t ∷ []) (now ++ t ∷ []) (with_entry x (Derived s))
  stands-derived before now x s t adds h = record {
    walks = walk-append q x.steps (renumbered (outside_of x) s ∷ []) start now h.walks ∙ walk-one q now (renumbered (outside_of x) s) t (effect-moved before now x s h ∙ adds);
    next_is = omega (arith, length_push now t, h.next_is);
    numbers = numbers-told before (now ++ t ∷ []) x.numbers t x.next (numbers-more before now (t ∷ []) x.numbers h.numbers) (numbered-push now t x.next h.next_is);
  }

  -- some facts are reached, and each fact has its number there
  record Arrives (before : List Term) (x : Copied) : Type 0 where
    now : List Term
    stands : Stands before now x

  stands-all : (es : List Entry) (before now : List Term) (x : Copied) → Follow q before es → AreCases q now es → Stands before now x → Arrives (facts_from q before es) (fold with_entry x es)
  stands-all [] before now x f cases h = record { now = now; stands = h }
  stands-all (Told t part why ∷ es) before now x f cases h =
      stands-all es (before ++ literal (q.at t) part ∷ []) now (with_entry x (Told t part why)) f.1 (cases-next now (Told t part why) es cases)
      (stands-told before now x t part why (cases.each 0 t part why refl) h)
  stands-all (Derived s ∷ es) before now x f cases h =
      let fact = fact_in q before (Derived s) in
      let is : f.0.0 ≡ fact = sym (ap added_by f.0.1) in
      let adds : effect q before s ≡ Adds fact = f.0.1 ∙ ap Adds is in
      stands-all es (before ++ fact ∷ []) (now ++ fact ∷ []) (with_entry x (Derived s)) f.1 (cases-behind now (fact ∷ []) es (cases-next now (Derived s) es cases)) (stands-derived before now x s fact adds h)

  stands-none : Stands [] start (uncopied (length start))
  stands-none = record { walks = refl; next_is = refl; numbers = record { many = refl; each = λ j n at. absurd (cc) } }

  stands-path : (es : List Entry) → Follow q [] es → AreCases q start es → Arrives (facts_in q es) (copy_of (length start) es)
  stands-path es f cases = stands-all es [] start (uncopied (length start)) f cases stands-none

-- ---- closing

one_step : (before : List Term) (s t : Step) → s ∷ [] ≡ t ∷ [] → s ≡ t
one_step before s t e = cc

-- steps that close a path: each but the last one adds a fact, and the last one ends it
record Splits (q : Question) (before : List Term) (front : List Step) (last : Step) : Type 0 where
  follow : Follow q before (as_entries front)
  ends : effect q (facts_from q before (as_entries front)) last ≡ Ends

last_alone : (q : Question) (before : List Term) (last : Step) → walk q before (last ∷ []) ≡ Closed → effect q before last ≡ Ends
last_alone q before last h = by_effect (effect q before last) h
  where
    by_effect : (e : Effect) → on_effect e (λ t. walk q (before ++ t ∷ []) []) (closed_if_last []) ≡ Closed → e ≡ Ends
    by_effect (Adds t) g = absurd (cc)
    by_effect Ends g = refl
    by_effect Fails g = absurd (cc)

splits : (q : Question) (before : List Term) (front : List Step) (last : Step) → walk q before (front ++ last ∷ []) ≡ Closed → Splits q before front last
splits q before [] last h = record { follow = tt; ends = last_alone q before last h }
splits q before (s ∷ front) last h = by_effect (effect q before s) refl h (λ t g. splits q (before ++ t ∷ []) front last g)
  where
    not_last : (xs : List Step) → closed_if_last (xs ++ last ∷ []) ≡ Closed → ⊥
    not_last [] g = cc
    not_last (x ∷ xs) g = cc

    by_effect : (e : Effect) → effect q before s ≡ e → on_effect e (λ t. walk q (before ++ t ∷ []) (front ++ last ∷ [])) (closed_if_last (front ++ last ∷ [])) ≡ Closed
        → ((t : Term) → walk q (before ++ t ∷ []) (front ++ last ∷ []) ≡ Closed → Splits q (before ++ t ∷ []) front last) → Splits q before (s ∷ front) last
    by_effect (Adds t) e g next =
        let rest = next t g in
        let is : t ≡ added_by (effect q before s) = sym (ap added_by e) in
        record {
          follow = ((t, e), subst (λ (u : Term). Follow q (before ++ u ∷ []) (as_entries front)) is rest.follow);
          ends = subst (λ (u : Term). effect q (facts_from q (before ++ u ∷ []) (as_entries front)) last ≡ Ends) is rest.ends;
        }
    by_effect Ends e g next = absurd (not_last front g)
    by_effect Fails e g next = absurd (cc)

cases-with : (q : Question) (cases : List Term) (es : List Entry) (front : List Step) → AreCases q cases es → AreCases q cases (es ++ as_entries front)
cases-with q cases es front h = record { each = λ i t part why at. each es h.each i t part why at }
  where
    derived : (steps : List Step) (i : ℕ) (t : TermId) (part : Part) (why : ℕ) → slice_get (as_entries steps) i ≡ Some (Told t part why) → ⊥
    derived [] i t part why at = cc
    derived (s ∷ steps) zero t part why at = cc
    derived (s ∷ steps) (suc i) t part why at = derived steps i t part why at

    each : (xs : List Entry) → ((i : ℕ) (t : TermId) (part : Part) (why : ℕ) → slice_get xs i ≡ Some (Told t part why) → numbered cases why ≡ Some (literal (q.at t) part))
        → (i : ℕ) (t : TermId) (part : Part) (why : ℕ) → slice_get (xs ++ as_entries front) i ≡ Some (Told t part why) → numbered cases why ≡ Some (literal (q.at t) part)
    each [] k i t part why at = absurd (derived front i t part why at)
    each (x ∷ xs) k zero t part why at = k 0 t part why at
    each (x ∷ xs) k (suc i) t part why at = each xs (λ j u p w e. k (suc j) u p w e) i t part why at

facts-append : (q : Question) (before : List Term) (es more : List Entry) → facts_from q before (es ++ more) ≡ facts_from q (facts_from q before es) more
facts-append q before [] more = refl
facts-append q before (e ∷ es) more = facts-append q (before ++ fact_in q before e ∷ []) es more

pub steps_close : (q : Question) (cases : List Term) (es : List Entry) (front : List Step) (first : ℕ) (second : Option ℕ) → IsPath q cases es → walk q (facts_in q es) (front ++ step.Contra first second ∷ []) ≡ Closed
    → walk q cases (closing_steps_of (length cases) (es ++ as_entries front) first second) ≡ Closed
steps_close q cases es front first second h w =
    let k = splits q (facts_in q es) front (step.Contra first second) w in
    let r = stands-path q cases (es ++ as_entries front) (follow-append q [] es (as_entries front) h.follow k.follow) (cases-with q cases es front h.cases_are) in
    let x : Copied = copy_of (length cases) (es ++ as_entries front) in
    let last : Step = renumbered (outside_of x) (step.Contra first second) in
    let ends : effect q (facts_in q (es ++ as_entries front)) (step.Contra first second) ≡ Ends = ap (λ fs. effect q fs (step.Contra first second)) (facts-append q [] es (as_entries front)) ∙ k.ends in
    walk-append q x.steps (last ∷ []) cases r.now r.stands.walks ∙ walk-end q r.now last (effect-moved q cases (facts_in q (es ++ as_entries front)) r.now x (step.Contra first second) r.stands ∙ ends)

-- ---- steps that close a path end it

pub ends_path : (q : Question) (before : List Term) (steps : List Step) → walk q before steps ≡ Closed → EndsPath steps
ends_path q before [] h = absurd (cc)
ends_path q before (s ∷ steps) h = by_effect (effect q before s) refl h (λ t g. ends_path q (before ++ t ∷ []) steps g)
  where
    alone : (xs : List Step) → closed_if_last xs ≡ Closed → xs ≡ []
    alone [] g = refl
    alone (x ∷ xs) g = absurd (cc)

    behind : EndsPath steps → EndsPath (s ∷ steps)
    behind e = record { front = s ∷ e.front; first = e.first; second = e.second; is = ap (λ xs. s ∷ xs) e.is }

    -- only a contradiction ends a path
    is_end : (x : Step) → effect q before x ≡ Ends → EndsPath (x ∷ [])
    is_end (step.Contra i j) e = record { front = []; first = i; second = j; is = refl }
    is_end (step.Given zero) e = absurd (cc)
    is_end (step.Given (suc k)) e = absurd (not_known (slice_get q.sequent.given k) e)
    is_end (step.Refl t) e = absurd (cc)
    is_end (step.Symm i) e = absurd (not_exchanged (sides_of (numbered before i)) e)
    is_end (step.Trans i j) e = absurd (not_joined (sides_of (numbered before i)) (sides_of (numbered before j)) e)
    is_end (step.Cong t u ks) e = absurd (not_if (congruent before (q.at t) (q.at u) ks) (equation (q.at t) (q.at u)) e)
    is_end (step.Linear (AtMost s t) first second) e = absurd (not_if _ _ e)
    is_end (step.Linear (Equal s t) first second) e = absurd (not_if _ _ e)
    is_end (step.Schema kind ts field) e = absurd (not_known (schema_stated q kind ts field) e)
    is_end (step.Rule number ts) e = absurd (not_known (rule_stated q number ts) e)
    is_end (step.Eval c ks) e = absurd (not_evaluated (is_truth q) (stated q c) (cited before ks) e)

    by_effect : (e : Effect) → effect q before s ≡ e → on_effect e (λ t. walk q (before ++ t ∷ []) steps) (closed_if_last steps) ≡ Closed → ((t : Term) → walk q (before ++ t ∷ []) steps ≡ Closed → EndsPath steps) → EndsPath (s ∷ steps)
    by_effect (Adds t) e g next = behind (next t g)
    by_effect Ends e g next = subst (λ (xs : List Step). EndsPath (s ∷ xs)) (sym (alone steps g)) (is_end s e)
    by_effect Fails e g next = absurd (cc)

-- the closing steps of a path close it behind its cases
pub closing_closes : (q : Question) (es : List Entry) (steps : List Step) (count : ℕ) (closing : List Step) → walk q (facts_in q es) steps ≡ Closed → IsClosing es steps count closing → (known : List Term) → length known ≡ count → IsPath q known es
    → walk q known closing ≡ Closed
closing_closes q es steps count closing w h known many path =
    ap (walk q known) (h.is ∙ ap (λ n. closing_steps_of n (es ++ as_entries h.ends.front) h.ends.first h.ends.second) (sym many))
    ∙ steps_close q known es h.ends.front h.ends.first h.ends.second path (ap (walk q (facts_in q es)) (sym h.ends.is) ∙ w)
