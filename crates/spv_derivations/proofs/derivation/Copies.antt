-- What the steps of a derivation do on a path whose first facts are numbered otherwise.
use Rattle.std.proofs.Common.{◌≡◌, ℕ, zero, suc, ◌+◌, ◌<◌, List, [], ◌∷◌, ◌++◌, length, fold, Option, Some, None, slice_get, slice_index_or, refl, sym, ap, ◌∙◌, subst, inl, inr, ◌⊎◌, arith}
use Rattle.std.proofs.lemmas.Bool.{cases_lt}
use Rattle.std.proofs.lemmas.List.{append-nil, append_assoc, length_push}
use Rattle.std.proofs.lemmas.Option.{slice_get_within, slice_get_past, get_or_from_slice_get, same_Some}
use Rattle.std.proofs.lemmas.List.{get_or_past}
use Rattle.spv_logic.specs.declared.conditions.TermId.{TermId}
use Rattle.spv_logic.specs.Terms.{Term}
use Rattle.spv_logic.specs.Conditions.{Sequent}
use Rattle.spv_term.specs.Arena.{Arena, tree}
use Rattle.spv_term.proofs.ListLemmas.{slice_get-append_left, slice_get_push}
use Rattle.spv_atoms.specs.declared.proofs.Step.{Step}
use Rattle.spv_atoms.specs.declared.proofs.Step.TheVariants as step
use Rattle.spv_proof_rules.specs.Effects.{Question, Effect, Adds, Ends, Fails, effect, numbered}
use Rattle.spv_proof_rules.specs.Accepted.{Open, Closed, closed_if_last, on_effect, walk}
use Rattle.spv_derivations.specs.declared.derivation.entries.Part.{Part}
use Rattle.spv_derivations.specs.declared.derivation.entries.Entry.{Entry}
use Rattle.spv_derivations.specs.declared.derivation.entries.Entry.TheVariants.{Told, Derived}
use Rattle.spv_derivations.specs.derivation.Derivation.{Adding, Follow, IsDerivation, added_by, any_sequent, asked, fact_of, facts, facts_from, literal}
use Rattle.spv_atoms.specs.Steps.{renumbered}
use Rattle.spv_derivations.specs.derivation.Renumbered.{Moves}
use Rattle.spv_derivations.specs.derivation.Steps.{Copied, outside, outside_of, with_entry, uncopied, copy_of, steps_of, closing_steps_of, derived_from, derived, AreTold, IsEnd}
use Rattle.spv_derivations.proofs.derivation.Renumbering.{of_cited, effect-renumbered}
use Rattle.spv_derivations.proofs.derivation.Growth.{numbered-more, numbered-push}

-- ---- numbers of facts

-- the facts have these numbers among those of a path
record Numbers (old now : List Term) (ns : List ℕ) : Type 0 where
  many : length ns ≡ length old
  each : (j n : ℕ) → slice_get ns j ≡ Some n → numbered now n ≡ slice_get old j

there : {X : Type 0} (xs : List X) (j : ℕ) → j < length xs → (x : X) × (slice_get xs j ≡ Some x)
there [] j h = absurd (omega arith)
there (x ∷ xs) zero h = (x, refl)
there (x ∷ xs) (suc j) h = there xs j (omega arith)

-- an item of a list with one more at the end
pushed : {X : Type 0} (xs : List X) (y z : X) (j : ℕ) → slice_get (xs ++ y ∷ []) j ≡ Some z → ((j < length xs) × (slice_get xs j ≡ Some z)) ⊎ ((j ≡ length xs) × (y ≡ z))
pushed xs y z j h = elim (cases_lt j (length xs)) [
  | inl below ↦ inl (below, sym (slice_get-append_left xs (y ∷ []) j below) ∙ h)
  | inr above ↦
      let within = slice_get_within (xs ++ y ∷ []) j z h in
      let at : j ≡ length xs = omega (arith, length_push xs y) in
      inr (at, same_Some y z (sym (slice_get_push xs y) ∙ ap (slice_get (xs ++ y ∷ [])) (sym at) ∙ h))
]

numbers-told : (old now : List Term) (ns : List ℕ) (t : Term) (n : ℕ) → Numbers old now ns → numbered now n ≡ Some t → Numbers (old ++ t ∷ []) now (ns ++ n ∷ [])
numbers-told old now ns t n h at = record {
  many = omega (arith, length_push ns n, length_push old t, h.many);
  each = λ j m there. elim (pushed ns n m j there) [
    | inl p ↦
        let within : j < length old = omega (arith, h.many, p.0) in
        h.each j m p.1 ∙ sym (slice_get-append_left old (t ∷ []) j within)
    | inr p ↦
        let place : j ≡ length old = omega (arith, h.many, p.0) in
        ap (numbered now) (sym p.1) ∙ at ∙ sym (ap (slice_get (old ++ t ∷ [])) place ∙ slice_get_push old t)
  ];
}

numbers-more : (old now more : List Term) (ns : List ℕ) → Numbers old now ns → Numbers old (now ++ more) ns
numbers-more old now more ns h = record {
  many = h.many;
  each = λ j n at.
      let within = slice_get_within ns j n at in
      let fact = there old j (omega (arith, h.many)) in
      numbered-more now more n fact.0 (h.each j n at ∙ fact.1) ∙ sym fact.1;
}

past_end : (now : List Term) (next : ℕ) → next ≡ length now + 1 → numbered now next ≡ None
past_end now zero e = refl
past_end now (suc k) e = slice_get_past now k (omega arith)

-- so each fact moves
moves : (old now : List Term) (c : Copied) → Numbers old now c.numbers → c.next ≡ length now + 1 → (k : ℕ) → Moves old now (outside_of c) k
moves old now c h e zero = record { same = refl; zero_stays = λ z. refl; only_zero = λ z. refl }
moves old now c h e (suc j) = elim (cases_lt j (length c.numbers)) [
  | inl below ↦
      let n = there c.numbers j below in
      let fact = there old j (omega (arith, h.many)) in
      let is : slice_index_or c.numbers j c.next ≡ n.0 = get_or_from_slice_get c.numbers j n.0 c.next n.1 in
      let same : numbered now (slice_index_or c.numbers j c.next) ≡ slice_get old j = ap (numbered now) is ∙ h.each j n.0 n.1 in
      record {
        same = same;
        zero_stays = λ z. absurd (omega arith);
        only_zero = λ z. absurd (nothing (ap (numbered now) (sym z) ∙ same ∙ fact.1));
      }
  | inr above ↦
      let is : slice_index_or c.numbers j c.next ≡ c.next = get_or_past c.numbers j c.next above in
      record {
        same = ap (numbered now) is ∙ past_end now c.next e ∙ sym (slice_get_past old j (omega (arith, h.many)));
        zero_stays = λ z. absurd (omega arith);
        only_zero = λ z. absurd (omega (arith, e, is, z));
      }
]
  where
    nothing : {t : Term} → None ≡ Some t → ⊥
    nothing e = cc

-- ---- walks

module _ (q : Question) where
  not_open : (xs : List Step) (now : List Term) → closed_if_last xs ≡ Open now → ⊥
  not_open [] now h = cc
  not_open (s ∷ xs) now h = cc

  walk-append : (xs ys : List Step) (start now : List Term) → walk q start xs ≡ Open now → walk q start (xs ++ ys) ≡ walk q now ys
  walk-append [] ys start now h = let same : start ≡ now = cc in ap (λ ts. walk q ts ys) same
  walk-append (s ∷ xs) ys start now h = by_effect (effect q start s) (λ t g. walk-append xs ys (start ++ t ∷ []) now g) h
    where
      by_effect : (e : Effect) → ((t : Term) → walk q (start ++ t ∷ []) xs ≡ Open now → walk q (start ++ t ∷ []) (xs ++ ys) ≡ walk q now ys)
          → on_effect e (λ t. walk q (start ++ t ∷ []) xs) (closed_if_last xs) ≡ Open now
          → on_effect e (λ t. walk q (start ++ t ∷ []) (xs ++ ys)) (closed_if_last (xs ++ ys)) ≡ walk q now ys
      by_effect (Adds t) next g = next t g
      by_effect Ends next g = absurd (not_open xs now g)
      by_effect Fails next g = absurd (cc)

  walk-one : (now : List Term) (s : Step) (t : Term) → effect q now s ≡ Adds t → walk q now (s ∷ []) ≡ Open (now ++ t ∷ [])
  walk-one now s t h = ap (λ e. on_effect e (λ x. walk q (now ++ x ∷ []) []) (closed_if_last [])) h

  walk-end : (now : List Term) (s : Step) → effect q now s ≡ Ends → walk q now (s ∷ []) ≡ Closed
  walk-end now s h = ap (λ e. on_effect e (λ x. walk q (now ++ x ∷ []) []) (closed_if_last [])) h

-- ---- copies

module _ (a : Arena) (c : Sequent) (start : List Term) where
  -- what was copied so far: its steps lead to a path on which each fact has its number
  record Stands (before now : List Term) (x : Copied) : Type 0 where
    walks : walk (asked a c) start x.steps ≡ Open now
    next_is : x.next ≡ length now + 1
    numbers : Numbers before now x.numbers

  told-next : (now : List Term) (e : Entry) (es : List Entry) → AreTold a now (e ∷ es) → AreTold a now es
  told-next now e es h = record { each = λ i t part why at. h.each (suc i) t part why at }

  told-more : (now more : List Term) (es : List Entry) → AreTold a now es → AreTold a (now ++ more) es
  told-more now more es h = record { each = λ i t part why at. numbered-more now more why (literal (tree a t) part) (h.each i t part why at) }

  effect-moved : (before now : List Term) (x : Copied) (s : Step) → Stands before now x → effect (asked a c) now (renumbered (outside_of x) s) ≡ effect (asked a c) before s
  effect-moved before now x s h =
      effect-renumbered before now (outside_of x) (asked a c) s
      (of_cited (λ k. Moves before now (outside_of x) k) (moves before now x h.numbers h.next_is) s)

  stands-told : (before now : List Term) (x : Copied) (t : TermId) (part : Part) (why : ℕ) → numbered now why ≡ Some (literal (tree a t) part)
      → Stands before now x → Stands (before ++ literal (tree a t) part ∷ []) now (with_entry x (Told t part why))
  stands-told before now x t part why at h = record {
    walks = h.walks;
    next_is = h.next_is;
    numbers = numbers-told before now x.numbers (literal (tree a t) part) why h.numbers at;
  }

  stands-derived : (before now : List Term) (x : Copied) (s : Step) (t : Term) → Adding a before s t
      → Stands before now x → Stands (before ++ t ∷ []) (now ++ t ∷ []) (with_entry x (Derived s))
  stands-derived before now x s t adds h = record {
    walks = walk-append (asked a c) x.steps (renumbered (outside_of x) s ∷ []) start now h.walks
        ∙ walk-one (asked a c) now (renumbered (outside_of x) s) t (effect-moved before now x s h ∙ adds.adds c);
    next_is = omega (arith, length_push now t, h.next_is);
    numbers = numbers-told before (now ++ t ∷ []) x.numbers t x.next (numbers-more before now (t ∷ []) x.numbers h.numbers) (numbered-push now t x.next h.next_is);
  }

  stands-all : (es : List Entry) (before now : List Term) (x : Copied) → Follow a before es → AreTold a now es → Stands before now x
      → Stands (facts_from a before es) (now ++ derived_from a before es) (fold with_entry x es)
  stands-all [] before now x f told h = subst (λ ts. Stands before ts x) (sym (append-nil now)) h
  stands-all (Told t part why ∷ es) before now x f told h =
      stands-all es (before ++ literal (tree a t) part ∷ []) now (with_entry x (Told t part why)) f.1 (told-next now (Told t part why) es told)
      (stands-told before now x t part why (told.each 0 t part why refl) h)
  stands-all (Derived s ∷ es) before now x f told h =
      let fact = fact_of a before (Derived s) in
      let is : f.0.0 ≡ fact = sym (ap added_by (f.0.1.adds any_sequent)) in
      let adds = subst (λ t. Adding a before s t) is f.0.1 in
      let rest = stands-all es (before ++ fact ∷ []) (now ++ fact ∷ []) (with_entry x (Derived s)) f.1
      (told-more now (fact ∷ []) es (told-next now (Derived s) es told)) (stands-derived before now x s fact adds h) in
      subst (λ ts. Stands (facts_from a (before ++ fact ∷ []) es) ts (fold with_entry (with_entry x (Derived s)) es))
      (append_assoc now (fact ∷ []) (derived_from a (before ++ fact ∷ []) es)) rest

  stands-none : Stands [] start (uncopied (length start))
  stands-none = record { walks = refl; next_is = refl; numbers = record { many = refl; each = λ j n at. absurd (cc) } }

  stands-derivation : (es : List Entry) → IsDerivation a es → AreTold a start es → Stands (facts a es) (start ++ derived a es) (copy_of (length start) es)
  stands-derivation es f told = stands-all es [] start (uncopied (length start)) f.follow told stands-none

  -- the steps add the derived facts in order
  pub steps-add : (es : List Entry) → IsDerivation a es → AreTold a start es → walk (asked a c) start (steps_of (length start) es) ≡ Open (start ++ derived a es)
  steps-add es f told = (stands-derivation es f told).walks

  -- and with an end of the path, they close it
  pub steps-close : (es : List Entry) (first : ℕ) (second : Option ℕ) → IsDerivation a es → AreTold a start es → IsEnd a es first second
      → walk (asked a c) start (closing_steps_of (length start) es first second) ≡ Closed
  steps-close es first second f told end =
      let h = stands-derivation es f told in
      let x = copy_of (length start) es in
      let last = renumbered (outside_of x) (step.Contra first second) in
      walk-append (asked a c) x.steps (last ∷ []) start (start ++ derived a es) h.walks
      ∙ walk-end (asked a c) (start ++ derived a es) last (effect-moved (facts a es) (start ++ derived a es) x (step.Contra first second) h ∙ end)

-- the same of a path with so many facts
pub steps-add_at : (a : Arena) (c : Sequent) (known : List Term) (es : List Entry) (count : ℕ) (steps : List Step) → steps ≡ steps_of count es → length known ≡ count
    → IsDerivation a es → AreTold a known es → walk (asked a c) known steps ≡ Open (known ++ derived a es)
steps-add_at a c known es count steps is many f told =
    ap (walk (asked a c) known) (is ∙ ap (λ n. steps_of n es) (sym many)) ∙ steps-add a c known es f told

pub steps-close_at : (a : Arena) (c : Sequent) (known : List Term) (es : List Entry) (count : ℕ) (steps : List Step) (first : ℕ) (second : Option ℕ) → steps ≡ closing_steps_of count es first second
    → length known ≡ count → IsDerivation a es → AreTold a known es → IsEnd a es first second → walk (asked a c) known steps ≡ Closed
steps-close_at a c known es count steps first second is many f told end =
    ap (walk (asked a c) known) (is ∙ ap (λ n. closing_steps_of n es first second) (sym many)) ∙ steps-close a c known es first second f told end

-- one derived entry more, as the code has it
pub copied-derived : (c : Copied) (s r : Step) (ns : List ℕ) → r ≡ renumbered (outside c.next ns) s → ns ≡ c.numbers
    → ◌≡◌ {A = Copied} (record { next = c.next + 1; numbers = c.numbers ++ c.next ∷ []; steps = c.steps ++ r ∷ [] }) (with_entry c (Derived s))
copied-derived c s r ns e f =
    let is : r ≡ renumbered (outside c.next c.numbers) s = e ∙ ap (λ ms. renumbered (outside c.next ms) s) f in
    λ i. record { next = c.next + 1; numbers = c.numbers ++ c.next ∷ []; steps = c.steps ++ is i ∷ [] }
