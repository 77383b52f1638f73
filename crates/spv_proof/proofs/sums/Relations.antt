-- What is read of relations, by their heads and the terms that they relate.
use Rattle.std.proofs.Common.{◌≡◌, ℕ, zero, suc, Bool, true, false, cond, ◌&&◌, List, slice_get, refl, sym, ap, ◌∙◌, Option, Some, None}
use Rattle.std.specs.Option.{option_map}
use Rattle.spv_logic.specs.declared.conditions.TermId.{TermId}
use Rattle.spv_logic.specs.declared.operators.Head.{Head}
use Rattle.spv_logic.specs.declared.operators.Head.TheVariants.{Eq, Lt, Le}
use Rattle.spv_logic.specs.Terms.{Term, Terms, term}
use Rattle.spv_term.specs.declared.nodes.Node.{Node}
use Rattle.spv_term.specs.Arena.{Arena, IsArena, tree, trees, trees_of}
use Rattle.spv_term.proofs.ArenaLemmas.{tree-node}
use Rattle.spv_proof_rules.specs.Sums.{Reading, pair, comparison, read_if, reading, read_cited, cited_reading}
use Rattle.spv_proof_rules.specs.Effects as effects
use Rattle.spv_proof_rules.specs.Stops.{WideForm, Source, is_narrow_fact, fact_source, source}
use Rattle.spv_proof_rules.specs.Evaluation.{bare}
use Rattle.spv_proof.specs.declared.sums.reading.Cited.{Cited}
use Rattle.spv_proof.specs.sums.Readings.{number_in, number_pair, source_in, true_source, false_source, related}

-- a reading of a relation as a source
abbrev with_halt : List Term → Term → Bool → Reading → Source
with_halt known t b r = record { reading = r; fits = b; halt = record { known = known; stop = WideForm t } }

related-is : (h : Head) (ts : Terms) → comparison (term h ts) ≡ related h (pair ts)
related-is Eq ts = refl
related-is Lt ts = refl
related-is Le ts = refl
related-is _ ts = refl

-- two numbers are two terms that are numbers
record TwoNumbers (is_number : Term → Bool) (o : Option (Term × Term)) (s t : Term) : Type 0 where
  there : o ≡ Some (s, t)
  numbers : (is_number s && is_number t) ≡ true

two-numbers : (is_number : Term → Bool) (o : Option (Term × Term)) (s t : Term) → Some (s, t) ≡ number_pair is_number o → TwoNumbers is_number o s t
two-numbers is_number None s t e = absurd (cc)
two-numbers is_number (Some st) s t e = by_case (is_number st.0 && is_number st.1) refl e
  where
    by_case : (b : Bool) → (is_number st.0 && is_number st.1) ≡ b → Some (s, t) ≡ cond b (Some st) None → TwoNumbers is_number (Some st) s t
    by_case true f e =
        let same : st ≡ (s, t) = cc in
        record { there = ap Some same; numbers = ap (λ p. is_number p.0 && is_number p.1) (sym same) ∙ f }
    by_case false f e = absurd (cc)

no-numbers : (is_number : Term → Bool) (st : Term × Term) → None ≡ number_pair is_number (Some st) → (is_number st.0 && is_number st.1) ≡ false
no-numbers is_number st e = by_case (is_number st.0 && is_number st.1) refl e
  where
    by_case : (b : Bool) → (is_number st.0 && is_number st.1) ≡ b → None ≡ cond b (Some st) None → b ≡ false
    by_case true f e = absurd (cc)
    by_case false f e = refl

-- where the two are no numbers, nothing is read
true-none : (is_number : Term → Bool) (known : List Term) (t : Term) (h : Head) (o : Option (Term × Term)) → None ≡ number_pair is_number o → None ≡ true_source is_number known t (related h o)
true-none is_number known t Eq None e = refl
true-none is_number known t Lt None e = refl
true-none is_number known t Le None e = refl
true-none is_number known t Eq (Some st) e = let f = no-numbers is_number st e in rw f refl
true-none is_number known t Lt (Some st) e = let f = no-numbers is_number st e in rw f refl
true-none is_number known t Le (Some st) e = let f = no-numbers is_number st e in rw f refl
true-none is_number known t _ o e = refl

false-none : (is_number : Term → Bool) (known : List Term) (t : Term) (h : Head) (o : Option (Term × Term)) → None ≡ number_pair is_number o → None ≡ false_source is_number known t (related h o)
false-none is_number known t Eq None e = refl
false-none is_number known t Lt None e = refl
false-none is_number known t Le None e = refl
false-none is_number known t Eq (Some st) e = let f = no-numbers is_number st e in rw f refl
false-none is_number known t Lt (Some st) e = let f = no-numbers is_number st e in rw f refl
false-none is_number known t Le (Some st) e = let f = no-numbers is_number st e in rw f refl
false-none is_number known t _ o e = refl

other-true : (is_number : Term → Bool) (known : List Term) (t : Term) (h : Head) (o : Option (Term × Term)) → (h ≡ Eq → ⊥) → (h ≡ Lt → ⊥) → (h ≡ Le → ⊥) → None ≡ true_source is_number known t (related h o)
other-true is_number known t Eq o e l m = absurd (e refl)
other-true is_number known t Lt o e l m = absurd (l refl)
other-true is_number known t Le o e l m = absurd (m refl)
other-true is_number known t _ o e l m = refl

other-false : (is_number : Term → Bool) (known : List Term) (t : Term) (h : Head) (o : Option (Term × Term)) → (h ≡ Lt → ⊥) → (h ≡ Le → ⊥) → None ≡ false_source is_number known t (related h o)
other-false is_number known t Eq None l m = refl
other-false is_number known t Eq (Some st) l m = by_case (is_number st.0 && is_number st.1)
  where
    by_case : (b : Bool) → None ≡ option_map (with_halt known t true) (read_if b None)
    by_case true = refl
    by_case false = refl
other-false is_number known t Lt o l m = absurd (l refl)
other-false is_number known t Le o l m = absurd (m refl)
other-false is_number known t _ o l m = refl

module _ (a : Arena) (ok : IsArena a) (t : TermId) (n : Node) (at : slice_get a.nodes t.0 ≡ Some n) (args : List TermId) (args_are : args ≡ n.args) where
  related-at : related n.head (pair (trees a args)) ≡ comparison (tree a t)
  related-at = ap (λ ts. related n.head (pair (trees a ts))) args_are ∙ sym (ap comparison (tree-node a ok t n at) ∙ related-is n.head (trees a n.args))

  pub nothing-true : None ≡ number_pair (number_in a) (pair (trees a args)) → None ≡ true_source (number_in a) (trees_of a.nodes) (tree a t) (comparison (tree a t))
  nothing-true e = true-none (number_in a) (trees_of a.nodes) (tree a t) n.head (pair (trees a args)) e ∙ ap (true_source (number_in a) (trees_of a.nodes) (tree a t)) related-at

  pub nothing-false : None ≡ number_pair (number_in a) (pair (trees a args)) → None ≡ false_source (number_in a) (trees_of a.nodes) (tree a t) (comparison (tree a t))
  nothing-false e = false-none (number_in a) (trees_of a.nodes) (tree a t) n.head (pair (trees a args)) e ∙ ap (false_source (number_in a) (trees_of a.nodes) (tree a t)) related-at

  pub no-truth : (n.head ≡ Eq → ⊥) → (n.head ≡ Lt → ⊥) → (n.head ≡ Le → ⊥) → None ≡ true_source (number_in a) (trees_of a.nodes) (tree a t) (comparison (tree a t))
  no-truth e l m = other-true (number_in a) (trees_of a.nodes) (tree a t) n.head (pair (trees a args)) e l m ∙ ap (true_source (number_in a) (trees_of a.nodes) (tree a t)) related-at

  pub no-falsehood : (n.head ≡ Lt → ⊥) → (n.head ≡ Le → ⊥) → None ≡ false_source (number_in a) (trees_of a.nodes) (tree a t) (comparison (tree a t))
  no-falsehood l m = other-false (number_in a) (trees_of a.nodes) (tree a t) n.head (pair (trees a args)) l m ∙ ap (false_source (number_in a) (trees_of a.nodes) (tree a t)) related-at

  module _ (x y : TermId) (found : Some (tree a x, tree a y) ≡ number_pair (number_in a) (pair (trees a args))) where
    two : TwoNumbers (number_in a) (pair (trees a args)) (tree a x) (tree a y)
    two = two-numbers (number_in a) (pair (trees a args)) (tree a x) (tree a y) found

    related-here : (h : Head) → n.head ≡ h → comparison (tree a t) ≡ related h (Some (tree a x, tree a y))
    related-here h e = sym related-at ∙ (ap (λ k. related k (pair (trees a args))) e ∙ ap (related h) two.there)

    pub eq-true : (most : ℕ) (shown : Term) (c : Cited) → n.head ≡ Eq → c ≡ record { left = x; right = y; is_above = false; is_equal = true; relation = Some t }
        → Some (source_in a most shown c) ≡ true_source (number_in a) (trees_of a.nodes) (tree a t) (comparison (tree a t))
    eq-true most shown c e is = rw (is, related-here Eq e, two.numbers) refl

    pub lt-true : (most : ℕ) (shown : Term) (c : Cited) → n.head ≡ Lt → c ≡ record { left = x; right = y; is_above = true; is_equal = false; relation = Some t }
        → Some (source_in a most shown c) ≡ true_source (number_in a) (trees_of a.nodes) (tree a t) (comparison (tree a t))
    lt-true most shown c e is = rw (is, related-here Lt e, two.numbers) refl

    pub le-true : (most : ℕ) (shown : Term) (c : Cited) → n.head ≡ Le → c ≡ record { left = x; right = y; is_above = false; is_equal = false; relation = Some t }
        → Some (source_in a most shown c) ≡ true_source (number_in a) (trees_of a.nodes) (tree a t) (comparison (tree a t))
    le-true most shown c e is = rw (is, related-here Le e, two.numbers) refl

    pub lt-false : (most : ℕ) (shown : Term) (c : Cited) → n.head ≡ Lt → c ≡ record { left = y; right = x; is_above = false; is_equal = false; relation = Some t }
        → Some (source_in a most shown c) ≡ false_source (number_in a) (trees_of a.nodes) (tree a t) (comparison (tree a t))
    lt-false most shown c e is = rw (is, related-here Lt e, two.numbers) refl

    pub le-false : (most : ℕ) (shown : Term) (c : Cited) → n.head ≡ Le → c ≡ record { left = y; right = x; is_above = true; is_equal = false; relation = Some t }
        → Some (source_in a most shown c) ≡ false_source (number_in a) (trees_of a.nodes) (tree a t) (comparison (tree a t))
    le-false most shown c e is = rw (is, related-here Le e, two.numbers) refl

-- ---- cited numbers

cited-fact : (is_number : Term → Bool) (known facts : List Term) (denied : Source) (k : ℕ) → (k ≡ 0 → ⊥) → fact_source is_number known (effects.numbered facts k) ≡ source is_number known facts denied k
cited-fact is_number known facts denied zero h = absurd (h refl)
cited-fact is_number known facts denied (suc k) h = refl

-- a cited fact
pub cited-some : (a : Arena) (facts : List Term) (denied : Source) (k : ℕ) (t : Term) (o : Option Source) → (k ≡ 0 → ⊥) → Some t ≡ effects.numbered facts k
    → o ≡ fact_source (number_in a) (trees_of a.nodes) (Some t) → o ≡ source (number_in a) (trees_of a.nodes) facts denied k
cited-some a facts denied k t o h e is = is ∙ (ap (fact_source (number_in a) (trees_of a.nodes)) e ∙ cited-fact (number_in a) (trees_of a.nodes) facts denied k h)

pub cited-none : (a : Arena) (facts : List Term) (denied : Source) (k : ℕ) → (k ≡ 0 → ⊥) → None ≡ effects.numbered facts k → None ≡ source (number_in a) (trees_of a.nodes) facts denied k
cited-none a facts denied k h e = ap (fact_source (number_in a) (trees_of a.nodes)) e ∙ cited-fact (number_in a) (trees_of a.nodes) facts denied k h

-- ---- readings of sources

read-source : (is_number : Term → Bool) (known : List Term) (o : Option Term) → read_cited is_number o ≡ option_map (λ (s : Source). s.reading) (fact_source is_number known o)
read-source is_number known None = refl
read-source is_number known (Some t) = by_case (reading is_number t)
  where
    by_case : (r : Option Reading)
        → r ≡ option_map (λ (s : Source). s.reading) (option_map (with_halt known (bare t) (is_narrow_fact t)) r)
    by_case None = refl
    by_case (Some r) = refl

pub reading-source : (is_number : Term → Bool) (known facts : List Term) (denied : Source) (k : ℕ) → cited_reading is_number facts denied.reading k ≡ option_map (λ (s : Source). s.reading) (source is_number known facts denied k)
reading-source is_number known facts denied zero = refl
reading-source is_number known facts denied (suc k) = read-source is_number known (slice_get facts k)
