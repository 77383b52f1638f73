-- Entries that state an equation by their form add it.
use Rattle.std.proofs.Common.{◌≡◌, ℕ, zero, suc, ◌+◌, Bool, true, false, List, [], ◌∷◌, ◌++◌, length, Option, Some, None, slice_get, if◌then◌else◌, refl, sym, ap, ◌∙◌, arith}
use Rattle.std.proofs.lemmas.List.{length_push}
use Rattle.spv_logic.specs.declared.conditions.TermId.{TermId}
use Rattle.spv_logic.specs.declared.operators.Head.{Head}
use Rattle.spv_logic.specs.declared.operators.Head.TheVariants as head
use Rattle.spv_logic.specs.Terms.{Term, term}
use Rattle.spv_logic.specs.Formulas.{equation}
use Rattle.spv_term.specs.declared.nodes.Node.{Node}
use Rattle.spv_term.specs.Arena.{Arena, IsArena, tree, trees}
use Rattle.std.proofs.lemmas.Option.{slice_get_within}
use Rattle.spv_term.proofs.ArenaLemmas.{tree-node}
use Rattle.spv_term.proofs.ListLemmas.{slice_get-append_left}
use Rattle.spv_atoms.specs.declared.proofs.Relation.TheVariants.{AtMost, Equal}
use Rattle.spv_atoms.specs.declared.proofs.Stated.TheVariants.{Is, Same}
use Rattle.spv_atoms.specs.declared.proofs.Step.{Step}
use Rattle.spv_atoms.specs.declared.proofs.Step.TheVariants as step
use Rattle.spv_proof_rules.specs.Evaluation.{evaluates}
use Rattle.spv_proof_rules.specs.Effects as spec
use Rattle.spv_proof_rules.specs.Effects.{Adds, adds_if, effect, evaluated, numbered, stated}
use Rattle.spv_derivations.specs.declared.derivation.entries.Part.TheVariants as part
use Rattle.spv_derivations.specs.declared.derivation.entries.Entry.{Entry}
use Rattle.spv_derivations.specs.declared.derivation.entries.Entry.TheVariants.{Told, Derived}
use Rattle.spv_derivations.specs.derivation.Derivation.{Follow, IsDerivation, MayFollow, added_by, any_sequent, asked, fact_at, fact_of, facts, facts_from}
use Rattle.spv_derivations.specs.derivation.Sides.{Pair, two_of, sides_under, node_sides, step_sides, entry_sides, sides_of_entry, sides_at}
use Rattle.spv_derivations.proofs.derivation.Growth.{numbered-push, facts_from-keeps}

pair-is : (s t p q : TermId) → ◌≡◌ {A = Option Pair} (Some (s, t)) (Some (p, q)) → (s ≡ p) × (t ≡ q)
pair-is s t p q e =
    let same : ◌≡◌ {A = Pair} (s, t) (p, q) = cc in
    (ap (λ (r : Pair). r.0) same, ap (λ (r : Pair). r.1) same)

adds_if-is : (b : Bool) (f t : Term) → adds_if b f ≡ Adds t → f ≡ t
adds_if-is true f t e = cc
adds_if-is false f t e = absurd (cc)

module _ (a : Arena) where
  equal_sides : (s t p q : TermId) → ◌≡◌ {A = Option Pair} (Some (s, t)) (Some (p, q)) → equation (tree a s) (tree a t) ≡ equation (tree a p) (tree a q)
  equal_sides s t p q e =
      let both = pair-is s t p q e in
      let one = both.0 in
      let two = both.1 in
      λ i. equation (tree a (one i)) (tree a (two i))

  -- ---- steps

  evaluated-is : (tr : Term → Bool) (b : Bool) (f : Term) (cited : Option (List Term)) (t : Term) → evaluated tr (if b then Some f else None) cited ≡ Adds t → f ≡ t
  evaluated-is tr true f None t e = absurd (cc)
  evaluated-is tr true f (Some facts) t e = adds_if-is (evaluates tr facts f) f t e
  evaluated-is tr false f cited t e = absurd (cc)

  step-states : (before : List Term) (x : Step) (s t : TermId) (f : Term) → step_sides x ≡ Some (s, t) → effect (asked a any_sequent) before x ≡ Adds f → f ≡ equation (tree a s) (tree a t)
  step-states before (step.Refl u) s t f e h = let same : equation (tree a u) (tree a u) ≡ f = cc in sym same ∙ equal_sides u u s t e
  step-states before (step.Cong u v ks) s t f e h = sym (adds_if-is (spec.congruent before (tree a u) (tree a v) ks) (equation (tree a u) (tree a v)) f h) ∙ equal_sides u v s t e
  step-states before (step.Linear (Equal u v) first second) s t f e h = sym (adds_if-is _ (equation (tree a u) (tree a v)) f h) ∙ equal_sides u v s t e
  step-states before (step.Linear (AtMost u v) first second) s t f e h = absurd (cc)
  step-states before (step.Eval (Same u v) ks) s t f e h = sym (evaluated-is _ _ (equation (tree a u) (tree a v)) (spec.cited before ks) f h) ∙ equal_sides u v s t e
  step-states before (step.Eval (Is u b) ks) s t f e h = absurd (cc)
  step-states before (step.Given k) s t f e h = absurd (cc)
  step-states before (step.Symm i) s t f e h = absurd (cc)
  step-states before (step.Trans i j) s t f e h = absurd (cc)
  step-states before (step.Schema kind ts field) s t f e h = absurd (cc)
  step-states before (step.Rule r ts) s t f e h = absurd (cc)
  step-states before (step.Contra i j) s t f e h = absurd (cc)

  -- ---- terms

  two-trees : (ts : List TermId) (s t : TermId) → two_of ts ≡ Some (s, t) → term head.Eq (trees a ts) ≡ equation (tree a s) (tree a t)
  two-trees [] s t e = absurd (cc)
  two-trees (u ∷ []) s t e = absurd (cc)
  two-trees (u ∷ v ∷ []) s t e = equal_sides u v s t e
  two-trees (u ∷ v ∷ w ∷ ts) s t e = absurd (cc)

  under-trees : (h : Head) (ts : List TermId) (s t : TermId) → sides_under h ts ≡ Some (s, t) → term h (trees a ts) ≡ equation (tree a s) (tree a t)
  under-trees head.Eq ts s t e = two-trees ts s t e
  under-trees _ ts s t e = absurd (cc)

  module _ (ok : IsArena a) where
    node-states : (u s t : TermId) → node_sides (slice_get a.nodes u.0) ≡ Some (s, t) → tree a u ≡ equation (tree a s) (tree a t)
    node-states u s t e = by_option (slice_get a.nodes u.0) refl e
      where
        by_option : (o : Option Node) → slice_get a.nodes u.0 ≡ o → node_sides o ≡ Some (s, t) → tree a u ≡ equation (tree a s) (tree a t)
        by_option None at h = absurd (cc)
        by_option (Some n) at h = tree-node a ok u n at ∙ under-trees n.head n.args s t h

    -- ---- entries

    entry-states : (before : List Term) (e : Entry) (s t : TermId) → MayFollow a before e → entry_sides a e ≡ Some (s, t) → fact_of a before e ≡ equation (tree a s) (tree a t)
    entry-states before (Told u part.True why) s t m h = node-states u s t h
    entry-states before (Told u part.False why) s t m h = absurd (cc)
    entry-states before (Told u part.Below why) s t m h = absurd (cc)
    entry-states before (Told u part.Above why) s t m h = absurd (cc)
    entry-states before (Derived x) s t m h = ap added_by (m.1.adds any_sequent) ∙ step-states before x s t m.0 h (m.1.adds any_sequent)

    -- the entry of a place adds its equation behind the facts before it
    entries-state : (before : List Term) (es : List Entry) (k : ℕ) (e : Entry) (s t : TermId) → Follow a before es → slice_get es k ≡ Some e → entry_sides a e ≡ Some (s, t)
        → numbered (facts_from a before es) (length before + k + 1) ≡ Some (equation (tree a s) (tree a t))
    entries-state before [] k e s t f at h = absurd (cc)
    entries-state before (x ∷ es) zero e s t f at h =
        let same : x ≡ e = cc in
        let fact : fact_of a before x ≡ equation (tree a s) (tree a t) = entry-states before x s t f.0 (ap (entry_sides a) same ∙ h) in
        facts_from-keeps a (before ++ fact_of a before x ∷ []) es (length before + 0 + 1) (equation (tree a s) (tree a t))
        (numbered-push before (fact_of a before x) (length before + 0 + 1) (omega arith) ∙ ap Some fact)
    entries-state before (x ∷ es) (suc k) e s t f at h =
        let rest = entries-state (before ++ fact_of a before x ∷ []) es k e s t f.1 at h in
        let place : length before + suc k + 1 ≡ length (before ++ fact_of a before x ∷ []) + k + 1 = omega (arith, length_push before (fact_of a before x)) in
        ap (numbered (facts_from a before (x ∷ es))) place ∙ rest

    pub sides-state : (es : List Entry) (n : ℕ) (s t : TermId) → IsDerivation a es → sides_at a es n ≡ Some (s, t) → fact_at a es n ≡ Some (equation (tree a s) (tree a t))
    sides-state es zero s t f h = absurd (cc)
    sides-state es (suc k) s t f h = by_option (slice_get es k) refl h
      where
        by_option : (o : Option Entry) → slice_get es k ≡ o → sides_of_entry a o ≡ Some (s, t) → fact_at a es (suc k) ≡ Some (equation (tree a s) (tree a t))
        by_option None at e = absurd (cc)
        by_option (Some x) at e =
            let place : suc k ≡ length {A = Term} [] + k + 1 = omega arith in
            ap (fact_at a es) place ∙ entries-state [] es k x s t f.follow at e

  -- it stays where others come behind
  pub sides_at-more : (es more : List Entry) (n : ℕ) (p : Pair) → sides_at a es n ≡ Some p → sides_at a (es ++ more) n ≡ Some p
  sides_at-more es more zero p h = absurd (cc)
  sides_at-more es more (suc k) p h = by_option (slice_get es k) refl h
    where
      by_option : (o : Option Entry) → slice_get es k ≡ o → sides_of_entry a o ≡ Some p → sides_at a (es ++ more) (suc k) ≡ Some p
      by_option None at e = absurd (cc)
      by_option (Some x) at e = ap (sides_of_entry a) (slice_get-append_left es more k (slice_get_within es k x at) ∙ at) ∙ e
