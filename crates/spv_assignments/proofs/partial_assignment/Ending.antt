-- Where nothing follows, evaluations add nothing more.
use Rattle.std.proofs.Common.{◌≡◌, ℕ, suc, Bool, true, false, cond, ◌||◌, List, [], ◌∷◌, map, slice_get, refl, sym, ap, ◌∙◌, Option, Some, None}
use mathlib.Core.Path.{ap₂}
use Rattle.std.proofs.lemmas.Bool.{false≢true}
use Rattle.spv_logic.specs.declared.conditions.TermId.{TermId}
use Rattle.spv_logic.specs.Terms.{Term, term_eq}
use Rattle.spv_logic.specs.Formulas.{negation, equation, below}
use Rattle.spv_logic.proofs.Equality.{term_eq-true}
use Rattle.spv_term.specs.Arena.{Arena, tree}
use Rattle.spv_atoms.specs.Tables.{or_else}
use Rattle.spv_proof_rules.specs.Evaluation.{cites, clashes}
use Rattle.spv_tableau_rules.specs.constraints.Sayings.{literal}
use Rattle.spv_models.specs.split_trees.Shown.{supposing_false}
use Rattle.spv_assignments.specs.partial_assignment.Values.{told, value_by}
use Rattle.spv_assignments.specs.partial_assignment.Following.{is_truth}
use Rattle.spv_proof_rules.specs.Effects.{fact_before}
use Rattle.spv_assignments.specs.partial_assignment.Laws.{StillIsFinished, AllAreCited}
use Rattle.spv_assignments.proofs.partial_assignment.Clashing.{told_cites}

-- an id among these whose tree is a term
record Stands (a : Arena) (ids : List TermId) (t : Term) : Type 0 where
  place : ℕ
  id : TermId
  here : slice_get ids place ≡ Some id
  is : tree a id ≡ t

stands_at : (a : Arena) (ids : List TermId) (t : Term) → cites (map (tree a) ids) t ≡ true → Stands a ids t
stands_at a [] t e = absurd (false≢true e)
stands_at a (u ∷ ids) t e = by_case (term_eq t (tree a u)) refl (λ h. stands_at a ids t h)
  where
    by_case : (b : Bool) → term_eq t (tree a u) ≡ b → (cites (map (tree a) ids) t ≡ true → Stands a ids t) → Stands a (u ∷ ids) t
    by_case true h later = record { place = 0; id = u; here = refl; is = sym (term_eq-true t (tree a u) h) }
    by_case false h later =
        let found = later (sym (ap (λ b. b || cites (map (tree a) ids) t) h) ∙ e) in
        record { place = suc found.place; id = found.id; here = found.here; is = found.is }

-- an order with a value is a fact
order_cited : (facts : List Term) (s t : Term) → value_by facts (below s t) ≡ Some true → cites facts (below s t) ≡ true
order_cited facts s t e = told_cites facts (below s t) true (first (told facts (below s t)) e)
  where
    first : (o : Option Bool) → or_else o None ≡ Some true → o ≡ Some true
    first None h = h
    first (Some b) h = h

-- an equation that is no fact is false where it is apart
not_true : (facts : List Term) (e : Term) (o : Option Bool) → (cites facts e ≡ true → ⊥) → o ≡ Some false → or_else (told facts e) o ≡ Some false
not_true facts e o apart is = by_case (cites facts e) refl (cites facts (negation e)) refl
  where
    by_case : (b : Bool) → cites facts e ≡ b → (c : Bool) → cites facts (negation e) ≡ c → or_else (cond (cites facts e) (Some true) (cond (cites facts (negation e)) (Some false) None)) o ≡ Some false
    by_case true h c k = absurd (apart h)
    by_case false h true k = ap₂ (λ x y. or_else (cond x (Some true) (cond y (Some false) None)) o) h k
    by_case false h false k = ap₂ (λ x y. or_else (cond x (Some true) (cond y (Some false) None)) o) h k ∙ is

or_true : (b : Bool) → (b || true) ≡ true
or_true true = refl
or_true false = refl

pub still_finished : StillIsFinished
still_finished a c facts ids are still uncrossed fs have = record {
  facts = have;
  negations = λ t. refl;
  lower = λ s t e.
      let h = order_cited facts s t e in
      not_true facts (equation s t) _ (λ k. uncrossed.lower s t k h) (ap (λ b. cond (b || cites facts (below t s)) (Some false) None) h);
  upper = λ s t e.
      let h = order_cited facts t s e in
      not_true facts (equation s t) _ (λ k. uncrossed.upper s t k h) (ap (λ b. cond (cites facts (below s t) || b) (Some false) None) h ∙ ap (λ b. cond b (Some false) None) (or_true (cites facts (below s t))));
  agree = still.agree;
  nothing_follows = λ t b among e u.
      let found = stands_at a ids t (ap (λ ts. cites ts t) are ∙ among) in
      ap (λ x. clashes (is_truth a) (supposing_false (value_by facts) (literal b x)) u) (sym found.is)
      ∙ (still.still found.place found.id found.here).quiet (ap (value_by facts) found.is ∙ e) b u;
}

-- ---- numbers

pub all_cited : AllAreCited
all_cited a facts [] h = refl
all_cited a facts (k ∷ known) h = ap₂ fact_before h.0 (all_cited a facts known h.1)
