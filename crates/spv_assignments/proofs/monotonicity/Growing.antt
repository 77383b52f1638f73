-- Facts with a further one.
use Rattle.std.proofs.Common.{◌≡◌, true, false, List, sym, ap, ◌∙◌, None, inl, inr, ◌⊎◌}
use Rattle.std.proofs.lemmas.Bool.{false≢true}
use Rattle.spv_logic.specs.Terms.{Term, term_eq}
use Rattle.spv_logic.specs.Formulas.{negation, equation, below}
use Rattle.spv_logic.proofs.Equality.{term_eq-refl}
use Rattle.spv_term.specs.Arena.{Arena}
use Rattle.spv_atoms.specs.Tables.{numeral_relation}
use Rattle.spv_atoms.specs.Atoms.{is_number}
use Rattle.spv_proof_rules.specs.Sums.{negated}
use Rattle.spv_proof_rules.specs.Evaluation.{sides, cites, bare}
use Rattle.spv_assignments.specs.partial_assignment.Values.{IsIn, IsCase}
use Rattle.spv_assignments.proofs.partial_assignment.Told.{not_itself}
use Rattle.spv_assignments.specs.monotonicity.Laws.{LiteralsGrow, UncrossedGrow, OverGrows}
use Rattle.spv_assignments.proofs.monotonicity.Citing.{cited_last}

-- a term is among facts, and is not
both_ways : (facts : List Term) (t : Term) → cites facts t ≡ true → cites facts t ≡ false → ⊥
both_ways facts t e h = false≢true (sym h ∙ e)

pub literals_grow : LiteralsGrow
literals_grow facts are f core denied denies = record {
  bare_terms = λ t e. bare_one t (cited_last facts f t e);
  agree = λ t e h. agree_one t (cited_last facts f t e) (cited_last facts f (negation t) h);
}
  where
    bare_one : (t : Term) → (cites facts t ≡ true) ⊎ (t ≡ f) → negated (bare t) ≡ None
    bare_one t (inl e) = are.bare_terms t e
    bare_one t (inr is) = ap (λ x. negated (bare x)) is ∙ core

    agree_one : (t : Term) → (cites facts t ≡ true) ⊎ (t ≡ f) → (cites facts (negation t) ≡ true) ⊎ (negation t ≡ f) → ⊥
    agree_one t (inl e) (inl h) = are.agree t e h
    agree_one t (inl e) (inr is) = both_ways facts t e (denies t (sym is))
    agree_one t (inr is) (inl h) = both_ways facts (negation t) h (ap (λ x. cites facts (negation x)) is ∙ denied)
    agree_one t (inr is) (inr also) = false≢true (sym (not_itself t) ∙ (ap (λ x. term_eq x t) (also ∙ sym is) ∙ term_eq-refl t))

-- an equation is no order
no_order : (s t x y : Term) → equation s t ≡ below x y → ⊥
no_order s t x y e = unlike (ap sides e)
  where
    unlike : sides (equation s t) ≡ sides (below x y) → ⊥
    unlike h = cc

pub uncrossed_grow : UncrossedGrow
uncrossed_grow facts uncrossed f no_orders no_equations = record {
  lower = λ s t e h. lower_one s t (cited_last facts f (equation s t) e) (cited_last facts f (below s t) h);
  upper = λ s t e h. upper_one s t (cited_last facts f (equation s t) e) (cited_last facts f (below t s) h);
}
  where
    lower_one : (s t : Term) → (cites facts (equation s t) ≡ true) ⊎ (equation s t ≡ f) → (cites facts (below s t) ≡ true) ⊎ (below s t ≡ f) → ⊥
    lower_one s t (inl e) (inl h) = uncrossed.lower s t e h
    lower_one s t (inl e) (inr is) = both_ways facts (equation s t) e (no_equations s t (sym is)).0
    lower_one s t (inr is) (inl h) = both_ways facts (below s t) h (no_orders s t (sym is)).0
    lower_one s t (inr is) (inr also) = no_order s t s t (is ∙ sym also)

    upper_one : (s t : Term) → (cites facts (equation s t) ≡ true) ⊎ (equation s t ≡ f) → (cites facts (below t s) ≡ true) ⊎ (below t s ≡ f) → ⊥
    upper_one s t (inl e) (inl h) = uncrossed.upper s t e h
    upper_one s t (inl e) (inr is) = both_ways facts (equation s t) e (no_equations t s (sym is)).1
    upper_one s t (inr is) (inl h) = both_ways facts (below t s) h (no_orders s t (sym is)).1
    upper_one s t (inr is) (inr also) = no_order s t t s (is ∙ sym also)

in_same : (a : Arena) (t u : Term) → t ≡ u → IsIn a (bare u) → IsIn a (bare t)
in_same a t u is h = record { id = h.id; in_range = h.in_range; is = h.is ∙ sym (ap bare is) }

case_same : (t u : Term) → t ≡ u → IsCase u → IsCase t
case_same t u is h = record { left = h.left; right = h.right; is = is ∙ h.is; holds = λ e. h.holds (sym (ap numeral_relation is) ∙ e) }

pub over_grows : OverGrows
over_grows a facts over f there numbers = record {
  there = λ t e. there_one t (cited_last facts f t e);
  numbers = λ s t e. numbers_one s t (cited_last facts f (below s t) e);
}
  where
    there_one : (t : Term) → (cites facts t ≡ true) ⊎ (t ≡ f) → IsIn a (bare t) ⊎ IsCase t
    there_one t (inl e) = over.there t e
    there_one t (inr is) = same_there there
      where
        same_there : IsIn a (bare f) ⊎ IsCase f → IsIn a (bare t) ⊎ IsCase t
        same_there (inl h) = inl (in_same a t f is h)
        same_there (inr h) = inr (case_same t f is h)

    numbers_one : (s t : Term) → (cites facts (below s t) ≡ true) ⊎ (below s t ≡ f) → (is_number a.shapes a.decls s ≡ true) × (is_number a.shapes a.decls t ≡ true)
    numbers_one s t (inl e) = over.numbers s t e
    numbers_one s t (inr is) = numbers s t (sym is)
