-- What a table shows in which each hypothesis is true and the goal is false.
use Rattle.std.proofs.Common.{◌≡◌, ℕ, zero, suc, ◌<◌, Bool, List, [], ◌∷◌, map, length, refl, sym, ap, ◌∙◌, subst, Option, Some, None, Ok}
use Rattle.std.specs.Prelude.{slice_get}
use Rattle.std.specs.Option.{option_map}
use Rattle.std.proofs.lemmas.Option.{same_Some, slice_get-map}
use Rattle.spv_whole.specs.Fraction.{Fraction}
use Rattle.spv_logic.specs.declared.conditions.TermId.{TermId}
use Rattle.spv_logic.specs.Terms.{Term}
use Rattle.spv_term.specs.declared.nodes.Condition.{Condition}
use Rattle.spv_term.specs.Arena.{Arena, tree}
use Rattle.spv_table.specs.declared.table.Table.{Table}
use Rattle.spv_table.specs.Kept.{PairsIn, listed_over}
use Rattle.spv_table.specs.Tables.{IsTable}
use Rattle.spv_table.specs.Values.{holds, listed_in}
use Rattle.spv_verdicts.specs.model_check.Surviving.{ShowsFalse}
use Rattle.spv_verdicts.specs.answers.Views.{CasesIn, branch_in, case_in, pairs_in}
use Rattle.spv_verdicts.specs.declared.candidate_models.trying.Tried.TheVariants.{Shown}
use Rattle.spv_verdicts.specs.declared.candidate_models.agreeing.Agreement.{Agreement}
use Rattle.spv_verdicts.specs.candidate_models.Trying.{IsAgreement, IsTried, ListsSubterms}

terms_of : (a : Arena) (branch : List (TermId × Bool)) → map (λ (p : Term × Bool). p.0) (branch_in a branch) ≡ map (λ (p : TermId × Bool). tree a p.0) branch
terms_of a [] = refl
terms_of a (p ∷ branch) = ap (λ ts. tree a p.0 ∷ ts) (terms_of a branch)

truths_of : (a : Arena) (listed : Term → Fraction) (branch : List (TermId × Bool)) → ((i : ℕ) (p : TermId × Bool) → slice_get branch i ≡ Some p → holds listed (tree a p.0) ≡ Ok p.1)
    → (i : ℕ) (p : Term × Bool) → slice_get (branch_in a branch) i ≡ Some p → holds listed p.0 ≡ Ok p.1
truths_of a listed branch h i p e = by_option (slice_get branch i) refl (sym (slice_get-map (case_in a) branch i) ∙ e)
  where
    by_option : (o : Option (TermId × Bool)) → slice_get branch i ≡ o → option_map (case_in a) o ≡ Some p → holds listed p.0 ≡ Ok p.1
    by_option None f g = absurd (cc)
    by_option (Some id) f g = subst (λ (q : Term × Bool). holds listed q.0 ≡ Ok q.1) (same_Some (case_in a id) p g) (h i id f)

cases_in : (a : Arena) (branch : List (TermId × Bool)) → ((i : ℕ) (p : TermId × Bool) → slice_get branch i ≡ Some p → p.0.0 < length a.nodes) → CasesIn a branch
cases_in a [] h = tt
cases_in a (p ∷ branch) h = (h zero p refl, cases_in a branch (λ i q e. h (suc i) q e))

pub is_shown : (a : Arena) (c : Condition) (table : Table) (branch : List (TermId × Bool)) → PairsIn a table.values → ListsSubterms a c table.values → ShowsFalse a c (listed_over a table.values) branch → IsTable a.shapes a.decls (pairs_in a table.values)
    → IsTried a c table (Shown branch)
is_shown a c table branch within lists s whole = (
  record {
    falsifies = record { lists = lists; is_table = whole; given_true = s.shown.given_true; goal_false = s.shown.goal_false };
    atoms = terms_of a branch ∙ s.branch_is.atoms;
    truths = truths_of a (listed_over a table.values) branch s.branch_is.truths;
  },
  cases_in a branch s.branch_is.in_range,
  within,
)

pub agreed_as : (a : Arena) (values : List (TermId × Fraction)) (x y : Agreement) → x ≡ y → IsAgreement a values x → IsAgreement a values y
agreed_as a values x y e h = subst (IsAgreement a values) e h
