-- What the table of a full path shows.
use Rattle.std.proofs.Common.{◌≡◌, ℕ, zero, suc, ◌<◌, ◌≤◌, Bool, true, false, List, [], ◌∷◌, ◌++◌, length, refl, sym, ap, ◌∙◌, subst, Some, arith}
use Rattle.std.specs.Prelude.{slice_get}
use Rattle.std.proofs.lemmas.Option.{slice_get-get_or}
use Rattle.std.proofs.lemmas.List.{length-map}
use Rattle.spv_whole.specs.Fraction.{Fraction}
use Rattle.spv_logic.specs.declared.conditions.TermId.{TermId}
use Rattle.spv_term.specs.declared.nodes.Condition.{Condition}
use Rattle.spv_term.specs.Arena.{Arena, AllBelow, tree}
use Rattle.spv_term.proofs.TreeLemmas.{AllBelow-at}
use Rattle.spv_table.specs.declared.operations.WideValue.{WideValue}
use Rattle.spv_table.specs.declared.table.Table.{Table}
use Rattle.spv_table.specs.Kept.{PairsIn, listed_over}
use Rattle.spv_models.specs.leaf_models.Subterms.{is_listed}
use Rattle.spv_verdicts.specs.declared.answers.verdicts.Instance.{Instance}
use Rattle.spv_verdicts.specs.declared.answers.verdicts.Round.{Round}
use Rattle.spv_verdicts.specs.declared.answers.verdicts.Verdict.TheVariants as verdict
use Rattle.spv_verdicts.specs.declared.answers.verdicts.Limit.TheVariants as limit
use Rattle.spv_verdicts.specs.declared.answers.verdicts.Wide.TheVariants as wide
use Rattle.spv_verdicts.specs.answers.Views.{CasesIn}
use Rattle.spv_share.specs.declared.both.Both.{Both}
use Rattle.spv_branch_theory.specs.model_construction.Numbers.{number_of, with_value_if, id_at, flag_at, place_at, listed_to, IsFullTable}
use Rattle.spv_verdicts.specs.model_check.Surviving.{IsNotShown, ShowsFalse, IsFaultFor}
use Rattle.spv_verdicts.specs.declared.model_check.faults.SurvivingFault.TheVariants.{Wide}
use Rattle.spv_branch_theory.specs.saturation.States.{AreListed, IsTableOf}
use Rattle.spv_branch_theory.specs.saturation.Laws.{NeverNotShown, ShownIsUnproved, WideIsReached}
use Rattle.spv_search.specs.Finding.{HasFullState, IsFoundAlways}
use Rattle.spv_search.proofs.NoRules.{given_up, unproved}

-- ---- terms that are there

pairs_push : (a : Arena) (values : List (TermId × Fraction)) (t : TermId) (x : Fraction) → PairsIn a values → t.0 < length a.nodes → PairsIn a (values ++ (t, x) ∷ [])
pairs_push a [] t x h k = (k, tt)
pairs_push a (p ∷ values) t x h k = (h.0, pairs_push a values t x h.1 k)

pub pairs_if : (a : Arena) (b : Bool) (values : List (TermId × Fraction)) (t : TermId) (x : Fraction) → PairsIn a values → t.0 < length a.nodes → PairsIn a (with_value_if b values t x)
pairs_if a true values t x h k = pairs_push a values t x h k
pairs_if a false values t x h k = h

listed_in : (a : Arena) (b : Both) (ids : List TermId) (flags : List Bool) (firsts : List ℕ) (n : ℕ) → AllBelow (length a.nodes) ids → n ≤ length ids → PairsIn a (listed_to a b ids flags firsts n)
listed_in a b ids flags firsts zero h l = tt
listed_in a b ids flags firsts (suc n) h l =
    pairs_if a (flag_at flags n) (listed_to a b ids flags firsts n) (id_at ids n) (number_of a b (id_at ids n) (place_at firsts n)) (listed_in a b ids flags firsts n h (omega (arith, l)))
    (AllBelow-at (length a.nodes) ids n (id_at ids n) h (slice_get-get_or ids n (record { 0 = 0 }) (omega (arith, l))))

pub table_in : (a : Arena) (c : Condition) (b : Both) (ids : List TermId) (flags : List Bool) (values : List (TermId × Fraction)) → AreListed a c ids flags → IsFullTable a b ids flags values → PairsIn a values
table_in a c b ids flags values listed table = subst (PairsIn a) (sym table.values_are) (listed_in a b ids flags table.places (length ids) listed.in_range (omega arith))

pub flags_many : (a : Arena) (c : Condition) (ids : List TermId) (flags : List Bool) → AreListed a c ids flags → length flags ≡ length ids
flags_many a c ids flags listed = ap length listed.subterms.flags_are ∙ length-map ids (λ t. is_listed (tree a t))

cases_in : (a : Arena) (branch : List (TermId × Bool)) → ((i : ℕ) (p : TermId × Bool) → slice_get branch i ≡ Some p → p.0.0 < length a.nodes) → CasesIn a branch
cases_in a [] h = tt
cases_in a (p ∷ branch) h = (h zero p refl, cases_in a branch (λ i q e. h (suc i) q e))

-- ---- verdicts

module _ (a : Arena) (c : Condition) (b : Both) (ids : List TermId) (flags : List Bool) (table : Table) (listed : AreListed a c ids flags) (full : HasFullState a c b) (is : IsFullTable a b ids flags table.values) where
  table_of : IsTableOf a c b full.facts full.value table.values
  table_of = record { state = full.state; ids = ids; flags = flags; listed = listed; table = is }

  pub not_shown : NeverNotShown → IsNotShown a c (listed_over a table.values) → ⊥
  not_shown law h = law a c b full.facts full.value table.values table_of h

  pub found_unproved : ShownIsUnproved → (branch : List (TermId × Bool)) → ShowsFalse a c (listed_over a table.values) branch → (instances : List Instance) → instances ≡ []
      → IsFoundAlways a c (verdict.Unproved (record { branch = branch; table = table; instances = instances }))
  found_unproved law branch shows instances none = λ limits.
      unproved a c limits branch table (cases_in a branch shows.branch_is.in_range) (table_in a c b ids flags table.values listed is) (law a c b full.facts full.value table.values table_of branch shows) instances none

  pub found_wide : WideIsReached → (t : TermId) (w : WideValue) → IsFaultFor a c (listed_over a table.values) (Wide t w) → (rounds : List Round) → rounds ≡ []
      → IsFoundAlways a c (verdict.GaveUp rounds (limit.Number (wide.Value table t w.op w.left w.right)))
  found_wide law t w fault rounds none = λ limits.
      given_up a c limits (limit.Number (wide.Value table t w.op w.left w.right)) (table_in a c b ids flags table.values listed is, fault.0) (law a c b full.facts full.value table.values table_of t w fault) rounds none
