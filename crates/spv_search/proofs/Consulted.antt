-- What a search does next with a path at rest.
use Rattle.std.proofs.Common.{◌≡◌, ℕ, zero, suc, ◌+◌, ◌<◌, ◌≤◌, Bool, true, false, List, [], ◌∷◌, ◌++◌, map, take, length, refl, sym, ap, ◌∙◌, subst, Option, Some, None, IfSome, arith}
use mathlib.Core.List.{map-append}
use Rattle.std.specs.declared.alloc.AllocError.{AllocError}
use Rattle.std.specs.Prelude.{Result, Ok, Err, IfOk}
use Rattle.std.proofs.lemmas.List.{append-nil, get_or-map, take_more}
use Rattle.spv_whole.specs.Fraction.{Fraction}
use Rattle.spv_logic.specs.declared.conditions.TermId.{TermId}
use Rattle.spv_logic.specs.Terms.{Term}
use Rattle.spv_term.specs.declared.nodes.Condition.{Condition}
use Rattle.spv_term.specs.Arena.{Arena, tree}
use Rattle.spv_atoms.specs.Atoms.{only_if}
use Rattle.spv_atoms.specs.Order.{passing}
use Rattle.spv_atoms.proofs.Members.{passing-append}
use Rattle.spv_proof_rules.specs.Stand.{question}
use Rattle.spv_table.specs.declared.table.Table.{Table}
use Rattle.spv_models.specs.leaf_models.Subterms.{is_listed, subterms}
use Rattle.spv_models.specs.leaf_models.Tables.{formulas_of}
use Rattle.spv_verdicts.specs.declared.answers.verdicts.Instance.{Instance}
use Rattle.spv_verdicts.specs.declared.answers.verdicts.Verdict.TheVariants as verdict
use Rattle.spv_verdicts.specs.answers.Views.{pairs_in}
use Rattle.spv_assignments.specs.declared.partial_assignment.facts.Known.{Known}
use Rattle.spv_share.specs.declared.both.Both.{Both}
use Rattle.spv_branch_theory.specs.model_construction.Numbers.{number_of, with_value_if, id_at, flag_at, place_at, listed_to, IsFullTable}
use Rattle.spv_branch_theory.specs.saturation.States.{AreListed}
use Rattle.spv_decisions.specs.heuristic.Guiding.{IsAdvice, MayBeSplit}
use Rattle.spv_decisions.specs.declared.heuristic.heuristic.Advice.{Advice}
use Rattle.spv_decisions.specs.declared.heuristic.heuristic.Advice.TheVariants as advice
use Rattle.spv_verdicts.specs.candidate_models.Trying.{IsTried, ListsSubterms}
use Rattle.spv_verdicts.specs.declared.candidate_models.trying.Tried.{Tried}
use Rattle.spv_verdicts.specs.declared.candidate_models.trying.Tried.TheVariants as tried
use Rattle.spv_trail.specs.declared.backtracking.path.BranchTrail.{BranchTrail}
use Rattle.spv_search.specs.declared.consulting.Next.{Next}
use Rattle.spv_search.specs.Finding.{IsFoundAlways, IsNext, IsTableFor, MayBeSplitIf, term_of}
use Rattle.spv_search.proofs.Tables.{table_in, flags_many}
use Rattle.spv_search.proofs.NoRules.{unproved}

-- ---- what the table of both sides lists

pub terms_first : (a : Arena) (values : List (TermId × Fraction)) → map (λ (p : Term × Fraction). p.0) (pairs_in a values) ≡ map (term_of a) values
terms_first a [] = refl
terms_first a (p ∷ values) = ap (λ ts. tree a p.0 ∷ ts) (terms_first a values)

pub pushed : (a : Arena) (b : Bool) (values : List (TermId × Fraction)) (t : TermId) (x : Fraction) → map (term_of a) (with_value_if b values t x) ≡ map (term_of a) values ++ only_if b (tree a t)
pushed a true values t x = map-append (term_of a) values ((t, x) ∷ [])
pushed a false values t x = sym (append-nil (map (term_of a) values))

pub none_first : (ids : List TermId) → take 0 ids ≡ []
none_first [] = refl
none_first (t ∷ ids) = refl

pub all_first : (ids : List TermId) → take (length ids) ids ≡ ids
all_first [] = refl
all_first (t ∷ ids) = ap (λ ts. t ∷ ts) (all_first ids)

module _ (a : Arena) (ids : List TermId) where
  pub flag_is : (flags : List Bool) → flags ≡ map (λ t. is_listed (tree a t)) ids → (n : ℕ) → n < length ids → flag_at flags n ≡ is_listed (tree a (id_at ids n))
  flag_is flags flags_are n within = ap (λ fs. flag_at fs n) flags_are ∙ get_or-map (λ t. is_listed (tree a t)) ids n (record { 0 = 0 }) false within

  -- one more of the terms, if a table lists it
  pub passing_next : (n : ℕ) → n < length ids → passing is_listed (map (tree a) (take n ids)) ++ only_if (is_listed (tree a (id_at ids n))) (tree a (id_at ids n)) ≡ passing is_listed (map (tree a) (take (suc n) ids))
  passing_next n within =
      ap (λ ts. passing is_listed (map (tree a) (take n ids)) ++ ts) (sym (append-nil (only_if (is_listed (tree a (id_at ids n))) (tree a (id_at ids n)))))
      ∙ (sym (passing-append is_listed (map (tree a) (take n ids)) (tree a (id_at ids n) ∷ []))
      ∙ ap (passing is_listed) (sym (map-append (tree a) (take n ids) (id_at ids n ∷ [])) ∙ ap (map (tree a)) (sym one_more)))
    where
      one_more : take (suc n) ids ≡ take n ids ++ id_at ids n ∷ []
      one_more = let next : suc n ≡ n + 1 = omega arith in ap (λ (k : ℕ). take k ids) next ∙ take_more ids n (record { 0 = 0 }) (omega (arith, within))

module _ (a : Arena) (b : Both) (ids : List TermId) (flags : List Bool) (flags_are : flags ≡ map (λ t. is_listed (tree a t)) ids) (places : List ℕ) where
  lists_to : (n : ℕ) → n ≤ length ids → map (term_of a) (listed_to a b ids flags places n) ≡ passing is_listed (map (tree a) (take n ids))
  lists_to zero within = ap (λ (ts : List TermId). passing is_listed (map (tree a) ts)) (sym (none_first ids))
  lists_to (suc n) within =
      pushed a (flag_at flags n) (listed_to a b ids flags places n) (id_at ids n) (number_of a b (id_at ids n) (place_at places n))
      ∙ (ap (λ ts. ts ++ only_if (flag_at flags n) (tree a (id_at ids n))) (lists_to n (omega (arith, within)))
      ∙ (ap (λ (d : Bool). passing is_listed (map (tree a) (take n ids)) ++ only_if d (tree a (id_at ids n))) (flag_is a ids flags flags_are n (omega (arith, within)))
      ∙ passing_next a ids n (omega (arith, within))))

pub is_table_for : (a : Arena) (c : Condition) (b : Both) (ids : List TermId) (flags : List Bool) (table : Table) → AreListed a c ids flags → IsFullTable a b ids flags table.values → IsTableFor a c table
is_table_for a c b ids flags table listed full = record {
  within = table_in a c b ids flags table.values listed full;
  lists =
      terms_first a table.values
      ∙ (ap (map (term_of a)) full.values_are
      ∙ (lists_to a b ids flags listed.subterms.flags_are full.places (length ids) (omega arith)
      ∙ (ap (λ (ts : List TermId). passing is_listed (map (tree a) ts)) (all_first ids) ∙ ap (passing is_listed) listed.subterms.trees)));
}

pub if_table : (a : Arena) (c : Condition) (b : Both) (ids : List TermId) (flags : List Bool) (r : Result Table AllocError) → AreListed a c ids flags → IfOk r (λ table. IsFullTable a b ids flags table.values) → IfOk r (IsTableFor a c)
if_table a c b ids flags (Ok table) listed full = is_table_for a c b ids flags table listed full
if_table a c b ids flags (Err e) listed full = tt

-- ---- atoms that are found

pub may_if : (a : Arena) (ids : List TermId) (p : BranchTrail) (values : List (Option Bool)) (ks : List Known) (o : Option TermId) → values ≡ p.lists.all.items → ks ≡ p.known.items → IfSome o (MayBeSplit a ids values ks) → MayBeSplitIf a ids p o
may_if a ids p values ks None e f h = tt
may_if a ids p values ks (Some t) e f h = subst (λ (ls : List Known). MayBeSplit a ids p.lists.all.items ls t) f (subst (λ (vs : List (Option Bool)). MayBeSplit a ids vs ks t) e h)

pub may_found : (a : Arena) (ids : List TermId) (p : BranchTrail) (o : Option TermId) (t : TermId) → o ≡ Some t → MayBeSplitIf a ids p o → MayBeSplit a ids p.lists.all.items p.known.items t
may_found a ids p o t e h = subst (MayBeSplitIf a ids p) e h

pub may_advised : (a : Arena) (ids : List TermId) (p : BranchTrail) (values : List (Option Bool)) (ks : List Known) (x : Advice) (t : TermId) → values ≡ p.lists.all.items → ks ≡ p.known.items → x ≡ advice.Split t → IsAdvice a ids values ks x
    → MayBeSplit a ids p.lists.all.items p.known.items t
may_advised a ids p values ks x t e f is h =
    subst (λ (ls : List Known). MayBeSplit a ids p.lists.all.items ls t) f (subst (λ (vs : List (Option Bool)). MayBeSplit a ids vs ks t) e (subst (IsAdvice a ids values ks) is h))

-- ---- a table that was tried

pub tried_as : (a : Arena) (c : Condition) (table : Table) (x y : Tried) → x ≡ y → IsTried a c table x → IsTried a c table y
tried_as a c table x y e h = subst (IsTried a c table) e h

pub found_by_trial : (a : Arena) (c : Condition) (table : Table) (branch : List (TermId × Bool)) → IsTried a c table (tried.Shown branch) → (instances : List Instance) → instances ≡ []
    → IsFoundAlways a c (verdict.Unproved (record { branch = branch; table = table; instances = instances }))
found_by_trial a c table branch h instances none = λ limits. unproved a c limits branch table h.1 h.2 h.0 instances none

-- ---- what comes next

pub next_as : (a : Arena) (c : Condition) (ids : List TermId) (p : BranchTrail) (x y : Next) → x ≡ y → IsNext a c ids p x → IsNext a c ids p y
next_as a c ids p x y e h = subst (IsNext a c ids p) e h
