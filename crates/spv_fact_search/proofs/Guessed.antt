-- The table of a guess lists what it has to list.
use Rattle.std.proofs.Common.{◌≡◌, ℕ, suc, ◌+◌, ◌<◌, Bool, List, [], ◌++◌, map, take, length, sym, ap, ◌∙◌, subst, arith}
use Rattle.std.specs.declared.alloc.AllocError.{AllocError}
use Rattle.std.specs.Prelude.{Result, Ok, Err, IfOk}
use Rattle.std.proofs.lemmas.List.{length-map}
use Rattle.std.proofs.lemmas.Option.{slice_get-get_or}
use Rattle.spv_whole.specs.Fraction.{Fraction}
use Rattle.spv_logic.specs.declared.conditions.TermId.{TermId}
use Rattle.spv_term.specs.declared.nodes.Condition.{Condition}
use Rattle.spv_term.specs.Arena.{Arena, AllBelow, tree}
use Rattle.spv_term.proofs.TreeLemmas.{AllBelow-at}
use Rattle.spv_atoms.specs.Atoms.{only_if}
use Rattle.spv_atoms.specs.Order.{passing}
use Rattle.spv_proof_rules.specs.Stand.{question}
use Rattle.spv_table.specs.declared.table.Table.{Table}
use Rattle.spv_table.specs.Kept.{PairsIn}
use Rattle.spv_models.specs.leaf_models.Subterms.{is_listed}
use Rattle.spv_branch_theory.specs.model_construction.Numbers.{id_at, flag_at, with_value_if}
use Rattle.spv_verdicts.specs.Schemas.{used}
use Rattle.spv_search.specs.Finding.{IsTableFor, term_of}
use Rattle.spv_search.proofs.Consulted.{terms_first, none_first, all_first, flag_is, passing_next, pushed}
use Rattle.spv_search.proofs.Tables.{pairs_if}

-- the entries of the first terms
pub record HasEntries (a : Arena) (ids : List TermId) (n : ℕ) (values : List (TermId × Fraction)) : Type 0 where
  pub within : PairsIn a values
  pub lists : map (term_of a) values ≡ passing is_listed (map (tree a) (take n ids))

module _ (a : Arena) (ids : List TermId) (flags : List Bool) (are : flags ≡ map (λ t. is_listed (tree a t)) ids) where
  pub flags-many : length flags ≡ length ids
  flags-many = ap length are ∙ length-map ids (λ t. is_listed (tree a t))

  pub no-entries : (values : List (TermId × Fraction)) → values ≡ [] → HasEntries a ids 0 values
  no-entries values e = record {
    within = subst (PairsIn a) (sym e) tt;
    lists = ap (map (term_of a)) e ∙ ap (λ (ts : List TermId). passing is_listed (map (tree a) ts)) (sym (none_first ids));
  }

  pub next-entries : (n : ℕ) (old new : List (TermId × Fraction)) (x : Fraction) → AllBelow (length a.nodes) ids → n < length ids → HasEntries a ids n old → new ≡ with_value_if (flag_at flags n) old (id_at ids n) x → HasEntries a ids (n + 1) new
  next-entries n old new x in_range below before e = record {
    within = subst (PairsIn a) (sym e) (pairs_if a (flag_at flags n) old (id_at ids n) x before.within (AllBelow-at (length a.nodes) ids n (id_at ids n) in_range (slice_get-get_or ids n (record { 0 = 0 }) below)));
    lists =
        let next : suc n ≡ n + 1 = omega arith in
        ap (map (term_of a)) e
        ∙ (pushed a (flag_at flags n) old (id_at ids n) x
        ∙ (ap (λ ts. ts ++ only_if (flag_at flags n) (tree a (id_at ids n))) before.lists
        ∙ (ap (λ (d : Bool). passing is_listed (map (tree a) (take n ids)) ++ only_if d (tree a (id_at ids n))) (flag_is a ids flags are n below)
        ∙ (passing_next a ids n below ∙ ap (λ (k : ℕ). passing is_listed (map (tree a) (take k ids))) next))));
  }

  -- those of all of them
  pub all-within : (n : ℕ) (values entries : List (TermId × Fraction)) → entries ≡ values → HasEntries a ids n values → PairsIn a entries
  all-within n values entries e h = subst (PairsIn a) (sym e) h.within

  pub all-listed : (n : ℕ) (values entries : List (TermId × Fraction)) → entries ≡ values → n ≡ length ids → HasEntries a ids n values → map (term_of a) entries ≡ passing is_listed (map (tree a) ids)
  all-listed n values entries e whole h =
      ap (map (term_of a)) e ∙ (h.lists ∙ (ap (λ (k : ℕ). passing is_listed (map (tree a) (take k ids))) whole ∙ ap (λ (ts : List TermId). passing is_listed (map (tree a) ts)) (all_first ids)))

-- the table lists the subterms of a condition
pub table-for : (a : Arena) (c : Condition) (ids : List TermId) (table : Table) → map (tree a) ids ≡ used (question a c) → PairsIn a table.values → map (term_of a) table.values ≡ passing is_listed (map (tree a) ids) → IsTableFor a c table
table-for a c ids table are within lists = record { within = within; lists = terms_first a table.values ∙ (lists ∙ ap (passing is_listed) are) }

pub if-table-for : (a : Arena) (c : Condition) (ids : List TermId) → map (tree a) ids ≡ used (question a c) → (r : Result Table AllocError) → IfOk r (λ table. PairsIn a table.values) → IfOk r (λ table. map (term_of a) table.values ≡ passing is_listed (map (tree a) ids))
    → IfOk r (IsTableFor a c)
if-table-for a c ids are (Ok table) within lists = table-for a c ids table are within lists
if-table-for a c ids are (Err e) within lists = tt

pub all-in : (a : Arena) (ids slice : List TermId) → slice ≡ ids → AllBelow (length a.nodes) ids → AllBelow (length a.nodes) slice
all-in a ids slice e h = subst (AllBelow (length a.nodes)) (sym e) h
