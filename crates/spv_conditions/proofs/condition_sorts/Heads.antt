-- Fresh variables, and what a statement may change.
use Rattle.std.proofs.Common.{◌≡◌, Bool, true, false, cond, ◌&&◌, List, [], ◌∷◌, ◌++◌, map, filter, Option, Some, None, refl, ap, ◌∙◌}
use Rattle.std.specs.List.{list_all}
use Rattle.std.specs.Option.{unwrap_or}
use Rattle.std.proofs.lemmas.Bool.{false≢true}
use Rattle.spv_logic.proofs.list.Tests.{left_true, right_true}
use Rattle.spv_logic.specs.declared.names.names.Symbol.{Symbol}
use Rattle.spv_logic.specs.declared.types.TypeId.{TypeId}
use Rattle.spv_logic.specs.declared.operators.Head.{Head}
use Rattle.spv_logic.specs.declared.operators.Head.TheVariants as head
use Rattle.spv_logic.specs.Terms.{Term}
use Rattle.spv_logic.specs.Sorts.{variable_sort}
use Rattle.spv_logic.specs.Substitution.{is_variable}
use Rattle.spv_program.specs.declared.types.Item.TheVariants.{Variable, Class}
use Rattle.spv_program.specs.Types.{sort_of}
use Rattle.spv_program.specs.Programs.{Routine, Program}
use Rattle.spv_program.specs.Scopes.{own_names_in}
use Rattle.spv_program.specs.Statements.{Statement}
use Rattle.spv_program.specs.Laws.{HasSort}
use Rattle.spv_program.specs.Terms.{alone}
use Rattle.spv_program.specs.Supplies.{Supply, fresh_like}
use Rattle.spv_program.specs.Calls.{replacing}
use Rattle.spv_program.specs.Uses.{Root, Own, Shared, same_root}
use Rattle.spv_program.specs.Changes.{changed_roots, changed_heads, all_types}
use Rattle.spv_meaning.specs.Before.{renamed, standing_for}
use Rattle.spv_conditions.proofs.condition_sorts.Substituted.{AllKeep, pairs_keep}
use Rattle.std.specs.List.{list_any}

-- a variable alone has its sort
pub sort_alone : (p : Program) (h : Head) → is_variable h ≡ true → HasSort p (alone h) (variable_sort h)
sort_alone p (head.Var x s n) v = refl
sort_alone p (head.ClassVar t n) v = refl
sort_alone p (head.Start x s) v = refl
sort_alone p _ v = absurd (false≢true v)

-- so has a fresh one of its name
pub sort_fresh : (p : Program) (h : Head) (n : Supply) → is_variable h ≡ true → HasSort p (alone (fresh_like h n).head) (variable_sort h)
sort_fresh p (head.Var x s m) n v = refl
sort_fresh p (head.ClassVar t m) n v = refl
sort_fresh p (head.Start x s) n v = refl
sort_fresh p _ n v = absurd (false≢true v)

pub renamed_keep : (p : Program) (hs : List Head) (n : Supply) → list_all is_variable hs ≡ true → AllKeep p (renamed hs n).pairs
renamed_keep p [] n all = tt
renamed_keep p (h ∷ hs) n all = (sort_fresh p h n (left_true _ _ all), renamed_keep p hs (fresh_like h n).supply (right_true (is_variable h) _ all))

-- what stands for a variable has its sort
pub standing_sort : (p : Program) (pairs : List (Head × Term)) (h : Head) → AllKeep p pairs → is_variable h ≡ true → HasSort p (standing_for pairs h) (variable_sort h)
standing_sort p pairs h keep v = by_there (replacing pairs h) refl
  where
    by_there : (o : Option Term) → replacing pairs h ≡ o → HasSort p (unwrap_or o (alone h)) (variable_sort h)
    by_there None e = sort_alone p h v
    by_there (Some u) e = pairs_keep p pairs keep h u e

-- ---- what may change

heads_kept : (test : Root × Head → Bool) (roots : List (Root × Head)) → list_all (λ r. is_variable r.1) roots ≡ true → list_all is_variable (map (λ r. r.1) (filter test roots)) ≡ true
heads_kept test [] all = refl
heads_kept test (r ∷ roots) all = by_test (test r) (heads_kept test roots (right_true (is_variable r.1) _ all))
  where
    by_test : (b : Bool) → list_all is_variable (map (λ r. r.1) (filter test roots)) ≡ true → list_all is_variable (map (λ r. r.1) (cond b (r ∷ filter test roots) (filter test roots))) ≡ true
    by_test true h = ap (λ b. b && list_all is_variable (map (λ r. r.1) (filter test roots))) (left_true _ _ all) ∙ h
    by_test false h = h

all_both : (xs ys : List (Root × Head)) → list_all (λ r. is_variable r.1) xs ≡ true → list_all (λ r. is_variable r.1) ys ≡ true → list_all (λ r. is_variable r.1) (xs ++ ys) ≡ true
all_both [] ys h k = k
all_both (x ∷ xs) ys h k = ap (λ b. b && list_all (λ (r : Root × Head). is_variable r.1) (xs ++ ys)) (left_true _ _ h) ∙ all_both xs ys (right_true (is_variable x.1) _ h) k

named : (p : Program) (root : Symbol → Root) (names : List (Symbol × TypeId)) → list_all (λ (r : Root × Head). is_variable r.1) (map (λ n. (root n.0, head.Var n.0 (sort_of p.forms n.1) 0)) names) ≡ true
named p root [] = refl
named p root (n ∷ names) = named p root names

classed : (ts : List TypeId) → list_all (λ (r : Root × Head). is_variable r.1) (map (λ t. (Shared (Class t), head.ClassVar t 0)) ts) ≡ true
classed [] = refl
classed (t ∷ ts) = classed ts

pub changed_variables : (p : Program) (here : Option Routine) (s : Statement) → list_all is_variable (changed_heads p here s) ≡ true
changed_variables p here s =
    let own : List (Root × Head) = map (λ n. (Own n.0, head.Var n.0 (sort_of p.forms n.1) 0)) (own_names_in here) in
    let variables : List (Root × Head) = map (λ n. (Shared (Variable n.0), head.Var n.0 (sort_of p.forms n.1) 0)) p.variables in
    let classes : List (Root × Head) = map (λ t. (Shared (Class t), head.ClassVar t 0)) (all_types p) in
    heads_kept (λ r. list_any (same_root r.0) (changed_roots p here s)) (own ++ (variables ++ classes))
    (all_both own (variables ++ classes) (named p Own (own_names_in here)) (all_both variables classes (named p (λ x. Shared (Variable x)) p.variables) (classed (all_types p))))
