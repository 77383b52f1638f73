-- What a statement writes is among what it may change.
use Rattle.std.proofs.Common.{◌≡◌, ◌+◌, ℕ, zero, suc, Bool, true, false, cond, ◌||◌, List, [], ◌∷◌, ◌++◌, map, filter, length, refl, sym, ap, subst, ◌∙◌, nat_eq, nat_lt, Option, Some, None, arith}
use Rattle.std.specs.Prelude.{is_some}
use Rattle.std.specs.List.{list_any}
use Rattle.std.proofs.lemmas.Bool.{false≢true, eqb-true}
use Rattle.std.proofs.lemmas.Bool.Decides.{nat_tests}
use Rattle.spv_logic.proofs.list.Tests.{both_false}
use Rattle.spv_logic.specs.declared.names.names.Symbol.{Symbol}
use Rattle.spv_logic.specs.declared.types.TypeId.{TypeId}
use Rattle.spv_logic.specs.declared.operators.Head.{Head}
use Rattle.spv_logic.specs.declared.operators.Head.TheVariants as head
use Rattle.spv_logic.specs.Terms.{head_eq}
use Rattle.spv_logic.proofs.Equality.{head_eq-refl}
use Rattle.spv_program.specs.declared.types.Item.TheVariants.{Variable, Class}
use Rattle.spv_program.specs.declared.types.TypeForm.{TypeForm}
use Rattle.spv_program.specs.Lists.{same_name, found, first_of}
use Rattle.spv_program.specs.Types.{same_type, sort_of}
use Rattle.spv_program.specs.Programs.{Routine, Program}
use Rattle.spv_program.specs.Scopes.{own_names_in}
use Rattle.spv_program.specs.Uses.{Root, Own, Shared}
use Rattle.spv_program.specs.Changes.{types_once, types_from, types_of_names, all_types, all_roots}
use Rattle.spv_program.specs.Typing.{well_typed}
use Rattle.spv_program.proofs.SortFacts.{nothing_there, some_is}
use Rattle.spv_rule_soundness.proofs.evaluation.Values.{same_types}
use Rattle.spv_meaning.proofs.Maps.{same_names}
use Rattle.spv_writes.proofs.Lists.{or_left, or_right, any_right}
use Rattle.spv_program_soundness.proofs.Roots.{IsRootOf, OfName, OfClass}

-- the heads of roots that pass a test
abbrev kept : (Root → Bool) → List (Root × Head) → List Head
kept test roots = map (λ r. r.1) (filter (λ r. test r.0) roots)

module _ (test : Root → Bool) (root : Root) (h : Head) (passes : test root ≡ true) where
  abbrev Has : List (Root × Head) → Type 0
  Has roots = list_any (head_eq h) (kept test roots) ≡ true

  one_more : (r : Root × Head) (roots : List (Root × Head)) → list_any (head_eq h) (kept test roots) ≡ true → list_any (head_eq h) (kept test (r ∷ roots)) ≡ true
  one_more r roots later = by_test (test r.0) (head_eq h r.1)
    where
      by_test : (b c : Bool) → list_any (head_eq h) (map (λ r. r.1) (cond b (r ∷ filter (λ r. test r.0) roots) (filter (λ r. test r.0) roots))) ≡ true
      by_test true c = or_right (head_eq h r.1) _ later
      by_test false c = later

  first_one : (roots : List (Root × Head)) → list_any (head_eq h) (kept test ((root, h) ∷ roots)) ≡ true
  first_one roots = by_test (test root) passes
    where
      by_test : (b : Bool) → b ≡ true → list_any (head_eq h) (map (λ r. r.1) (cond b ((root, h) ∷ filter (λ r. test r.0) roots) (filter (λ r. test r.0) roots))) ≡ true
      by_test true e = or_left (head_eq h h) _ (head_eq-refl h)
      by_test false e = absurd (false≢true e)

  behind_some : (xs ys : List (Root × Head)) → list_any (head_eq h) (kept test ys) ≡ true → list_any (head_eq h) (kept test (xs ++ ys)) ≡ true
  behind_some [] ys there = there
  behind_some (x ∷ xs) ys there = one_more x (xs ++ ys) (behind_some xs ys there)

-- names with their types
module _ (p : Program) (test : Root → Bool) (of : Symbol → Root) (x : Symbol) (t : TypeId) (passes : test (of x) ≡ true) where
  among_names : (names : List (Symbol × TypeId)) (rest : List (Root × Head)) → found names x ≡ Some t → list_any (head_eq (head.Var x (sort_of p.forms t) 0)) (kept test (map (λ n. (of n.0, head.Var n.0 (sort_of p.forms n.1) 0)) names ++ rest)) ≡ true
  among_names [] rest e = absurd (nothing_there e)
  among_names (n ∷ names) rest e = by_name (same_name n.0 x) refl e (among_names names rest)
    where
      by_name : (b : Bool) → same_name n.0 x ≡ b → cond b (Some n.1) (found names x) ≡ Some t → (found names x ≡ Some t → list_any (head_eq (head.Var x (sort_of p.forms t) 0)) (kept test (map (λ n. (of n.0, head.Var n.0 (sort_of p.forms n.1) 0)) names ++ rest)) ≡ true)
          → list_any (head_eq (head.Var x (sort_of p.forms t) 0)) (kept test ((of n.0, head.Var n.0 (sort_of p.forms n.1) 0) ∷ (map (λ n. (of n.0, head.Var n.0 (sort_of p.forms n.1) 0)) names ++ rest))) ≡ true
      by_name true same is later =
          let name = same_names n.0 x same in
          let type = some_is is in
          let others = map (λ n. (of n.0, head.Var n.0 (sort_of p.forms n.1) 0)) names ++ rest in
          subst (λ (one : Root × Head). list_any (head_eq (head.Var x (sort_of p.forms t) 0)) (kept test (one ∷ others)) ≡ true) (sym (λ i. (of (name i), head.Var (name i) (sort_of p.forms (type i)) 0))) (first_one test (of x) (head.Var x (sort_of p.forms t) 0) passes others)
      by_name false same is later = one_more test (of x) (head.Var x (sort_of p.forms t) 0) passes (of n.0, head.Var n.0 (sort_of p.forms n.1) 0) _ (later is)

-- ---- classes

-- a type that exists is among those with forms
among_forms : (forms : List TypeForm) (from k : ℕ) → nat_lt k (length forms) ≡ true → list_any (same_type (record { 0 = from + k })) (types_from from forms) ≡ true
among_forms [] from k h = absurd (none k h)
  where
    none : (k : ℕ) → nat_lt k 0 ≡ true → ⊥
    none k h = grind (arith, nat_tests)
among_forms (g ∷ forms) from zero h = or_left (nat_eq (from + 0) from) _ (grind (arith, nat_tests))
among_forms (g ∷ forms) from (suc k) h =
    or_right (nat_eq (from + suc k) from) _ (subst (λ n. list_any (same_type (record { 0 = n })) (types_from (suc from) forms) ≡ true) (omega arith) (among_forms forms (suc from) k (grind (arith, nat_tests))))

among_once : (types seen : List TypeId) (c : TypeId) → list_any (same_type c) types ≡ true → list_any (same_type c) seen ≡ false → list_any (same_type c) (types_once seen types) ≡ true
among_once [] seen c there unseen = there
among_once (k ∷ types) seen c there unseen =
    by_seen (list_any (same_type k) seen) refl (same_type c k) refl there (λ h. among_once types seen c h unseen) (λ h none. among_once types (k ∷ seen) c h none)
  where
    by_seen : (b : Bool) → list_any (same_type k) seen ≡ b → (s : Bool) → same_type c k ≡ s → (s || list_any (same_type c) types) ≡ true
        → (list_any (same_type c) types ≡ true → list_any (same_type c) (types_once seen types) ≡ true)
        → (list_any (same_type c) types ≡ true → list_any (same_type c) (k ∷ seen) ≡ false → list_any (same_type c) (types_once (k ∷ seen) types) ≡ true)
        → list_any (same_type c) (cond b (types_once seen types) (k ∷ types_once (k ∷ seen) types)) ≡ true
    by_seen true is true same h one two = absurd (false≢true (sym unseen ∙ (ap (λ n. list_any (λ u. nat_eq n u.0) seen) (eqb-true c.0 k.0 same) ∙ is)))
    by_seen true is false same h one two = one h
    by_seen false is true same h one two = or_left (same_type c k) _ same
    by_seen false is false same h one two = or_right (same_type c k) _ (two h (both_false (same_type c k) (list_any (same_type c) seen) same unseen))

-- ---- all of them

-- a root of a place that passes is kept with its head
pub root_kept : (p : Program) → well_typed p ≡ true → (r : Option Routine) (test : Root → Bool) (root : Root) (h : Head) → IsRootOf p r root h → test root ≡ true → list_any (head_eq h) (kept test (all_roots p r)) ≡ true
root_kept p typed r test _ _ (OfName x t told seen) passes = by_own (found (own_names_in r) x) refl told passes
  where
    own : List (Root × Head)
    own = map (λ n. (Own n.0, head.Var n.0 (sort_of p.forms n.1) 0)) (own_names_in r)

    by_own : (o : Option TypeId) → found (own_names_in r) x ≡ o → first_of o (found p.variables x) ≡ Some t → test (cond (is_some o) (Own x) (Shared (Variable x))) ≡ true → list_any (head_eq (head.Var x (sort_of p.forms t) 0)) (kept test (all_roots p r)) ≡ true
    by_own (Some u) e told passes = among_names p test (λ y. Own y) x t passes (own_names_in r) _ (e ∙ told)
    by_own None e told passes =
        behind_some test (Shared (Variable x)) (head.Var x (sort_of p.forms t) 0) passes own _ (among_names p test (λ y. Shared (Variable y)) x t passes p.variables _ told)
root_kept p typed r test _ _ (OfClass c exists seen) passes =
    behind_some test (Shared (Class c)) (head.ClassVar c 0) passes (map (λ n. (Own n.0, head.Var n.0 (sort_of p.forms n.1) 0)) (own_names_in r)) _
    (behind_some test (Shared (Class c)) (head.ClassVar c 0) passes (map (λ n. (Shared (Variable n.0), head.Var n.0 (sort_of p.forms n.1) 0)) p.variables) _ (among_classes (all_types p) in_all))
  where
    plain : 0 + c.0 ≡ c.0
    plain = omega arith

    in_all : list_any (same_type c) (all_types p) ≡ true
    in_all = among_once (types_of_names p.types ++ types_from 0 p.forms) [] c (any_right (same_type c) (types_of_names p.types) (types_from 0 p.forms) (subst (λ n. list_any (same_type (record { 0 = n })) (types_from 0 p.forms) ≡ true) plain (among_forms p.forms 0 c.0 exists))) refl

    among_classes : (types : List TypeId) → list_any (same_type c) types ≡ true → list_any (head_eq (head.ClassVar c 0)) (kept test (map (λ t. (Shared (Class t), head.ClassVar t 0)) types)) ≡ true
    among_classes [] h = absurd (false≢true h)
    among_classes (k ∷ types) h = by_type (same_type c k) refl h (among_classes types)
      where
        by_type : (b : Bool) → same_type c k ≡ b → (b || list_any (same_type c) types) ≡ true → (list_any (same_type c) types ≡ true → list_any (head_eq (head.ClassVar c 0)) (kept test (map (λ t. (Shared (Class t), head.ClassVar t 0)) types)) ≡ true)
            → list_any (head_eq (head.ClassVar c 0)) (kept test ((Shared (Class k), head.ClassVar k 0) ∷ map (λ t. (Shared (Class t), head.ClassVar t 0)) types)) ≡ true
        by_type true same h later =
            subst (λ (k : TypeId). list_any (head_eq (head.ClassVar c 0)) (kept test ((Shared (Class k), head.ClassVar k 0) ∷ map (λ t. (Shared (Class t), head.ClassVar t 0)) types)) ≡ true) (same_types c k same)
            (first_one test (Shared (Class c)) (head.ClassVar c 0) passes (map (λ t. (Shared (Class t), head.ClassVar t 0)) types))
        by_type false same h later = one_more test (Shared (Class c)) (head.ClassVar c 0) passes (Shared (Class k), head.ClassVar k 0) _ (later h)
