-- What assignments to variables, and FORs, may change in the main block.
use Rattle.std.proofs.Common.{◌≡◌, ℕ, Bool, true, false, cond, ◌||◌, List, [], ◌∷◌, ◌++◌, map, filter, refl, sym, ap, subst, ◌∙◌, Some, None}
use Rattle.std.specs.List.{list_any}
use Rattle.std.proofs.lemmas.Bool.{false≢true}
use Rattle.spv_logic.specs.declared.names.names.Symbol.{Symbol}
use Rattle.spv_logic.specs.declared.types.TypeId.{TypeId}
use Rattle.spv_logic.specs.declared.types.Sort.{Sort}
use Rattle.spv_logic.specs.declared.operators.Head.{Head}
use Rattle.spv_logic.specs.declared.operators.Head.TheVariants as head
use Rattle.spv_logic.specs.Terms.{head_eq}
use Rattle.spv_logic.proofs.Equality.{head_eq-true, head_eq-refl}
use Rattle.spv_program.specs.declared.types.Item.TheVariants.{Variable, Class}
use Rattle.spv_program.specs.Lists.{same_name, found}
use Rattle.spv_program.specs.Types.{sort_of}
use Rattle.spv_program.specs.Programs.{Program}
use Rattle.spv_program.specs.Uses.{Root, Shared, Use, same_root}
use Rattle.spv_program.specs.Changes.{all_types, all_roots}
use Rattle.spv_program.proofs.SortFacts.{nothing_there, some_is}
use Rattle.spv_meaning.proofs.Maps.{same_names}
use Rattle.spv_rule_soundness.proofs.statements.Changing.{or_left, or_right}

-- the variables and classes of the roots that pass
abbrev pub kept : (Root → Bool) → List (Root × Head) → List Head
kept test roots = map (λ r. r.1) (filter (λ r. test r.0) roots)

one_more : (test : Root → Bool) (h : Head) (r : Root × Head) (roots : List (Root × Head)) (b : Bool) → list_any (head_eq h) (kept test roots) ≡ true → list_any (head_eq h) (map (λ r. r.1) (cond b (r ∷ filter (λ r. test r.0) roots) (filter (λ r. test r.0) roots))) ≡ true
one_more test h r roots true later = or_right (head_eq h r.1) _ later
one_more test h r roots false later = later

-- a root that passes is kept with its variable
at_front : (test : Root → Bool) (h : Head) (root : Root) (roots : List (Root × Head)) (b : Bool) → b ≡ true → list_any (head_eq h) (map (λ r. r.1) (cond b ((root, h) ∷ filter (λ r. test r.0) roots) (filter (λ r. test r.0) roots))) ≡ true
at_front test h root roots true e = or_left (head_eq h h) _ (head_eq-refl h)
at_front test h root roots false e = absurd (false≢true e)

among : (p : Program) (test : Root → Bool) (x : Symbol) (t : TypeId) (rest : List (Root × Head)) (variables : List (Symbol × TypeId)) → found variables x ≡ Some t → test (Shared (Variable x)) ≡ true → list_any (head_eq (head.Var x (sort_of p.forms t) 0)) (kept test (map (λ n. (Shared (Variable n.0), head.Var n.0 (sort_of p.forms n.1) 0)) variables ++ rest)) ≡ true
among p test x t rest [] e pass = absurd (nothing_there e)
among p test x t rest (n ∷ variables) e pass = by_name (same_name n.0 x) refl (λ here. among p test x t rest variables here pass) e
  where
    others : List (Root × Head)
    others = map (λ n. (Shared (Variable n.0), head.Var n.0 (sort_of p.forms n.1) 0)) variables ++ rest

    by_name : (b : Bool) → same_name n.0 x ≡ b → (found variables x ≡ Some t → list_any (head_eq (head.Var x (sort_of p.forms t) 0)) (kept test (map (λ n. (Shared (Variable n.0), head.Var n.0 (sort_of p.forms n.1) 0)) variables ++ rest)) ≡ true) → cond b (Some n.1) (found variables x) ≡ Some t → list_any (head_eq (head.Var x (sort_of p.forms t) 0)) (kept test ((Shared (Variable n.0), head.Var n.0 (sort_of p.forms n.1) 0) ∷ others)) ≡ true
    by_name true same later here =
        let name : n.0 ≡ x = same_names n.0 x same in
        let type : n.1 ≡ t = some_is here in
        subst (λ y. list_any (head_eq (head.Var x (sort_of p.forms t) 0)) (kept test ((Shared (Variable y), head.Var y (sort_of p.forms n.1) 0) ∷ others)) ≡ true) (sym name)
        (subst (λ u. list_any (head_eq (head.Var x (sort_of p.forms t) 0)) (kept test ((Shared (Variable x), head.Var x (sort_of p.forms u) 0) ∷ others)) ≡ true) (sym type)
        (at_front test (head.Var x (sort_of p.forms t) 0) (Shared (Variable x)) others (test (Shared (Variable x))) pass))
    by_name false same later here =
        one_more test (head.Var x (sort_of p.forms t) 0) (Shared (Variable n.0), head.Var n.0 (sort_of p.forms n.1) 0) others (test (Shared (Variable n.0))) (later here)

-- a variable of the program whose root passes is kept
pub is_kept : (p : Program) (test : Root → Bool) (x : Symbol) (t : TypeId) → found p.variables x ≡ Some t → test (Shared (Variable x)) ≡ true → list_any (head_eq (head.Var x (sort_of p.forms t) 0)) (kept test (all_roots p None)) ≡ true
is_kept p test x t e pass = among p test x t (map (λ t. (Shared (Class t), head.ClassVar t 0)) (all_types p)) p.variables e pass

-- ---- what is not kept

not_kept : (test : Root → Bool) (h : Head) (r : Root × Head) (roots : List (Root × Head)) (b : Bool) → test r.0 ≡ b → (head_eq h r.1 ≡ true → test r.0 ≡ false) → list_any (head_eq h) (kept test roots) ≡ false → list_any (head_eq h) (map (λ r. r.1) (cond b (r ∷ filter (λ r. test r.0) roots) (filter (λ r. test r.0) roots))) ≡ false
not_kept test h r roots false is other later = later
not_kept test h r roots true is other later = by_head (head_eq h r.1) refl
  where
    by_head : (c : Bool) → head_eq h r.1 ≡ c → (c || list_any (head_eq h) (kept test roots)) ≡ false
    by_head false e = later
    by_head true e = absurd (false≢true (sym (other e) ∙ is))

no_class : (x : Symbol) (s : Sort) (u : TypeId) → head_eq (head.Var x s 0) (head.ClassVar u 0) ≡ false
no_class x s u = refl

not_among_classes : (test : Root → Bool) (x : Symbol) (s : Sort) (types : List TypeId) → list_any (head_eq (head.Var x s 0)) (kept test (map (λ t. (Shared (Class t), head.ClassVar t 0)) types)) ≡ false
not_among_classes test x s [] = refl
not_among_classes test x s (u ∷ types) =
    not_kept test (head.Var x s 0) (Shared (Class u), head.ClassVar u 0) (map (λ t. (Shared (Class t), head.ClassVar t 0)) types) (test (Shared (Class u))) refl (λ e. absurd (false≢true (sym (no_class x s u) ∙ e))) (not_among_classes test x s types)

same_variable : (x y : Symbol) (s r : Sort) → head.Var x s 0 ≡ head.Var y r 0 → x ≡ y
same_variable x y s r e = cc

not_among : (p : Program) (test : Root → Bool) (x : Symbol) (s : Sort) (rest : List (Root × Head)) → list_any (head_eq (head.Var x s 0)) (kept test rest) ≡ false → (variables : List (Symbol × TypeId)) → test (Shared (Variable x)) ≡ false → list_any (head_eq (head.Var x s 0)) (kept test (map (λ n. (Shared (Variable n.0), head.Var n.0 (sort_of p.forms n.1) 0)) variables ++ rest)) ≡ false
not_among p test x s rest in_rest [] fails = in_rest
not_among p test x s rest in_rest (n ∷ variables) fails =
    let r : Root × Head = (Shared (Variable n.0), head.Var n.0 (sort_of p.forms n.1) 0) in
    not_kept test (head.Var x s 0) r (map (λ n. (Shared (Variable n.0), head.Var n.0 (sort_of p.forms n.1) 0)) variables ++ rest) (test (Shared (Variable n.0))) refl
    (λ e. ap (λ y. test (Shared (Variable y))) (sym (same_variable x n.0 s (sort_of p.forms n.1) (head_eq-true (head.Var x s 0) r.1 e))) ∙ fails)
    (not_among p test x s rest in_rest variables fails)

-- a variable of the program whose root does not pass is not kept
pub is_not_kept : (p : Program) (test : Root → Bool) (x : Symbol) (s : Sort) → test (Shared (Variable x)) ≡ false → list_any (head_eq (head.Var x s 0)) (kept test (all_roots p None)) ≡ false
is_not_kept p test x s fails =
    not_among p test x s (map (λ t. (Shared (Class t), head.ClassVar t 0)) (all_types p)) (not_among_classes test x s (all_types p)) p.variables fails

-- ---- what is written

-- a use that changes is among the roots that are written
pub is_written : (root : Root) (line : ℕ) (before after : List Use) (more : List Root) → same_root root root ≡ true → list_any (same_root root) (map (λ u. u.root) (filter (λ u. u.changes) (before ++ record { root = root; changes = true; line = line } ∷ after)) ++ more) ≡ true
is_written root line [] after more same = or_left (same_root root root) _ same
is_written root line (u ∷ before) after more same = by_case u.changes (is_written root line before after more same)
  where
    uses : List Use
    uses = before ++ record { root = root; changes = true; line = line } ∷ after

    by_case : (b : Bool) → list_any (same_root root) (map (λ u. u.root) (filter (λ u. u.changes) uses) ++ more) ≡ true → list_any (same_root root) (map (λ u. u.root) (cond b (u ∷ filter (λ u. u.changes) uses) (filter (λ u. u.changes) uses)) ++ more) ≡ true
    by_case true later = or_right (same_root root u.root) _ later
    by_case false later = later
