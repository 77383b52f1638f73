-- The variables of FORs, in any routine.
use Rattle.std.proofs.Common.{◌≡◌, ℕ, Bool, true, false, cond, not, ◌&&◌, List, [], ◌∷◌, ◌++◌, map, filter, ℤ, refl, sym, ap, subst, ◌∙◌, Option, Some, None, option_map}
use Rattle.std.specs.List.{list_all, list_any, flat_map}
use Rattle.std.specs.Cmp.Derive.{both_true}
use Rattle.std.proofs.lemmas.Bool.{false≢true, eq-eqb}
use Rattle.spv_logic.specs.declared.names.names.Symbol.{Symbol}
use Rattle.spv_logic.specs.declared.types.TypeId.{TypeId}
use Rattle.spv_logic.specs.declared.types.Sort.{Sort}
use Rattle.spv_logic.specs.declared.types.Sort.TheVariants as sort
use Rattle.spv_logic.specs.declared.operators.Head.{Head}
use Rattle.spv_logic.specs.declared.operators.Head.TheVariants as head
use Rattle.spv_logic.specs.Values.{Number}
use Rattle.spv_logic.specs.Terms.{head_eq}
use Rattle.spv_logic.specs.Fits.{fits}
use Rattle.spv_logic.proofs.Equality.{head_eq-true}
use Rattle.spv_logic.proofs.list.Tests.{left_true, right_true, both_false}
use Rattle.spv_program.specs.declared.types.Item.{Item}
use Rattle.spv_program.specs.declared.types.Item.TheVariants.{Variable, Class}
use Rattle.spv_program.specs.Lists.{same_name}
use Rattle.spv_program.specs.Types.{sort_of}
use Rattle.spv_program.specs.Expressions.{Call, call}
use Rattle.spv_program.specs.Formulas.{Annotation}
use Rattle.spv_program.specs.Statements.{Counting, Statement, For}
use Rattle.spv_program.specs.Programs.{GlobalItem, Routine, Program, shapes, routine_at, routine_in}
use Rattle.spv_program.specs.Scopes.{is_own, own_names, name_type, sort_or_int}
use Rattle.spv_program.specs.Uses.{Root, Own, Shared, Use, same_root, name_root, annotation_uses, expression_uses, statement_uses, statement_calls}
use Rattle.spv_program.specs.Frames.{globals_of, arguments_apart, place_roots}
use Rattle.spv_program.specs.Changes.{var_items, items_of_callee, changed_by_call, changed_roots, all_types, all_roots, changed_heads}
use Rattle.spv_program.specs.Terms.{item_head}
use Rattle.spv_program.specs.FormulaTypes.{is_sort}
use Rattle.spv_program.specs.ExpressionTypes.{sort_of_type}
use Rattle.spv_program.specs.Typing.{well_typed, may_count, counting_ok}
use Rattle.spv_program.proofs.SortFacts.{some_is, is_sort-true}
use Rattle.spv_program.proofs.ExpressionSorting.{mapped}
use Rattle.spv_meaning.specs.Places.{Place, State, put, look}
use Rattle.spv_preservation.specs.facts.Places.{IsPlace}
use Rattle.spv_meaning.proofs.Maps.{same_names}
use Rattle.spv_meaning.specs.Views.{sees, place_of, now_view}
use Rattle.spv_meaning.specs.Levels.{Here}
use Rattle.spv_meaning.specs.Starts.{IsStart}
use Rattle.spv_preservation.proofs.facts.Places.{put_found}
use Rattle.spv_preservation.proofs.Names.{name_place}
use Rattle.spv_preservation.proofs.Roots.{place_there}
use Rattle.spv_rule_soundness.specs.evaluation.Laws.{root_seen}
use Rattle.spv_rule_soundness.specs.statements.Runs.{may_change}
use Rattle.spv_rule_soundness.specs.statements.Laws.{Counts}
use Rattle.spv_rule_soundness.proofs.evaluation.Settings.{view_name}
use Rattle.spv_writes.specs.Writes.{is_in}
use Rattle.spv_writes.proofs.Lists.{all_both, any_left, or_left, or_right}
use Rattle.spv_writes.proofs.Kept.{one_put}
use Rattle.spv_frame_law.specs.Frames.{root_areas, areas_of, call_shown, root_shown}
use Rattle.spv_frame_law.specs.Laws.{IsFramed}
use Rattle.spv_frame_law.proofs.Names.{name_in}
use Rattle.spv_frame_law.proofs.Sharing.{kept_roots, statement_named, count_own}
use Rattle.spv_frame_law.proofs.Views.{place_stays}
use Rattle.spv_call_evaluation.specs.Functions.{calls_shown}
use Rattle.spv_call_evaluation.proofs.Globals.{seen_not_own}
use Rattle.spv_program_soundness.proofs.Roots.{IsRootOf, OfName}
use Rattle.spv_program_soundness.proofs.Kept.{root_kept}
use Rattle.spv_program_soundness.proofs.Assigning.{after_start, same_else}

-- ---- the variable's place

-- a variable that may be counted has a type of sort Int
pub record IsCounter (p : Program) (r : Option Routine) (x : Symbol) : Type 0 where
  pub type : TypeId
  pub is : name_type p r x ≡ Some type
  pub sort_is : sort_of p.forms type ≡ sort.Int
  pub seen : root_seen r (name_root (is_own r) x) ≡ true

pub counter_of : (p : Program) (r : Option Routine) (count : Counting) (s : Statement) → counting_ok p r count s ≡ true → root_seen r (name_root (is_own r) count.variable) ≡ true → IsCounter p r count.variable
counter_of p r count s ok seen =
    let int = left_true (is_sort sort.Int (sort_of_type p (name_type p r count.variable))) _ (right_true (may_count r count.variable) _ ok) in
    let t = mapped (sort_of p.forms) (name_type p r count.variable) sort.Int (is_sort-true sort.Int (sort_of_type p (name_type p r count.variable)) int) in
    record { type = t.item; is = t.is; sort_is = some_is t.gives; seen = seen }

head_of : (p : Program) (r : Option Routine) (x : Symbol) (c : IsCounter p r x) → item_head p r (Variable x) ≡ head.Var x (sort_of p.forms c.type) 0
head_of p r x c = ap (λ o. head.Var x (sort_or_int (option_map (sort_of p.forms) o)) 0) c.is

same_itself : (own : Symbol → Bool) (x : Symbol) → same_root (name_root own x) (name_root own x) ≡ true
same_itself own x = by_own (own x)
  where
    by_own : (b : Bool) → same_root (cond b (Own x) (Shared (Variable x))) (cond b (Own x) (Shared (Variable x))) ≡ true
    by_own true = eq-eqb x.0 x.0 refl
    by_own false = eq-eqb x.0 x.0 refl

-- a use that changes is among the roots that are written
is_written : (root : Root) (line : ℕ) (before after : List Use) (more : List Root) → same_root root root ≡ true → list_any (same_root root) (map (λ u. u.root) (filter (λ u. u.changes) (before ++ record { root = root; changes = true; line = line } ∷ after)) ++ more) ≡ true
is_written root line [] after more same = or_left (same_root root root) _ same
is_written root line (u ∷ before) after more same = by_case u.changes (is_written root line before after more same)
  where
    uses : List Use
    uses = before ++ record { root = root; changes = true; line = line } ∷ after

    by_case : (b : Bool) → list_any (same_root root) (map (λ u. u.root) (filter (λ u. u.changes) uses) ++ more) ≡ true → list_any (same_root root) (map (λ u. u.root) (cond b (u ∷ filter (λ u. u.changes) uses) (filter (λ u. u.changes) uses)) ++ more) ≡ true
    by_case true later = or_right (same_root root u.root) _ later
    by_case false later = later

module _ (p : Program) (f : IsFramed p) (here : Here) (x : Symbol) (c : IsCounter p (routine_in p here.routine) x) where
  abbrev r : Option Routine
  r = routine_in p here.routine

  root_is : IsRootOf p (routine_in p here.routine) (name_root (is_own (routine_in p here.routine)) x) (head.Var x (sort_of p.forms c.type) 0)
  root_is = OfName x c.type c.is c.seen

  -- it takes a number
  pub counts_right : (state : State) → IsStart p here.routine state → (z : ℤ) → Counts p here x state z
  counts_right state start z =
      let a : Place = place_of here.routine state x in
      let right = start.right in
      let place : IsPlace (shapes p) state (place_of here.routine state x) (sort_of p.forms c.type) = place_there p right.types state right.right a (sort_of p.forms c.type) (name_place p here.routine right.types right.inside state right.right x c.type c.is) in
      let fit : fits (shapes p) (Number z) (sort_of p.forms c.type) ≡ true = ap (fits (shapes p) (Number z)) c.sort_is in
      let inside = name_in p here.routine right.types right.inside state right.right x in
      let root = name_root (is_own (routine_in p here.routine)) x in
      let wrote = one_put p (areas_of state.frames (root ∷ [])) state a (sort_of p.forms c.type) (Number z) place fit (any_left (is_in state.heap a) (root_areas state.frames root) [] inside) in
      record {
        is_start = after_start p f here state start root (head.Var x (sort_of p.forms c.type) 0) root_is a (sort_of p.forms c.type) (Number z) place fit inside;
        shows = ap (now_view p here.routine (put state a (Number z))) (head_of p (routine_in p here.routine) x c)
            ∙ view_name p here.routine (put state a (Number z)) x c.type (Number z) c.is c.seen
            (ap (look (put state a (Number z))) (place_stays p (areas_of state.frames (root ∷ [])) here.routine state (put state a (Number z)) wrote x) ∙ put_found (shapes p) state a (sort_of p.forms c.type) place (Number z));
        same = λ h other. same_else p f here state start root (head.Var x (sort_of p.forms c.type) 0) root_is a (sort_of p.forms c.type) (Number z) place fit inside h (ap (head_eq h) (sym (head_of p (routine_in p here.routine) x c)) ∙ other);
      }

  -- its FOR changes it
  pub counted_changes : (line : ℕ) (g : Option Annotation) (count : Counting) (s : Statement) → count.variable ≡ x → may_change p here (For line g count s) (item_head p (routine_in p here.routine) (Variable x)) ≡ true
  counted_changes line g count s same =
      let own = is_own (routine_in p here.routine) in
      let s' = For line g count s in
      let root = name_root own x in
      ap (λ h. list_any (head_eq h) (changed_heads p (routine_in p here.routine) s')) (head_of p (routine_in p here.routine) x c)
      ∙ root_kept p f.typed (routine_in p here.routine) (λ k. list_any (same_root k) (changed_roots p (routine_in p here.routine) s')) root (head.Var x (sort_of p.forms c.type) 0) root_is
      (subst (λ (y : Symbol). list_any (same_root (name_root own y)) (changed_roots p (routine_in p here.routine) s') ≡ true) same
      (is_written (name_root own count.variable) line (annotation_uses own g) (expression_uses own count.first ++ (expression_uses own count.last ++ statement_uses own s)) (flat_map (changed_by_call p) (statement_calls s')) (same_itself own count.variable)))

-- ---- a body leaves it alone

abbrev kept : (Root → Bool) → List (Root × Head) → List Head
kept test roots = map (λ r. r.1) (filter (λ r. test r.0) roots)

not_kept : (test : Root → Bool) (h : Head) (r : Root × Head) (roots : List (Root × Head)) → (head_eq h r.1 ≡ true → test r.0 ≡ false) → list_any (head_eq h) (kept test roots) ≡ false → list_any (head_eq h) (kept test (r ∷ roots)) ≡ false
not_kept test h r roots other later = by_test (test r.0) refl (head_eq h r.1) refl
  where
    by_test : (b : Bool) → test r.0 ≡ b → (c : Bool) → head_eq h r.1 ≡ c → list_any (head_eq h) (map (λ r. r.1) (cond b (r ∷ filter (λ r. test r.0) roots) (filter (λ r. test r.0) roots))) ≡ false
    by_test false is c e = later
    by_test true is true e = absurd (false≢true (sym (other e) ∙ is))
    by_test true is false e = both_false (head_eq h r.1) _ e later

same_variable : (x y : Symbol) (s t : Sort) → head.Var x s 0 ≡ head.Var y t 0 → x ≡ y
same_variable x y s t e = cc

not_among_names : (p : Program) (test : Root → Bool) (of : Symbol → Root) (x : Symbol) (s : Sort) → test (of x) ≡ false → (names : List (Symbol × TypeId)) (rest : List (Root × Head)) → list_any (head_eq (head.Var x s 0)) (kept test rest) ≡ false
    → list_any (head_eq (head.Var x s 0)) (kept test (map (λ n. (of n.0, head.Var n.0 (sort_of p.forms n.1) 0)) names ++ rest)) ≡ false
not_among_names p test of x s fails [] rest none = none
not_among_names p test of x s fails (n ∷ names) rest none =
    not_kept test (head.Var x s 0) (of n.0, head.Var n.0 (sort_of p.forms n.1) 0) (map (λ n. (of n.0, head.Var n.0 (sort_of p.forms n.1) 0)) names ++ rest)
    (λ e. ap (λ y. test (of y)) (sym (same_variable x n.0 s (sort_of p.forms n.1) (head_eq-true (head.Var x s 0) (head.Var n.0 (sort_of p.forms n.1) 0) e))) ∙ fails)
    (not_among_names p test of x s fails names rest none)

not_among_classes : (test : Root → Bool) (x : Symbol) (s : Sort) (types : List TypeId) → list_any (head_eq (head.Var x s 0)) (kept test (map (λ t. (Shared (Class t), head.ClassVar t 0)) types)) ≡ false
not_among_classes test x s [] = refl
not_among_classes test x s (t ∷ types) = not_kept test (head.Var x s 0) (Shared (Class t), head.ClassVar t 0) (map (λ t. (Shared (Class t), head.ClassVar t 0)) types) (λ e. absurd (no_class e)) (not_among_classes test x s types)
  where
    no_class : head_eq (head.Var x s 0) (head.ClassVar t 0) ≡ true → ⊥
    no_class e = false≢true e

is_false : (b : Bool) → not b ≡ true → b ≡ false
is_false true e = absurd (false≢true e)
is_false false e = refl

none_of : (test : Root → Bool) (roots : List Root) → list_all (λ k. not (test k)) roots ≡ true → list_any test roots ≡ false
none_of test [] h = refl
none_of test (k ∷ roots) h = both_false (test k) (list_any test roots) (is_false (test k) (left_true (not (test k)) _ h)) (none_of test roots (right_true (not (test k)) _ h))

-- in a routine, where an own name is counted
module _ (p : Program) (typed : well_typed p ≡ true) (here : Here) (x : Symbol) (own : is_own (routine_in p here.routine) x ≡ true) where
  -- no program variable of that name
  abbrev other : Root → Bool
  other k = not (same_root (Shared (Variable x)) k)

  other_name : (y : Symbol) → other (name_root (is_own (routine_in p here.routine)) y) ≡ true
  other_name y = by_own (is_own (routine_in p here.routine) y) refl
    where
      by_own : (b : Bool) → is_own (routine_in p here.routine) y ≡ b → not (same_root (Shared (Variable x)) (cond b (Own y) (Shared (Variable y)))) ≡ true
      by_own true e = refl
      by_own false e = by_name (same_name x y) refl
        where
          by_name : (c : Bool) → same_name x y ≡ c → not c ≡ true
          by_name false k = refl
          by_name true k = absurd (false≢true (sym e ∙ (ap (is_own (routine_in p here.routine)) (sym (same_names x y k)) ∙ own)))

  other_item : (i : Item) → sees (routine_in p here.routine) i ≡ true → other (Shared i) ≡ true
  other_item (Class t) seen = refl
  other_item (Variable y) seen = by_name (same_name x y) refl
    where
      by_name : (c : Bool) → same_name x y ≡ c → not c ≡ true
      by_name false k = refl
      by_name true k =
          absurd (false≢true (sym (seen_not_own p typed here.routine x (ap (λ (z : Symbol). sees (routine_in p here.routine) (Variable z)) (same_names x y k) ∙ seen)) ∙ own))

  other_items : (globals : List GlobalItem) → list_all (λ g. sees (routine_in p here.routine) g.item) globals ≡ true → list_all other (map Shared (var_items globals)) ≡ true
  other_items [] h = refl
  other_items (g ∷ globals) h = by_group g.is_var (other_items globals (right_true (sees (routine_in p here.routine) g.item) _ h))
    where
      by_group : (b : Bool) → list_all other (map Shared (var_items globals)) ≡ true → list_all other (map Shared (map (λ g. g.item) (cond b (g ∷ filter (λ g. g.is_var) globals) (filter (λ g. g.is_var) globals)))) ≡ true
      by_group false later = later
      by_group true later = both_true (other_item g.item (left_true (sees (routine_in p here.routine) g.item) _ h)) later

  other_calls : (cs : List Call) → calls_shown p (routine_in p here.routine) cs ≡ true → list_all other (flat_map (changed_by_call p) cs) ≡ true
  other_calls [] h = refl
  other_calls (call id line given ∷ cs) h =
      let one = left_true (arguments_apart p (routine_in p here.routine) (call id line given) && call_shown p (routine_in p here.routine) (call id line given)) _ h in
      let shown = right_true (arguments_apart p (routine_in p here.routine) (call id line given)) _ one in
      let globals = right_true (list_all (root_shown (routine_in p here.routine)) (place_roots (is_own (routine_in p here.routine)) given)) _ shown in
      all_both other (map Shared (items_of_callee (routine_at p id))) (flat_map (changed_by_call p) cs) (of_callee (routine_at p id) globals) (other_calls cs (right_true (arguments_apart p (routine_in p here.routine) (call id line given) && call_shown p (routine_in p here.routine) (call id line given)) _ h))
    where
      of_callee : (o : Option Routine) → list_all (λ g. sees (routine_in p here.routine) g.item) (globals_of o) ≡ true → list_all other (map Shared (items_of_callee o)) ≡ true
      of_callee None h = refl
      of_callee (Some q) h = other_items q.globals h

  not_the_programs : (s : Statement) → calls_shown p (routine_in p here.routine) (statement_calls s) ≡ true → list_any (same_root (Shared (Variable x))) (changed_roots p (routine_in p here.routine) s) ≡ false
  not_the_programs s calls =
      none_of (same_root (Shared (Variable x))) (changed_roots p (routine_in p here.routine) s)
      (all_both other (map (λ u. u.root) (filter (λ u. u.changes) (statement_uses (is_own (routine_in p here.routine)) s))) (flat_map (changed_by_call p) (statement_calls s))
      (kept_roots other (statement_uses (is_own (routine_in p here.routine)) s) (statement_named other (is_own (routine_in p here.routine)) other_name (λ t. refl) s)) (other_calls (statement_calls s) calls))

-- a body whose roots have not the variable's leaves it alone
pub left_alone : (p : Program) → well_typed p ≡ true → (here : Here) (x : Symbol) (c : IsCounter p (routine_in p here.routine) x) → may_count (routine_in p here.routine) x ≡ true → (s : Statement) → calls_shown p (routine_in p here.routine) (statement_calls s) ≡ true
    → list_any (same_root (name_root (is_own (routine_in p here.routine)) x)) (changed_roots p (routine_in p here.routine) s) ≡ false → may_change p here s (item_head p (routine_in p here.routine) (Variable x)) ≡ false
left_alone p typed here x c may s calls fails =
    ap (λ h. list_any (head_eq h) (changed_heads p (routine_in p here.routine) s)) (head_of p (routine_in p here.routine) x c) ∙ by_routine (routine_in p here.routine) refl
  where
    Changed : Option Routine → Type 0
    Changed r = list_any (head_eq (head.Var x (sort_of p.forms c.type) 0)) (kept (λ k. list_any (same_root k) (changed_roots p r s)) (all_roots p r)) ≡ false

    by_routine : (r : Option Routine) → routine_in p here.routine ≡ r → Changed r
    by_routine None e =
        let test : Root → Bool = λ k. list_any (same_root k) (changed_roots p None s) in
        let theirs : list_any (same_root (Shared (Variable x))) (changed_roots p None s) ≡ false = subst (λ (o : Option Routine). list_any (same_root (name_root (is_own o) x)) (changed_roots p o s) ≡ false) e fails in
        not_among_names p test (λ y. Shared (Variable y)) x (sort_of p.forms c.type) theirs p.variables (map (λ t. (Shared (Class t), head.ClassVar t 0)) (all_types p)) (not_among_classes test x (sort_of p.forms c.type) (all_types p))
    by_routine (Some q) e =
        let own : is_own (routine_in p here.routine) x ≡ true = ap (λ (o : Option Routine). is_own o x) e ∙ count_own q x (subst (λ (o : Option Routine). may_count o x ≡ true) e may) in
        let test : Root → Bool = λ k. list_any (same_root k) (changed_roots p (Some q) s) in
        let mine : list_any (same_root (Own x)) (changed_roots p (Some q) s) ≡ false =
        subst (λ (o : Option Routine). list_any (same_root (Own x)) (changed_roots p o s) ≡ false) e
        (subst (λ b. list_any (same_root (cond b (Own x) (Shared (Variable x)))) (changed_roots p (routine_in p here.routine) s) ≡ false) own fails) in
        let theirs : list_any (same_root (Shared (Variable x))) (changed_roots p (Some q) s) ≡ false =
        subst (λ (o : Option Routine). list_any (same_root (Shared (Variable x))) (changed_roots p o s) ≡ false) e (not_the_programs p typed here x own s calls) in
        not_among_names p test (λ y. Own y) x (sort_of p.forms c.type) mine (own_names q) (map (λ n. (Shared (Variable n.0), head.Var n.0 (sort_of p.forms n.1) 0)) p.variables ++ map (λ t. (Shared (Class t), head.ClassVar t 0)) (all_types p))
        (not_among_names p test (λ y. Shared (Variable y)) x (sort_of p.forms c.type) theirs p.variables (map (λ t. (Shared (Class t), head.ClassVar t 0)) (all_types p)) (not_among_classes test x (sort_of p.forms c.type) (all_types p)))
