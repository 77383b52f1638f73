-- The lists before statements ignore what is left of the supply.
use Rattle.std.proofs.Common.{◌≡◌, Bool, true, false, cond, not, ◌||◌, List, [], ◌∷◌, ◌++◌, map, filter, fold, ℤ, pos, refl, sym, ap, subst, ◌∙◌, Option, Some, None, option_map}
use Rattle.std.specs.List.{list_any, list_all}
use Rattle.std.specs.Option.{unwrap_or}
use Rattle.std.specs.Cmp.Derive.{both_true}
use Rattle.std.proofs.lemmas.Bool.{false≢true}
use Rattle.spv_logic.specs.declared.names.names.Symbol.{Symbol}
use Rattle.spv_logic.specs.declared.types.TypeId.{TypeId}
use Rattle.spv_logic.specs.declared.conditions.Kind.{Kind}
use Rattle.spv_logic.specs.declared.conditions.Kind.TheVariants as kind
use Rattle.spv_logic.specs.declared.conditions.RoutineId.{RoutineId}
use Rattle.spv_logic.specs.declared.operators.Head.{Head}
use Rattle.spv_logic.specs.declared.operators.Head.TheVariants as head
use Rattle.spv_logic.specs.Terms.{Term, head_eq}
use Rattle.spv_logic.specs.Substitution.{is_variable, substitute}
use Rattle.spv_logic.specs.Conditions.{Meaning, Condition}
use Rattle.spv_logic.proofs.list.Tests.{left_true, right_true}
use Rattle.spv_logic.proofs.Substitution.{worth-variable}
use Rattle.spv_program.specs.declared.operators.Direction.{Direction}
use Rattle.spv_program.specs.declared.operators.Direction.TheVariants.{Up, Down}
use Rattle.spv_program.specs.declared.types.Item.TheVariants.{Variable, Class}
use Rattle.spv_program.specs.Types.{sort_of}
use Rattle.spv_program.specs.Formulas.{Annotation}
use Rattle.spv_program.specs.Statements.{Statement, Arms, Empty, Assign, Perform, New, Sequence, If, Case, While, Repeat, For, Assert, no_arms, arm}
use Rattle.spv_program.specs.Programs.{Routine, Program, routine_in}
use Rattle.spv_program.specs.Scopes.{own_names_in}
use Rattle.spv_program.specs.Uses.{Root, Own, Shared, same_root}
use Rattle.spv_program.specs.Changes.{all_types, changed_roots, all_roots, changed_heads}
use Rattle.spv_program.specs.Supplies.{Supply, full_supply, fresh_like}
use Rattle.spv_program.specs.Terms.{alone, binary, numeral, item_head, body_term}
use Rattle.spv_program.specs.Calls.{replacing}
use Rattle.spv_program.specs.ExpressionTerms.{Called, valued}
use Rattle.spv_program.proofs.SortFacts.{nothing_there, some_is}
use Rattle.spv_meaning.specs.Levels.{Here}
use Rattle.spv_meaning.specs.Before.{Made, all_assuming, assuming_if_there, replaced, wanted, negated, annotation_term, wanted_if_there, wanted_with, wanted_entry, before_calls, renamed, standing_for, next_term, within_term, past_term, is_label, before, before_arms}
use Rattle.spv_rule_soundness.specs.statements.Truth.{is_new, IsLater, meaning_in, Ignores, TermIgnores}
use Rattle.spv_rule_soundness.specs.statements.Runs.{Allowed, IsSupplied}
use Rattle.spv_rule_soundness.specs.statements.Parts.{Passing, parts_pass, arms_pass}
use Rattle.spv_rule_soundness.specs.statements.Laws.{PartsAreRight}
use Rattle.spv_rule_soundness.proofs.statements.Lists.{not_new, later_after, ignores_later, ignores_none, ignores_both, ignores_assuming}
use Rattle.spv_rule_soundness.proofs.statements.States.{full_first}
use Rattle.spv_rule_soundness.proofs.statements.Renaming.{is_name, old_differs, fresh_later, fresh_taken, fresh_is_variable, renamed_later}
use Rattle.spv_rule_soundness.proofs.statements.Annotations.{PairsAre, annotation_ignores, two_ignore, negated_ignores, later_term, wanted_ignores, wanted_there_ignores, replaced_ignores, substituted_ignores, one_pair, wanted_with_ignores}

-- ---- what may change is variables and classes

all_names-append : (xs ys : List (Root × Head)) → list_all (λ (r : Root × Head). is_name r.1) xs ≡ true → list_all (λ (r : Root × Head). is_name r.1) ys ≡ true → list_all (λ (r : Root × Head). is_name r.1) (xs ++ ys) ≡ true
all_names-append [] ys a b = b
all_names-append (x ∷ xs) ys a b = both_true (left_true (is_name x.1) _ a) (all_names-append xs ys (right_true (is_name x.1) _ a) b)

own_are_names : (p : Program) (names : List (Symbol × TypeId)) → list_all (λ (r : Root × Head). is_name r.1) (map (λ n. (Own n.0, head.Var n.0 (sort_of p.forms n.1) 0)) names) ≡ true
own_are_names p [] = refl
own_are_names p (n ∷ names) = own_are_names p names

variables_are_names : (p : Program) (names : List (Symbol × TypeId)) → list_all (λ (r : Root × Head). is_name r.1) (map (λ n. (Shared (Variable n.0), head.Var n.0 (sort_of p.forms n.1) 0)) names) ≡ true
variables_are_names p [] = refl
variables_are_names p (n ∷ names) = variables_are_names p names

classes_are_names : (types : List TypeId) → list_all (λ (r : Root × Head). is_name r.1) (map (λ t. (Shared (Class t), head.ClassVar t 0)) types) ≡ true
classes_are_names [] = refl
classes_are_names (t ∷ types) = classes_are_names types

roots_are_names : (p : Program) (r : Option Routine) → list_all (λ (r : Root × Head). is_name r.1) (all_roots p r) ≡ true
roots_are_names p r =
    all_names-append (map (λ n. (Own n.0, head.Var n.0 (sort_of p.forms n.1) 0)) (own_names_in r)) _ (own_are_names p (own_names_in r))
    (all_names-append (map (λ n. (Shared (Variable n.0), head.Var n.0 (sort_of p.forms n.1) 0)) p.variables) _ (variables_are_names p p.variables) (classes_are_names (all_types p)))

kept_are_names : (test : Root → Bool) (roots : List (Root × Head)) → list_all (λ (r : Root × Head). is_name r.1) roots ≡ true → list_all is_name (map (λ r. r.1) (filter (λ r. test r.0) roots)) ≡ true
kept_are_names test [] h = refl
kept_are_names test (r ∷ roots) h = by_case (test r.0) (kept_are_names test roots (right_true (is_name r.1) _ h))
  where
    by_case : (b : Bool) → list_all is_name (map (λ r. r.1) (filter (λ r. test r.0) roots)) ≡ true → list_all is_name (map (λ r. r.1) (cond b (r ∷ filter (λ r. test r.0) roots) (filter (λ r. test r.0) roots))) ≡ true
    by_case true later = both_true (left_true (is_name r.1) _ h) later
    by_case false later = later

abbrev is_old_name : Head → Bool
is_old_name h = not (is_new full_supply h)

all_old-append : (xs ys : List (Root × Head)) → list_all (λ (r : Root × Head). is_old_name r.1) xs ≡ true → list_all (λ (r : Root × Head). is_old_name r.1) ys ≡ true → list_all (λ (r : Root × Head). is_old_name r.1) (xs ++ ys) ≡ true
all_old-append [] ys a b = b
all_old-append (x ∷ xs) ys a b = both_true (left_true (is_old_name x.1) _ a) (all_old-append xs ys (right_true (is_old_name x.1) _ a) b)

own_are_old : (p : Program) (names : List (Symbol × TypeId)) → list_all (λ (r : Root × Head). is_old_name r.1) (map (λ n. (Own n.0, head.Var n.0 (sort_of p.forms n.1) 0)) names) ≡ true
own_are_old p [] = refl
own_are_old p (n ∷ names) = own_are_old p names

variables_are_old : (p : Program) (names : List (Symbol × TypeId)) → list_all (λ (r : Root × Head). is_old_name r.1) (map (λ n. (Shared (Variable n.0), head.Var n.0 (sort_of p.forms n.1) 0)) names) ≡ true
variables_are_old p [] = refl
variables_are_old p (n ∷ names) = variables_are_old p names

classes_are_old : (types : List TypeId) → list_all (λ (r : Root × Head). is_old_name r.1) (map (λ t. (Shared (Class t), head.ClassVar t 0)) types) ≡ true
classes_are_old [] = refl
classes_are_old (t ∷ types) = classes_are_old types

kept_are_old : (test : Root → Bool) (roots : List (Root × Head)) → list_all (λ (r : Root × Head). is_old_name r.1) roots ≡ true → (h : Head) → is_new full_supply h ≡ true → list_any (head_eq h) (map (λ r. r.1) (filter (λ r. test r.0) roots)) ≡ false
kept_are_old test [] all h new = refl
kept_are_old test (r ∷ roots) all h new = by_case (test r.0) (kept_are_old test roots (right_true (is_old_name r.1) _ all) h new)
  where
    not_true : (b : Bool) → not b ≡ true → b ≡ false
    not_true true e = absurd (false≢true e)
    not_true false e = refl

    by_case : (b : Bool) → list_any (head_eq h) (map (λ r. r.1) (filter (λ r. test r.0) roots)) ≡ false → list_any (head_eq h) (map (λ r. r.1) (cond b (r ∷ filter (λ r. test r.0) roots) (filter (λ r. test r.0) roots))) ≡ false
    by_case true later = ap (λ b. b || list_any (head_eq h) (map (λ r. r.1) (filter (λ r. test r.0) roots))) (old_differs full_supply h r.1 new (not_true (is_new full_supply r.1) (left_true (is_old_name r.1) _ all))) ∙ later
    by_case false later = later

-- no fresh variable is among what may change
pub fresh_not_changed : (p : Program) (r : Option Routine) (s : Statement) (h : Head) → is_new full_supply h ≡ true → list_any (head_eq h) (changed_heads p r s) ≡ false
fresh_not_changed p r s h new =
    kept_are_old (λ x. list_any (same_root x) (changed_roots p r s)) (all_roots p r)
    (all_old-append (map (λ n. (Own n.0, head.Var n.0 (sort_of p.forms n.1) 0)) (own_names_in r)) _ (own_are_old p (own_names_in r))
    (all_old-append (map (λ n. (Shared (Variable n.0), head.Var n.0 (sort_of p.forms n.1) 0)) p.variables) _ (variables_are_old p p.variables) (classes_are_old (all_types p))))
    h new

pub changed_are_names : (p : Program) (r : Option Routine) (s : Statement) → list_all is_name (changed_heads p r s) ≡ true
changed_are_names p r s = kept_are_names (λ x. list_any (same_root x) (changed_roots p r s)) (all_roots p r) (roots_are_names p r)

-- ---- terms of rules

module _ (p : Program) (world : Meaning) where
  pub variable_ignores : (n : Supply) (h : Head) → is_variable h ≡ true → is_new n h ≡ false → TermIgnores p world n (alone h)
  variable_ignores n h variable old = record { alike = λ v w same. worth-variable (meaning_in p world) v h [] variable ∙ (same h variable old ∙ sym (worth-variable (meaning_in p world) w h [] variable)) }

  numeral_ignores : (n : Supply) (z : ℤ) → TermIgnores p world n (numeral z)
  numeral_ignores n z = record { alike = λ v w same. refl }

  labels_ignore : (n : Supply) (t y : Term) → TermIgnores p world n t → TermIgnores p world n y → (labels : List ℤ) → TermIgnores p world n (fold (λ s z. binary head.Or s (binary head.Eq t (numeral z))) y labels)
  labels_ignore n t y a b [] = b
  labels_ignore n t y a b (z ∷ labels) =
      labels_ignore n t (binary head.Or y (binary head.Eq t (numeral z))) a (two_ignore p world n head.Or y (binary head.Eq t (numeral z)) refl b (two_ignore p world n head.Eq t (numeral z) refl a (numeral_ignores n z))) labels

  pub label_ignores : (n : Supply) (t : Term) → TermIgnores p world n t → (labels : List ℤ) → TermIgnores p world n (is_label t labels)
  label_ignores n t a [] = record { alike = λ v w same. refl }
  label_ignores n t a (z ∷ labels) =
      labels_ignore n t (binary head.Eq t (numeral z)) a (two_ignore p world n head.Eq t (numeral z) refl a (numeral_ignores n z)) labels

  pub next_ignores : (n : Supply) (d : Direction) (t : Term) → TermIgnores p world n t → TermIgnores p world n (next_term d t)
  next_ignores n Up t a = two_ignore p world n head.Add t (numeral (pos 1)) refl a (numeral_ignores n (pos 1))
  next_ignores n Down t a = two_ignore p world n head.Sub t (numeral (pos 1)) refl a (numeral_ignores n (pos 1))

  within_ignores : (n : Supply) (d : Direction) (s t : Term) → TermIgnores p world n s → TermIgnores p world n t → TermIgnores p world n (within_term d s t)
  within_ignores n Up s t a b = two_ignore p world n head.Le s t refl a b
  within_ignores n Down s t a b = two_ignore p world n head.Le t s refl b a

  past_ignores : (n : Supply) (d : Direction) (s t : Term) → TermIgnores p world n s → TermIgnores p world n t → TermIgnores p world n (past_term d s t)
  past_ignores n Up s t a b = two_ignore p world n head.Lt t s refl b a
  past_ignores n Down s t a b = two_ignore p world n head.Lt s t refl a b

  pub assuming_there_ignores : (n : Supply) (h : Option Term) → ((t : Term) → h ≡ Some t → TermIgnores p world n t) → (conditions : List Condition) → Ignores p world n conditions → Ignores p world n (assuming_if_there h conditions)
  assuming_there_ignores n None a conditions ignores = ignores
  assuming_there_ignores n (Some t) a conditions ignores = ignores_assuming p world n t conditions (a t refl) ignores

  -- ---- counters

  pub counter_ignores : (n : Supply) (r : Option Routine) (x : Symbol) → TermIgnores p world n (alone (item_head p r (Variable x)))
  counter_ignores n r x = variable_ignores n (item_head p r (Variable x)) refl (not_new full_supply n (item_head p r (Variable x)) (full_first n) refl)

  -- ---- renaming

  pub fresh_pairs : (heads : List Head) → list_all is_name heads ≡ true → (n m : Supply) → IsLater (renamed heads n).supply m → PairsAre p world m (renamed heads n).pairs
  fresh_pairs [] names n m later = record { each = λ h t e. absurd (nothing_there e) }
  fresh_pairs (k ∷ heads) names n m later =
      let rest = fresh_pairs heads (right_true (is_name k) _ names) (fresh_like k n).supply m later in
      let name = left_true (is_name k) _ names in
      let y = (fresh_like k n).head in
      let taken = not_new (fresh_like k n).supply m y (later_after (fresh_like k n).supply (renamed heads (fresh_like k n).supply).supply m (renamed_later heads (fresh_like k n).supply) later) (fresh_taken k n name) in
      record { each = λ h t e. by_test h (head_eq h k) t e (variable_ignores m y (fresh_is_variable k n name) taken) (rest.each h t) }
    where
      by_test : (h : Head) (b : Bool) (t : Term) → cond b (Some (alone (fresh_like k n).head)) (replacing (renamed heads (fresh_like k n).supply).pairs h) ≡ Some t → TermIgnores p world m (alone (fresh_like k n).head) → (replacing (renamed heads (fresh_like k n).supply).pairs h ≡ Some t → TermIgnores p world m t) → TermIgnores p world m t
      by_test h true t e here later = subst (TermIgnores p world m) (some_is e) here
      by_test h false t e here later = later e

-- ---- statements

pub calls-append : (here : Option RoutineId) (xs ys : List Called) (conditions : List Condition) → before_calls here (xs ++ ys) conditions ≡ before_calls here xs (before_calls here ys conditions)
calls-append here [] ys conditions = refl
calls-append here (c ∷ xs) ys conditions =
    ap (λ rest. wanted_entry here c.line c.needs ++ assuming_if_there c.gives rest) (calls-append here xs ys conditions)

module _ (p : Program) (world : Meaning) (allowed : Allowed) (here : Here) (passing : Passing) (right : PartsAreRight p world allowed here passing) where
  pub annotation_there : (n : Supply) (a : Option Annotation) (t : Term) → annotation_term p here.routine a ≡ Some t → TermIgnores p world n t
  annotation_there n None t e = absurd (nothing_there e)
  annotation_there n (Some a) t e = subst (TermIgnores p world n) (some_is e) (annotation_ignores p world n (routine_in p here.routine) a)

  pub substituted_there : (n : Supply) (pairs : List (Head × Term)) → PairsAre p world n pairs → (a : Option Annotation) (t : Term) → option_map (substitute (replacing pairs)) (annotation_term p here.routine a) ≡ Some t → TermIgnores p world n t
  substituted_there n pairs are None t e = absurd (nothing_there e)
  substituted_there n pairs are (Some a) t e =
      subst (TermIgnores p world n) (some_is e) (substituted_ignores p world n pairs are (body_term p (routine_in p here.routine) a) (annotation_ignores p world n (routine_in p here.routine) a))

  pub standing_ignores : (n : Supply) (pairs : List (Head × Term)) → PairsAre p world n pairs → (h : Head) → is_variable h ≡ true → is_new n h ≡ false → TermIgnores p world n (standing_for pairs h)
  standing_ignores n pairs are h variable old = by_term (replacing pairs h) refl
    where
      by_term : (o : Option Term) → replacing pairs h ≡ o → TermIgnores p world n (unwrap_or o (alone h))
      by_term None e = variable_ignores p world n h variable old
      by_term (Some t) e = are.each h t e

  -- the list of a loop behind its INVARIANT: renamed, under the INVARIANT
  loop_ignores : (s : Statement) (f : Option Annotation) (n : Supply) (k : Kind) (conditions : List Condition) → Ignores p world n conditions
      → Ignores p world (renamed (changed_heads p (routine_in p here.routine) s) n).supply (wanted_if_there p here.routine k f ++ replaced (renamed (changed_heads p (routine_in p here.routine) s) n).pairs (assuming_if_there (annotation_term p here.routine f) conditions))
  loop_ignores s f n k conditions ignores =
      let heads = changed_heads p (routine_in p here.routine) s in
      let m = (renamed heads n).supply in
      let later = renamed_later heads n in
      ignores_both p world m _ _ (wanted_there_ignores p world m here.routine k f)
      (replaced_ignores p world m (renamed heads n).pairs (fresh_pairs p world heads (changed_are_names p (routine_in p here.routine) s) n m (λ h new. new))
      (assuming_if_there (annotation_term p here.routine f) conditions)
      (assuming_there_ignores p world m (annotation_term p here.routine f) (annotation_there m f) conditions (ignores_later p world n m conditions later ignores)))

  -- the same for the arms of a CASE
  pub record ArmsAre (t : Term) (arms : Arms) (q : Made) : Type 0 where
    pub ignores : Ignores p world (before_arms p here.routine t arms q).supply (before_arms p here.routine t arms q).conditions
    pub later : IsLater q.supply (before_arms p here.routine t arms q).supply

  mutual
    pub supplied : (s : Statement) → parts_pass passing s ≡ true → (q : Made) → Ignores p world q.supply q.conditions → IsSupplied p world here s q
    supplied Empty passes q ignores = record { ignores = ignores; later = λ h new. new }
    supplied (Assign d e) passes q ignores = right.leaf_supplied (Assign d e) passes q ignores
    supplied (Perform c) passes q ignores = right.leaf_supplied (Perform c) passes q ignores
    supplied (New line d t) passes q ignores = right.leaf_supplied (New line d t) passes q ignores
    supplied (Sequence a b) passes q ignores =
        let second = supplied b (right_true (parts_pass passing a) _ passes) q ignores in
        let first = supplied a (left_true (parts_pass passing a) _ passes) (before p here.routine b q) second.ignores in
        record {
          ignores = first.ignores;
          later = later_after q.supply (before p here.routine b q).supply (before p here.routine (Sequence a b) q).supply second.later first.later;
        }
    supplied (If line e a b) passes q ignores =
        let r = routine_in p here.routine in
        let v = valued p r q.supply e in
        let test = right.test_supplied e (left_true (passing.test e) _ passes) q.supply in
        let parts = right_true (passing.test e) _ passes in
        let first = supplied a (left_true (parts_pass passing a) _ parts) (record { conditions = q.conditions; supply = v.supply }) (ignores_later p world q.supply v.supply q.conditions test.later ignores) in
        let one = before p here.routine a (record { conditions = q.conditions; supply = v.supply }) in
        let at_one = later_after q.supply v.supply one.supply test.later first.later in
        let second = supplied b (right_true (parts_pass passing a) _ parts) (record { conditions = q.conditions; supply = one.supply }) (ignores_later p world q.supply one.supply q.conditions at_one ignores) in
        let two = before p here.routine b (record { conditions = q.conditions; supply = one.supply }) in
        let at_two = later_after v.supply one.supply two.supply first.later second.later in
        let term = later_term p world v.supply two.supply v.term at_two test.term in
        record {
          ignores = test.calls two.supply at_two (all_assuming v.term one.conditions ++ all_assuming (negated v.term) two.conditions)
              (ignores_both p world two.supply _ _
              (ignores_assuming p world two.supply v.term one.conditions term (ignores_later p world one.supply two.supply one.conditions second.later first.ignores))
              (ignores_assuming p world two.supply (negated v.term) two.conditions (negated_ignores p world two.supply v.term term) second.ignores));
          later = later_after q.supply one.supply two.supply at_one second.later;
        }
    supplied (Case line e arms) passes q ignores =
        let r = routine_in p here.routine in
        let v = valued p r q.supply e in
        let test = right.test_supplied e (left_true (passing.test e) _ passes) q.supply in
        let made = before_arms p here.routine v.term arms (record { conditions = q.conditions; supply = v.supply }) in
        let chosen = arms_supplied v.term arms (right_true (passing.number e) _ (right_true (passing.test e) _ passes)) (record { conditions = q.conditions; supply = v.supply }) test.term (ignores_later p world q.supply v.supply q.conditions test.later ignores) in
        record {
          ignores = test.calls made.supply chosen.later made.conditions chosen.ignores;
          later = later_after q.supply v.supply made.supply test.later chosen.later;
        }
    supplied (While line f e s) passes q ignores =
        let r = routine_in p here.routine in
        let v = valued p r q.supply e in
        let test = right.test_supplied e (left_true (passing.test e) _ passes) q.supply in
        let again : Made = record { conditions = wanted_if_there p here.routine kind.Preserved f; supply = v.supply } in
        let body = supplied s (right_true (passing.test e) _ passes) again (wanted_there_ignores p world v.supply here.routine kind.Preserved f) in
        let turn = before p here.routine s again in
        let term = later_term p world v.supply turn.supply v.term body.later test.term in
        let uses = all_assuming v.term turn.conditions ++ all_assuming (negated v.term) q.conditions in
        record {
          ignores = loop_ignores (While line f e s) f turn.supply kind.Invariant (before_calls here.routine v.calls uses)
              (test.calls turn.supply body.later uses
              (ignores_both p world turn.supply _ _
              (ignores_assuming p world turn.supply v.term turn.conditions term body.ignores)
              (ignores_assuming p world turn.supply (negated v.term) q.conditions (negated_ignores p world turn.supply v.term term) (ignores_later p world q.supply turn.supply q.conditions (later_after q.supply v.supply turn.supply test.later body.later) ignores))));
          later = later_after q.supply turn.supply _ (later_after q.supply v.supply turn.supply test.later body.later) (renamed_later (changed_heads p r (While line f e s)) turn.supply);
        }
    supplied (Repeat line f s e) passes q ignores =
        let r = routine_in p here.routine in
        let v = valued p r q.supply e in
        let test = right.test_supplied e (left_true (passing.test e) _ passes) q.supply in
        let uses = all_assuming (negated v.term) (wanted_if_there p here.routine kind.Preserved f) ++ all_assuming v.term q.conditions in
        let after : Made = record { conditions = before_calls here.routine v.calls uses; supply = v.supply } in
        let uses_ignore = ignores_both p world v.supply _ _
        (ignores_assuming p world v.supply (negated v.term) (wanted_if_there p here.routine kind.Preserved f) (negated_ignores p world v.supply v.term test.term) (wanted_there_ignores p world v.supply here.routine kind.Preserved f))
        (ignores_assuming p world v.supply v.term q.conditions test.term (ignores_later p world q.supply v.supply q.conditions test.later ignores)) in
        let body = supplied s (right_true (passing.test e) _ passes) after (test.calls v.supply (λ h new. new) uses uses_ignore) in
        let turn = before p here.routine s after in
        record {
          ignores = loop_ignores (Repeat line f s e) f turn.supply kind.Invariant turn.conditions body.ignores;
          later = later_after q.supply turn.supply _ (later_after q.supply v.supply turn.supply test.later body.later) (renamed_later (changed_heads p r (Repeat line f s e)) turn.supply);
        }
    supplied (For line f count s) passes q ignores =
        let r = routine_in p here.routine in
        let x = item_head p (routine_in p here.routine) (Variable count.variable) in
        let first = valued p r q.supply count.first in
        let end = valued p r first.supply count.last in
        let rest = right_true (passing.count count s) _ passes in
        let one = right.test_supplied count.first (left_true (passing.test count.first) _ rest) q.supply in
        let more = right_true (passing.test count.first) _ rest in
        let two = right.test_supplied count.last (left_true (passing.test count.last) _ more) first.supply in
        let next = next_term count.direction (alone x) in
        let again : Made = record { conditions = wanted_with p here.routine kind.Preserved x next f; supply = end.supply } in
        let body = supplied s (right_true (passing.number count.first) _ (right_true (passing.test count.last) _ more)) again (wanted_with_ignores p world end.supply here.routine kind.Preserved x next (next_ignores p world end.supply count.direction (alone x) (variable_ignores p world end.supply x refl (not_new full_supply end.supply x (full_first end.supply) refl))) f) in
        let turn = before p here.routine s again in
        let heads = changed_heads p r (For line f count s) in
        let fresh = renamed heads turn.supply in
        let last = fresh_like x fresh.supply in
        let m = last.supply in
        let after_turn = later_after turn.supply fresh.supply m (renamed_later heads turn.supply) (fresh_later x fresh.supply) in
        let after_end = later_after end.supply turn.supply m body.later after_turn in
        let after_first = later_after first.supply end.supply m two.later after_end in
        let after_start = later_after q.supply first.supply m one.later after_first in
        let pairs = fresh_pairs p world heads (changed_are_names p r (For line f count s)) turn.supply m (fresh_later x fresh.supply) in
        let end_term = later_term p world end.supply m end.term after_end two.term in
        let first_term = later_term p world first.supply m first.term after_first one.term in
        let now = standing_ignores m fresh.pairs pairs x refl (not_new full_supply m x (full_first m) refl) in
        let invariant = option_map (substitute (replacing fresh.pairs)) (annotation_term p here.routine f) in
        let last_pair = one_pair p world m x (alone last.head) (variable_ignores p world m last.head refl (fresh_taken x fresh.supply refl)) in
        let lists = ignores_both p world m _ _ (wanted_with_ignores p world m here.routine kind.Invariant x first.term first_term f)
        (ignores_both p world m _ _
        (assuming_there_ignores p world m invariant (substituted_there m fresh.pairs pairs f) _
        (ignores_assuming p world m (within_term count.direction (standing_for fresh.pairs x) end.term) _ (within_ignores p world m count.direction (standing_for fresh.pairs x) end.term now end_term)
        (replaced_ignores p world m fresh.pairs pairs turn.conditions (ignores_later p world turn.supply m turn.conditions after_turn body.ignores))))
        (assuming_there_ignores p world m invariant (substituted_there m fresh.pairs pairs f) _
        (ignores_assuming p world m (past_term count.direction (standing_for fresh.pairs x) end.term) _ (past_ignores p world m count.direction (standing_for fresh.pairs x) end.term now end_term)
        (replaced_ignores p world m fresh.pairs pairs _ (replaced_ignores p world m ((x, alone last.head) ∷ []) last_pair q.conditions (ignores_later p world q.supply m q.conditions after_start ignores)))))) in
        record {
          ignores = subst (Ignores p world m) (sym (calls-append here.routine first.calls end.calls _)) (one.calls m after_first _ (two.calls m after_end _ lists));
          later = after_start;
        }
    supplied (Assert a) passes q ignores =
        let t = body_term p (routine_in p here.routine) a in
        let plain = annotation_ignores p world q.supply (routine_in p here.routine) a in
        record {
          ignores = ignores_both p world q.supply (wanted here.routine kind.Assert a.line t ∷ []) (all_assuming t q.conditions) (wanted_ignores p world q.supply here.routine kind.Assert a.line t plain) (ignores_assuming p world q.supply t q.conditions plain ignores);
          later = λ h new. new;
        }

    arms_supplied : (t : Term) (arms : Arms) → arms_pass passing arms ≡ true → (q : Made) → TermIgnores p world q.supply t → Ignores p world q.supply q.conditions → ArmsAre t arms q
    arms_supplied t no_arms passes q term ignores = record { ignores = ignores_none p world q.supply; later = λ h new. new }
    arms_supplied t (arm labels s others) passes q term ignores =
        let first = supplied s (left_true (parts_pass passing s) _ passes) q ignores in
        let one = before p here.routine s q in
        let rest : Made = record { conditions = q.conditions; supply = one.supply } in
        let second = arms_supplied t others (right_true (parts_pass passing s) _ passes) rest (later_term p world q.supply one.supply t first.later term) (ignores_later p world q.supply one.supply q.conditions first.later ignores) in
        let two = before_arms p here.routine t others rest in
        record {
          ignores = ignores_both p world two.supply _ _
              (ignores_assuming p world two.supply (is_label t labels) one.conditions (label_ignores p world two.supply t (later_term p world q.supply two.supply t (later_after q.supply one.supply two.supply first.later second.later) term) labels) (ignores_later p world one.supply two.supply one.conditions second.later first.ignores))
              second.ignores;
          later = later_after q.supply one.supply two.supply first.later second.later;
        }
