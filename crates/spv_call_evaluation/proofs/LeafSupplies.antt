-- The lists before assignments, NEW and calls ignore what is left of the supply.
use Rattle.std.proofs.Common.{◌≡◌, ℕ, true, List, [], ◌∷◌, refl, Option, Some, None}
use Rattle.std.proofs.lemmas.Bool.{false≢true}
use Rattle.spv_logic.specs.declared.types.TypeId.{TypeId}
use Rattle.spv_logic.specs.declared.types.Sort.TheVariants as sort
use Rattle.spv_logic.specs.declared.operators.Head.{Head}
use Rattle.spv_logic.specs.declared.operators.Head.TheVariants as head
use Rattle.spv_logic.specs.Conditions.{Meaning}
use Rattle.spv_program.specs.declared.types.Item.{Item}
use Rattle.spv_program.specs.declared.types.Item.TheVariants.{Variable, Class}
use Rattle.spv_program.specs.Types.{sort_of}
use Rattle.spv_program.specs.Expressions.{Expression, Designator, Call, call}
use Rattle.spv_program.specs.Statements.{Statement, Assign, Perform, New}
use Rattle.spv_program.specs.Programs.{Formal, Routine, Program, routine_at, routine_in}
use Rattle.spv_program.specs.Changes.{var_items}
use Rattle.spv_program.specs.Supplies.{Supply, fresh_variable, fresh_like}
use Rattle.spv_program.specs.Places.{whole_with}
use Rattle.spv_program.specs.Terms.{alone, binary, ternary, item_head}
use Rattle.spv_program.specs.Calls.{Argument, Given, AtPlace, formal_head, entry_at_call, exit_at_call}
use Rattle.spv_program.specs.ExpressionTerms.{valued, placed, argued}
use Rattle.spv_meaning.specs.Levels.{Here}
use Rattle.spv_meaning.specs.Before.{Made, Changed, first_name, title_of, before_calls, before_entering, changed_items, changed_places}
use Rattle.spv_rule_soundness.specs.statements.Truth.{IsLater, Ignores, TermIgnores}
use Rattle.spv_rule_soundness.specs.statements.Runs.{IsSupplied}
use Rattle.spv_rule_soundness.proofs.statements.Lists.{not_new, later_after, ignores_later, ignores_both, ignores_assuming}
use Rattle.spv_rule_soundness.proofs.statements.Renaming.{is_name, fresh_later, fresh_taken, fresh_is_variable}
use Rattle.spv_rule_soundness.proofs.statements.Annotations.{two_ignore, negated_ignores, one_pair, replaced_ignores}
use Rattle.spv_rule_soundness.proofs.statements.Supplied.{variable_ignores, assuming_there_ignores}
use Rattle.spv_call_evaluation.specs.Supplied.{ArgumentsIgnore}
use Rattle.spv_call_evaluation.specs.Laws.{is_leaf}
use Rattle.spv_call_evaluation.proofs.Supplies.{old_variable, three_ignore, later_arguments, PairsIgnore, as_pairs, entry_ignores, exit_ignores, wanted_entry_ignores, supplied_then, test_supplied, place_supplied, argued_supplied}

item_named : (p : Program) (r : Option Routine) (i : Item) → is_name (item_head p r i) ≡ true
item_named p r (Variable x) = refl
item_named p r (Class t) = refl

module _ (p : Program) (world : Meaning) where
  -- a fresh variable that was taken
  taken_ignores : (k : Head) → is_name k ≡ true → (n m : Supply) → IsLater (fresh_like k n).supply m → TermIgnores p world m (alone (fresh_like k n).head)
  taken_ignores k name n m later =
      variable_ignores p world m (fresh_like k n).head (fresh_is_variable k n name) (not_new (fresh_like k n).supply m (fresh_like k n).head later (fresh_taken k n name))

  -- ---- what a call changes

  -- the fresh variables of what a call changes ignore what is left behind them
  record ChangesIgnore (n : Supply) (c : Changed) : Type 0 where
    later : IsLater n c.supply
    in_exit : (k : Supply) → IsLater c.supply k → PairsIgnore p world k c.in_exit
    after : (k : Supply) → IsLater c.supply k → PairsIgnore p world k c.after

  items_changed : (r : Routine) (items : List Item) (n : Supply) → ChangesIgnore n (changed_items p r items n)
  items_changed r [] n = record { later = λ h new. new; in_exit = λ k later. tt; after = λ k later. tt }
  items_changed r (item ∷ items) n =
      let h = item_head p (Some r) item in
      let m = (fresh_like h n).supply in
      let rest = items_changed r items m in
      let y = λ (k : Supply) (later : IsLater (changed_items p r items m).supply k). taken_ignores h (item_named p (Some r) item) n k (later_after m (changed_items p r items m).supply k rest.later later) in
      record {
        later = later_after n m (changed_items p r items m).supply (fresh_later h n) rest.later;
        in_exit = λ k later. (y k later, rest.in_exit k later);
        after = λ k later. (y k later, rest.after k later);
      }

  places_changed : (r : Routine) (formals : List Formal) (arguments : List Argument) (n : Supply) → ArgumentsIgnore p world n arguments → ChangesIgnore n (changed_places p r formals arguments n)
  places_changed r [] arguments n all = items_changed r (var_items r.globals) n
  places_changed r (f ∷ formals) [] n all = items_changed r (var_items r.globals) n
  places_changed r (f ∷ formals) (Given t ∷ arguments) n all = places_changed r formals arguments n all.1
  places_changed r (f ∷ formals) (AtPlace d ∷ arguments) n all =
      let h = formal_head p f in
      let m = (fresh_like h n).supply in
      let rest = places_changed r formals arguments m (later_arguments p world n m (fresh_later h n) arguments all.1) in
      let end = (changed_places p r formals arguments m).supply in
      let y = λ (k : Supply) (later : IsLater end k). taken_ignores h refl n k (later_after m end k rest.later later) in
      record {
        later = later_after n m end (fresh_later h n) rest.later;
        in_exit = λ k later. (y k later, rest.in_exit k later);
        after = λ k later. (all.0.whole k (later_after n m k (fresh_later h n) (later_after m end k rest.later later)) (alone (fresh_like h n).head) (y k later), rest.after k later);
      }

  module _ (here : Here) where
    abbrev r : Option Routine
    r = routine_in p here.routine

    assign_supplied : (d : Designator) (e : Expression) (q : Made) → Ignores p world q.supply q.conditions → IsSupplied p world here (Assign d e) q
    assign_supplied d e q ignores =
        let place = placed p r q.supply d in
        let v = valued p r place.supply e in
        let one = place_supplied p world here d q.supply in
        let two = test_supplied p world here e place.supply in
        let both = supplied_then p world here q.supply place.supply v.supply place.calls v.calls one.supplied (record { later = two.later; in_front = two.calls }) in
        let whole = whole_with place.target v.term in
        record {
          later = both.later;
          ignores = both.in_front v.supply (λ h new. new) _
              (replaced_ignores p world v.supply ((place.target.root, whole) ∷ []) (one_pair p world v.supply place.target.root whole (one.target.whole v.supply two.later v.term two.term)) q.conditions (ignores_later p world q.supply v.supply q.conditions both.later ignores));
        }

    new_supplied : (line : ℕ) (d : Designator) (t : TypeId) (q : Made) → Ignores p world q.supply q.conditions → IsSupplied p world here (New line d t) q
    new_supplied line d t q ignores =
        let place = placed p r q.supply d in
        let one = place_supplied p world here d q.supply in
        let pointer = fresh_variable (first_name d) (sort.Ptr t) place.supply in
        let content = fresh_variable (title_of p t) (sort_of p.forms t) pointer.supply in
        let m = content.supply in
        let to_content = fresh_later (head.Var (title_of p t) (sort_of p.forms t) 0) pointer.supply in
        let from_place = later_after place.supply pointer.supply m (fresh_later (head.Var (first_name d) (sort.Ptr t) 0) place.supply) to_content in
        let a = taken_ignores (head.Var (first_name d) (sort.Ptr t) 0) refl place.supply m to_content in
        let b = taken_ignores (head.Var (title_of p t) (sort_of p.forms t) 0) refl pointer.supply m (λ h new. new) in
        let class = old_variable p world m (head.ClassVar t 0) refl refl in
        let from_start = later_after q.supply place.supply m one.supplied.later from_place in
        let whole = whole_with place.target (alone pointer.head) in
        let extended = ternary head.Extend (alone (head.ClassVar t 0)) (alone pointer.head) (alone content.head) in
        record {
          later = from_start;
          ignores = one.supplied.in_front m from_place _
              (ignores_assuming p world m _ _ (negated_ignores p world m (binary head.Eq (alone pointer.head) (alone (head.Nil t))) (two_ignore p world m head.Eq (alone pointer.head) (alone (head.Nil t)) refl a (record { alike = λ v w same. refl })))
              (ignores_assuming p world m _ _ (negated_ignores p world m (binary head.PointerTo (alone pointer.head) (alone (head.ClassVar t 0))) (two_ignore p world m head.PointerTo (alone pointer.head) (alone (head.ClassVar t 0)) refl a class))
              (replaced_ignores p world m ((head.ClassVar t 0, extended) ∷ []) (one_pair p world m (head.ClassVar t 0) extended (three_ignore p world m head.Extend (alone (head.ClassVar t 0)) (alone pointer.head) (alone content.head) refl class a b)) _
              (replaced_ignores p world m ((place.target.root, whole) ∷ []) (one_pair p world m place.target.root whole (one.target.whole m from_place (alone pointer.head) a)) q.conditions (ignores_later p world q.supply m q.conditions from_start ignores)))));
        }

    perform_supplied : (c : Call) (q : Made) → Ignores p world q.supply q.conditions → IsSupplied p world here (Perform c) q
    perform_supplied (call id line given) q ignores = let both = entered (routine_at p id) in record { later = both.0; ignores = both.1 }
      where
        By : Option Routine → Type 0
        By o =
            IsLater q.supply (before_entering p here.routine line o (argued p r q.supply given) q.conditions).supply
            × Ignores p world (before_entering p here.routine line o (argued p r q.supply given) q.conditions).supply (before_calls here.routine (argued p r q.supply given).calls (before_entering p here.routine line o (argued p r q.supply given) q.conditions).conditions)

        entered : (o : Option Routine) → By o
        entered None =
            let all = argued_supplied p world here given q.supply in
            (all.supplied.later, all.supplied.in_front (argued p r q.supply given).supply (λ h new. new) q.conditions (ignores_later p world q.supply (argued p r q.supply given).supply q.conditions all.supplied.later ignores))
        entered (Some k) =
            let given_terms = argued p r q.supply given in
            let all = argued_supplied p world here given q.supply in
            let fresh = changed_places p k k.formals given_terms.arguments given_terms.supply in
            let changes = places_changed k k.formals given_terms.arguments given_terms.supply all.arguments in
            let m = fresh.supply in
            let at = later_arguments p world given_terms.supply m changes.later given_terms.arguments all.arguments in
            let from_start = later_after q.supply given_terms.supply m all.supplied.later changes.later in (
              from_start,
              all.supplied.in_front m changes.later _
                  (ignores_both p world m _ _ (wanted_entry_ignores p world m here line (entry_at_call p k given_terms.arguments) (entry_ignores p world m k given_terms.arguments at))
                  (assuming_there_ignores p world m (exit_at_call p k given_terms.arguments fresh.in_exit) (exit_ignores p world m k given_terms.arguments fresh.in_exit at (changes.in_exit m (λ h new. new))) _
                  (replaced_ignores p world m fresh.after (as_pairs p world m fresh.after (changes.after m (λ h new. new))) q.conditions (ignores_later p world q.supply m q.conditions from_start ignores)))),
            )

    pub leaf_supplied : (s : Statement) → is_leaf s ≡ true → (q : Made) → Ignores p world q.supply q.conditions → IsSupplied p world here s q
    leaf_supplied (Assign d e) leaf q ignores = assign_supplied d e q ignores
    leaf_supplied (New line d t) leaf q ignores = new_supplied line d t q ignores
    leaf_supplied (Perform c) leaf q ignores = perform_supplied c q ignores
    leaf_supplied _ leaf q ignores = absurd (false≢true leaf)
