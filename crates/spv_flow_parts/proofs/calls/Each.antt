-- What a call changes: all VAR parameters, and all items of VAR groups.
use Rattle.std.proofs.Common.{◌≡◌, ℕ, zero, suc, Bool, true, false, cond, filter, List, [], ◌∷◌, ◌++◌, map, length, slice_get, Result, Ok, Err, IsErrAnd, Some, refl, sym, ap, subst, ◌∙◌}
use Rattle.std.specs.Prelude.{⊤}
use Rattle.std.specs.List.{list_all}
use Rattle.std.specs.Cmp.Derive.{both_true}
use Rattle.spv_logic.proofs.list.Tests.{left_true, right_true}
use Rattle.spv_logic.specs.declared.conditions.RoutineId.{RoutineId}
use Rattle.spv_logic.specs.declared.conditions.TermId.{TermId}
use Rattle.spv_logic.specs.declared.operators.Head.{Head}
use Rattle.spv_logic.specs.Terms.{Term}
use Rattle.spv_logic.specs.declared.types.Shape.{Shape}
use Rattle.spv_logic.specs.Sorts.{head_in_range, sort_in_range, term_sort}
use Rattle.spv_term.specs.Arena.{Arena, Extends, tree}
use Rattle.spv_term.specs.substitution.Images.{ArePairs}
use Rattle.spv_program.specs.declared.types.Item.{Item}
use Rattle.spv_program.specs.declared.types.Item.TheVariants.{Variable, Class}
use Rattle.spv_program.specs.Types.{forms_ok, sort_of, type_exists}
use Rattle.spv_program.specs.Programs.{Formal, GlobalItem, Routine, Program, shapes, routine_at, routine_in}
use Rattle.spv_program.specs.Changes.{var_items}
use Rattle.spv_program.specs.Calls as argument
use Rattle.spv_program.specs.Supplies.{Supply}
use Rattle.spv_program.specs.Terms.{item_head}
use Rattle.spv_program.specs.Typing.{declarations_ok, heading_ok, item_exists, result_ok, types_exist, routine_ok}
use Rattle.spv_expression_terms.specs.makeable_terms.Laws.{heading_ok_in}
use Rattle.spv_expression_terms.proofs.makeable_terms.Ranges.{shape_there, sort_there}
use Rattle.spv_expression_terms.proofs.makeable_terms.Scopes.{variable_there}
use Rattle.spv_program.specs.declared.typed.programs.Routine.{Routine as RoutineText}
use Rattle.spv_program.specs.typed.ProgramViews.{routine_of}
use Rattle.spv_program.specs.Lists.{item_at}
use Rattle.spv_program.specs.Scopes.{Scope}
use Rattle.spv_expression_terms.specs.term_walk.Laws.{HasNamesOf, variable_scope}
use Rattle.spv_program.proofs.SortFacts.{nothing_there, some_is}
use Rattle.spv_meaning.specs.Before.{Changed, changed_items, changed_places}
use Rattle.spv_assign.specs.supply.Numbers.{AreThere}
use Rattle.spv_assign.specs.Conditions.{pairs_of}
use Rattle.spv_assign.specs.declared.creation_trace.faults.GenFault.{GenFault}
use Rattle.spv_assign.specs.creation_trace.Events.{Stops}
use Rattle.spv_assign.specs.creation_trace.StatementEvents.{pair_terms, several}
use Rattle.spv_flow_parts.specs.declared.calls.entering.Changed as code_changed
use Rattle.spv_flow_parts.specs.declared.calls.passed.Argument as code_argument
use Rattle.spv_flow_parts.specs.declared.calls.passed.Argument.TheVariants as code
use Rattle.spv_flow_parts.specs.calls.Arguments.{AddsChanged, AreAfter, AreArguments, AreChanged, FitFormals, FitHeads, IsArgument, IsAtCall, argument_in, changed_by_places}
use Rattle.spv_flow_parts.proofs.Steps.{IsTerm-Extends}
use Rattle.spv_flow_parts.proofs.body_tables.Headings.{heading_there}
use Rattle.spv_flow_parts.proofs.calls.Wholes.{target_stays, target_there}
use Rattle.spv_flow_parts.proofs.calls.Changing.{AddedSoFar, added_first, added_stops, added_next, added_all, first_place, first_item, changed_then, none_changed, then_none, adds_none, places_then_items}

-- ---- the routine of a well typed program

module _ (p : Program) (a : Arena) (number : RoutineId) (r : Routine) (xs : List argument.Argument) (h : IsAtCall p a number r xs) where
  pub declared : declarations_ok p ≡ true
  declared = left_true (declarations_ok p) _ h.typed

  pub heading : heading_ok p r ≡ true
  heading = subst (λ o. heading_ok_in p o ≡ true) h.routine (heading_there p (Some number) (left_true (list_all (routine_ok p) p.routines) _ (right_true (declarations_ok p) _ h.typed)))

  pub forms_are_ok : forms_ok p.forms ≡ true
  forms_are_ok = left_true (forms_ok p.forms) _ declared

  pub formals_exist : list_all (λ f. type_exists p.forms f.of) r.formals ≡ true
  formals_exist = left_true (list_all (λ f. type_exists p.forms f.of) r.formals) _ heading

  globals_exist : list_all (λ g. item_exists p g.item) r.globals ≡ true
  globals_exist =
      let behind = right_true (list_all (λ f. type_exists p.forms f.of) r.formals) _ heading in
      let results = right_true (result_ok p r.result) _ behind in
      left_true (list_all (λ g. item_exists p g.item) r.globals) _ (right_true (types_exist p r.locals) _ results)

  item_in_range : (i : Item) → item_exists p i ≡ true → head_in_range (shapes p) (item_head p (Some r) i) ≡ true
  item_in_range (Variable x) e = variable_there p (Some r) x declared heading
  item_in_range (Class t) e = shape_there p.forms t e

  in_range : (globals : List GlobalItem) → list_all (λ g. item_exists p g.item) globals ≡ true → list_all (λ g. head_in_range (shapes p) (item_head p (Some r) g.item)) globals ≡ true
  in_range [] e = refl
  in_range (g ∷ globals) e =
      both_true (item_in_range g.item (left_true (item_exists p g.item) (list_all (λ g. item_exists p g.item) globals) e))
      (in_range globals (right_true (item_exists p g.item) (list_all (λ g. item_exists p g.item) globals) e))

  pub items_in_range : list_all (λ g. head_in_range (shapes p) (item_head p (Some r) g.item)) r.globals ≡ true
  items_in_range = in_range r.globals globals_exist

-- ---- arguments

module _ {a b : Arena} (more : Extends a b) where
  IsArgument-Extends : (t : code_argument.Argument) (x : argument.Argument) → IsArgument a t x → IsArgument b t x
  IsArgument-Extends (code.Given t) (argument.Given x) h = IsTerm-Extends t x more h
  IsArgument-Extends (code.AtPlace d) (argument.AtPlace e) h = (target_there more d h.0, target_stays more d h.0 ∙ h.1)
  IsArgument-Extends (code.Given t) (argument.AtPlace e) h = absurd h
  IsArgument-Extends (code.AtPlace d) (argument.Given x) h = absurd h

  pub AreArguments-Extends : (ts : List code_argument.Argument) (xs : List argument.Argument) → AreArguments a ts xs → AreArguments b ts xs
  AreArguments-Extends [] [] h = tt
  AreArguments-Extends (t ∷ ts) (x ∷ xs) h = (IsArgument-Extends t x h.0, AreArguments-Extends ts xs h.1)
  AreArguments-Extends [] (x ∷ xs) h = absurd h
  AreArguments-Extends (t ∷ ts) [] h = absurd h

pub argument_is : (a : Arena) (t : code_argument.Argument) (x : argument.Argument) → IsArgument a t x → argument_in a t ≡ x
argument_is a (code.Given t) (argument.Given x) h = ap argument.Given h.is_tree
argument_is a (code.AtPlace d) (argument.AtPlace e) h = ap argument.AtPlace h.1
argument_is a (code.Given t) (argument.AtPlace e) h = absurd h
argument_is a (code.AtPlace d) (argument.Given x) h = absurd h

-- there is an argument for each parameter
pub as_many : (p : Program) (a : Arena) (formals : List Formal) (ts : List code_argument.Argument) (xs : List argument.Argument) → FitFormals p formals xs → AreArguments a ts xs → length ts ≡ length formals
as_many p a [] [] [] fit are = refl
as_many p a (f ∷ formals) (t ∷ ts) (x ∷ xs) fit are = ap suc (as_many p a formals ts xs fit.1 are.1)
as_many p a [] (t ∷ ts) [] fit are = absurd are
as_many p a [] ts (x ∷ xs) fit are = absurd fit
as_many p a (f ∷ formals) ts [] fit are = absurd fit
as_many p a (f ∷ formals) [] (x ∷ xs) fit are = absurd are

-- ---- parameters

pub record PlacesSoFar (p : Program) (start a : Arena) (n : Supply) (old now : code_changed.Changed) (whole : Changed) (formals : List Formal) (given : List code_argument.Argument) : Type 0 where
  pub left : List argument.Argument
  pub added : AddedSoFar start a n old now (changed_by_places p formals left n) whole
  pub given_are : AreArguments a given left
  pub fit : FitFormals p formals left
  pub forms : forms_ok p.forms ≡ true
  pub exist : list_all (λ f. type_exists p.forms f.of) formals ≡ true
  pub shapes_are : a.shapes ≡ shapes p
  pub decls_are : a.decls ≡ p.symbols

pub places_begin : (p : Program) (a : Arena) (number : RoutineId) (r : Routine) (xs : List argument.Argument) (n : Supply) (c : code_changed.Changed) (formals : List Formal) (given : List code_argument.Argument) → IsAtCall p a number r xs → formals ≡ r.formals → AreArguments a given xs → AreThere a n
    → PlacesSoFar p a a n c c (changed_by_places p r.formals xs n) formals given
places_begin p a number r xs n c formals given h same are there =
    subst (λ (fs : List Formal). PlacesSoFar p a a n c c (changed_by_places p r.formals xs n) fs given) (sym same) (record {
      left = xs;
      added = added_first a n c (changed_by_places p r.formals xs n) there;
      given_are = are;
      fit = h.fit;
      forms = forms_are_ok p a number r xs h;
      exist = formals_exist p a number r xs h;
      shapes_are = h.shapes_are;
      decls_are = h.decls_are;
    })

module _ (p : Program) (start a : Arena) (n : Supply) (old now : code_changed.Changed) (whole : Changed) (f : Formal) (formals : List Formal) (t : code_argument.Argument) (given : List code_argument.Argument) (h : PlacesSoFar p start a n old now whole (f ∷ formals) (t ∷ given)) where
  pub next_types : sort_in_range a.shapes (sort_of p.forms f.of) ≡ true
  next_types =
      subst (λ (s : List Shape). sort_in_range s (sort_of p.forms f.of) ≡ true) (sym h.shapes_are)
      (sort_there p.forms f.of h.forms (left_true (type_exists p.forms f.of) (list_all (λ f. type_exists p.forms f.of) formals) h.exist))

  -- the next argument
  record Next : Type 0 where
    x : argument.Argument
    xs : List argument.Argument
    added : AddedSoFar start a n old now (changed_by_places p (f ∷ formals) (x ∷ xs) n) whole
    is : IsArgument a t x
    are : AreArguments a given xs
    sorts : term_sort (shapes p) p.symbols (argument.present_argument x) ≡ Some (sort_of p.forms f.of)
    fit : FitFormals p formals xs

  next : Next
  next = by h.left h.added h.given_are h.fit
    where
      by : (left : List argument.Argument) → AddedSoFar start a n old now (changed_by_places p (f ∷ formals) left n) whole → AreArguments a (t ∷ given) left → FitFormals p (f ∷ formals) left → Next
      by [] added are fit = absurd are
      by (x ∷ xs) added are fit = record { x = x; xs = xs; added = added; is = are.0; are = are.1; sorts = fit.0; fit = fit.1 }

  same : argument_in a t ≡ next.x
  same = argument_is a t next.x next.is

  pub next_given : IsArgument a t (argument_in a t)
  next_given = subst (λ (x : argument.Argument). IsArgument a t x) (sym same) next.is

  pub next_sorts : term_sort a.shapes a.decls (argument.present_argument (argument_in a t)) ≡ Some (sort_of p.forms f.of)
  next_sorts = (let shapes = h.shapes_are in let decls = h.decls_are in let e = same in λ i. term_sort (shapes i) (decls i) (argument.present_argument (e i))) ∙ next.sorts

  abbrev one : Changed
  one = changed_by_places p (f ∷ []) (argument_in a t ∷ []) n

  in_two : AddedSoFar start a n old now (changed_then one (changed_by_places p formals next.xs one.supply)) whole
  in_two =
      subst (λ (x : argument.Argument). AddedSoFar start a n old now (changed_then (changed_by_places p (f ∷ []) (x ∷ []) n) (changed_by_places p formals next.xs (changed_by_places p (f ∷ []) (x ∷ []) n).supply)) whole) (sym same)
      (subst (λ (w : Changed). AddedSoFar start a n old now w whole) (first_place p f formals next.x next.xs n) next.added)

  module _ (b : Arena) (m : Supply) (new : code_changed.Changed) where
    pub place_stops : (r : Result ⊤ GenFault) (e : GenFault) → IsErrAnd r (λ g. g ≡ e) → AddsChanged (Err e) one a b now new m → AddsChanged r whole start b old new m
    place_stops r e is k = added_stops start a b n m old now new one (changed_by_places p formals next.xs one.supply) whole in_two r e is k

    pub place_done : AddsChanged (Ok tt) one a b now new m → PlacesSoFar p start b m old new whole formals given
    place_done k = record {
      left = next.xs;
      added =
          subst (λ (s : Supply). AddedSoFar start b m old new (changed_by_places p formals next.xs s) whole) (sym k.supply)
          (added_next start a b n m old now new one (changed_by_places p formals next.xs one.supply) whole in_two k);
      given_are = AreArguments-Extends k.grows given next.xs next.are;
      fit = next.fit;
      forms = h.forms;
      exist = right_true (type_exists p.forms f.of) (list_all (λ f. type_exists p.forms f.of) formals) h.exist;
      shapes_are = k.grows.shapes ∙ h.shapes_are;
      decls_are = k.grows.decls ∙ h.decls_are;
    }

pub places_end : (p : Program) (start a : Arena) (n : Supply) (old now : code_changed.Changed) (whole : Changed) (formals : List Formal) (given : List code_argument.Argument) → formals ≡ [] → PlacesSoFar p start a n old now whole formals given
    → AddsChanged (Ok tt) whole start a old now n
places_end p start a n old now whole formals given none h =
    added_all start a n old now whole (subst (λ (fs : List Formal). AddedSoFar start a n old now (changed_by_places p fs h.left n) whole) none h.added)

-- ---- items

pub record ItemsSoFar (p : Program) (r : Routine) (start a : Arena) (n : Supply) (old now : code_changed.Changed) (whole : Changed) (globals : List GlobalItem) : Type 0 where
  pub added : AddedSoFar start a n old now (changed_items p r (var_items globals) n) whole
  pub there : list_all (λ g. head_in_range (shapes p) (item_head p (Some r) g.item)) globals ≡ true
  pub shapes_are : a.shapes ≡ shapes p

pub items_begin : (p : Program) (a : Arena) (number : RoutineId) (r : Routine) (xs : List argument.Argument) (n : Supply) (c : code_changed.Changed) (globals : List GlobalItem) → IsAtCall p a number r xs → globals ≡ r.globals → AreThere a n
    → ItemsSoFar p r a a n c c (changed_items p r (var_items r.globals) n) globals
items_begin p a number r xs n c globals h same there =
    subst (λ (gs : List GlobalItem). ItemsSoFar p r a a n c c (changed_items p r (var_items r.globals) n) gs) (sym same) (record {
      added = added_first a n c (changed_items p r (var_items r.globals) n) there;
      there = items_in_range p a number r xs h;
      shapes_are = h.shapes_are;
    })

module _ (p : Program) (r : Routine) (start a : Arena) (n : Supply) (old now : code_changed.Changed) (whole : Changed) (g : GlobalItem) (globals : List GlobalItem) (h : ItemsSoFar p r start a n old now whole (g ∷ globals)) where
  pub item_types : head_in_range a.shapes (item_head p (Some r) g.item) ≡ true
  item_types =
      subst (λ (s : List Shape). head_in_range s (item_head p (Some r) g.item) ≡ true) (sym h.shapes_are)
      (left_true (head_in_range (shapes p) (item_head p (Some r) g.item)) (list_all (λ g. head_in_range (shapes p) (item_head p (Some r) g.item)) globals) h.there)

  abbrev one_item : Changed
  one_item = changed_items p r (var_items (g ∷ [])) n

  items_in_two : AddedSoFar start a n old now (changed_then one_item (changed_items p r (var_items globals) one_item.supply)) whole
  items_in_two = subst (λ (w : Changed). AddedSoFar start a n old now w whole) (first_item p r g globals n) h.added

  module _ (b : Arena) (m : Supply) (new : code_changed.Changed) where
    pub item_stopped : (o : Result ⊤ GenFault) (e : GenFault) → IsErrAnd o (λ f. f ≡ e) → AddsChanged (Err e) one_item a b now new m → AddsChanged o whole start b old new m
    item_stopped o e is k = added_stops start a b n m old now new one_item (changed_items p r (var_items globals) one_item.supply) whole items_in_two o e is k

    pub item_done : AddsChanged (Ok tt) one_item a b now new m → ItemsSoFar p r start b m old new whole globals
    item_done k = record {
      added =
          subst (λ (s : Supply). AddedSoFar start b m old new (changed_items p r (var_items globals) s) whole) (sym k.supply)
          (added_next start a b n m old now new one_item (changed_items p r (var_items globals) one_item.supply) whole items_in_two k);
      there = right_true (head_in_range (shapes p) (item_head p (Some r) g.item)) (list_all (λ g. head_in_range (shapes p) (item_head p (Some r) g.item)) globals) h.there;
      shapes_are = k.grows.shapes ∙ h.shapes_are;
    }

pub items_end : (p : Program) (r : Routine) (start a : Arena) (n : Supply) (old now : code_changed.Changed) (whole : Changed) (globals : List GlobalItem) → globals ≡ [] → ItemsSoFar p r start a n old now whole globals
    → AddsChanged (Ok tt) whole start a old now n
items_end p r start a n old now whole globals none h =
    added_all start a n old now whole (subst (λ (gs : List GlobalItem). AddedSoFar start a n old now (changed_items p r (var_items gs) n) whole) none h.added)

-- ---- the places, and then the items

pub IsAtCall-Extends : (p : Program) {a b : Arena} (number : RoutineId) (r : Routine) (xs : List argument.Argument) → Extends a b → IsAtCall p a number r xs → IsAtCall p b number r xs
IsAtCall-Extends p number r xs more h = record { typed = h.typed; shapes_are = more.shapes ∙ h.shapes_are; decls_are = more.decls ∙ h.decls_are; routine = h.routine; fit = h.fit }

pub routine_found : (rs : List RoutineText) (n : ℕ) (x : RoutineText) (r : Routine) → slice_get rs n ≡ Some x → item_at (map routine_of rs) n ≡ Some r → routine_of x ≡ r
routine_found [] n x r at is = absurd (nothing_there is)
routine_found (y ∷ rs) zero x r at is = ap routine_of (sym (some_is at)) ∙ some_is is
routine_found (y ∷ rs) (suc n) x r at is = routine_found rs n x r at is

module _ (p : Program) (r : Routine) (xs : List argument.Argument) (n : Supply) (a : Arena) (c0 : code_changed.Changed) where
  abbrev places : Changed
  places = changed_by_places p r.formals xs n

  abbrev all_changed : Changed
  all_changed = changed_places p r r.formals xs n

  pub places_stop : (there : AreThere a n) (e : GenFault) (b : Arena) (c1 : code_changed.Changed) (m : Supply) → AddsChanged (Err e) places a b c0 c1 m → Stops e (several (pair_terms all_changed.after)) a b
  places_stop there e b c1 m k =
      (added_stops a a b n m c0 c0 c1 places (changed_items p r (var_items r.globals) places.supply) all_changed
      (record { done = none_changed n; adds = adds_none a n c0 there; is = places_then_items p r r.formals xs n }) (Err e) e refl k).walk

  module _ (b : Arena) (c1 : code_changed.Changed) (m : Supply) (first : AddsChanged (Ok tt) places a b c0 c1 m) where
    abbrev items : Changed
    items = changed_items p r (var_items r.globals) m

    places_done : AddedSoFar a b m c0 c1 (changed_then items (none_changed items.supply)) all_changed
    places_done = record {
      done = places;
      adds = first;
      is =
          ap (changed_then places) (then_none items)
          ∙ ap (λ (s : Supply). changed_then places (changed_items p r (var_items r.globals) s)) first.supply
          ∙ places_then_items p r r.formals xs n;
    }

    pub items_stop : (e : GenFault) (c : Arena) (c2 : code_changed.Changed) (k : Supply) → AddsChanged (Err e) items b c c1 c2 k → Stops e (several (pair_terms all_changed.after)) a c
    items_stop e c c2 k h = (added_stops a b c m k c0 c1 c2 items (none_changed items.supply) all_changed places_done (Err e) e refl h).walk

    pub all_added : (c : Arena) (c2 : code_changed.Changed) (k : Supply) → AddsChanged (Ok tt) items b c c1 c2 k → AddsChanged (Ok tt) all_changed a c c0 c2 k
    all_added c c2 k h =
        added_all a c k c0 c2 all_changed
        (subst (λ (s : Supply). AddedSoFar a c k c0 c2 (none_changed s) all_changed) (sym h.supply) (added_next a b c m k c0 c1 c2 items (none_changed items.supply) all_changed places_done h))

pub are_changed : (a b : Arena) (n : Supply) (old new : code_changed.Changed) (w : Changed) → old.in_exit.items ≡ [] → old.after.items ≡ [] → AddsChanged (Ok tt) w a b old new n → AreChanged b n new.in_exit.items new.after.items w
are_changed a b n old new w no_exit no_after h = record {
  in_exit_are = h.in_exit [] (subst (λ (l : List (Head × TermId)). AreAfter a l []) (sym no_exit) tt);
  after_are = h.after fit ∙ ap (λ (l : List (TermId × TermId)). pairs_of a l ++ w.after) no_after;
  fit = h.fit fit;
  supply = h.supply;
  there = h.there;
}
  where
    fit : ArePairs a old.after.items
    fit = subst (λ (l : List (TermId × TermId)). ArePairs a l) (sym no_after) tt

pub items_of : (p q : Program) (r : Routine) → q ≡ p → (o : Result ⊤ GenFault) (m n : Supply) (a b : Arena) (old new : code_changed.Changed) → AddsChanged o (changed_items q r (var_items r.globals) m) a b old new n → AddsChanged o (changed_items p r (var_items r.globals) m) a b old new n
items_of p q r same o m n a b old new h = subst (λ (x : Program). AddsChanged o (changed_items x r (var_items r.globals) m) a b old new n) same h

pub names_at : (p : Program) (number : RoutineId) (r : Routine) (names : Scope) → routine_at p number ≡ Some r → HasNamesOf names (variable_scope p (routine_in p (Some number))) → HasNamesOf names (variable_scope p (Some r))
names_at p number r names is h = subst (λ o. HasNamesOf names (variable_scope p o)) is h

-- ---- what stands in EXIT for what is changed

module _ (p : Program) (r : Routine) (d : declarations_ok p ≡ true) where
  abbrev item_is_there : Item → Bool
  item_is_there i = head_in_range (shapes p) (item_head p (Some r) i)

  one_item_fits : (i : Item) (n : Supply) → item_is_there i ≡ true → FitHeads p (changed_items p r (i ∷ []) n).in_exit
  one_item_fits (Variable x) n e = ((refl, (e, refl)), tt)
  one_item_fits (Class t) n e = ((refl, (e, refl)), tt)

  items_fit : (items : List Item) (n : Supply) → list_all item_is_there items ≡ true → FitHeads p (changed_items p r items n).in_exit
  items_fit [] n e = tt
  items_fit (i ∷ items) n e = ((one_item_fits i n (left_true (item_is_there i) (list_all item_is_there items) e)).0, items_fit items _ (right_true (item_is_there i) (list_all item_is_there items) e))

  var_items_there : (globals : List GlobalItem) → list_all (λ g. item_is_there g.item) globals ≡ true → list_all item_is_there (var_items globals) ≡ true
  var_items_there [] e = refl
  var_items_there (g ∷ globals) e = by g.is_var (var_items_there globals (right_true (item_is_there g.item) (list_all (λ g. item_is_there g.item) globals) e))
    where
      by : (b : Bool) → list_all item_is_there (var_items globals) ≡ true → list_all item_is_there (map (λ g. g.item) (cond b (g ∷ filter (λ g. g.is_var) globals) (filter (λ g. g.is_var) globals))) ≡ true
      by true others = both_true (left_true (item_is_there g.item) (list_all (λ g. item_is_there g.item) globals) e) others
      by false others = others

  places_fit : (formals : List Formal) (xs : List argument.Argument) (n : Supply) → list_all (λ f. type_exists p.forms f.of) formals ≡ true → list_all (λ g. item_is_there g.item) r.globals ≡ true → FitHeads p (changed_places p r formals xs n).in_exit
  places_fit [] xs n e k = items_fit (var_items r.globals) n (var_items_there r.globals k)
  places_fit (f ∷ formals) [] n e k = items_fit (var_items r.globals) n (var_items_there r.globals k)
  places_fit (f ∷ formals) (argument.Given t ∷ xs) n e k = places_fit formals xs n (right_true (type_exists p.forms f.of) (list_all (λ f. type_exists p.forms f.of) formals) e) k
  places_fit (f ∷ formals) (argument.AtPlace x ∷ xs) n e k = (
    (refl, (sort_there p.forms f.of (left_true (forms_ok p.forms) _ d) (left_true (type_exists p.forms f.of) (list_all (λ f. type_exists p.forms f.of) formals) e), refl)),
    places_fit formals xs _ (right_true (type_exists p.forms f.of) (list_all (λ f. type_exists p.forms f.of) formals) e) k,
  )

pub heads_fit : (p : Program) (a : Arena) (number : RoutineId) (r : Routine) (xs : List argument.Argument) (n : Supply) → IsAtCall p a number r xs → FitHeads p (changed_places p r r.formals xs n).in_exit
heads_fit p a number r xs n h = places_fit p r (declared p a number r xs h) r.formals xs n (formals_exist p a number r xs h) (items_in_range p a number r xs h)

-- heads with their terms
abbrev pub after_in : Arena → List (Head × TermId) → List (Head × Term)
after_in a after = map (λ q. (q.0, tree a q.1)) after

pub after_is : (a : Arena) (ps : List (Head × TermId)) (qs : List (Head × Term)) → AreAfter a ps qs → after_in a ps ≡ qs
after_is a [] [] h = refl
after_is a (p ∷ ps) (q ∷ qs) h = let head = h.0 in let term = h.1.0.is_tree in let others = after_is a ps qs h.1.1 in λ i. (head i, term i) ∷ others i
after_is a [] (q ∷ qs) h = absurd h
after_is a (p ∷ ps) [] h = absurd h

pub own_after : (a : Arena) (ps : List (Head × TermId)) (qs : List (Head × Term)) → AreAfter a ps qs → AreAfter a ps (after_in a ps)
own_after a ps qs h = subst (λ (l : List (Head × Term)). AreAfter a ps l) (sym (after_is a ps qs h)) h

pub own_fit : (p : Program) (a : Arena) (ps : List (Head × TermId)) (qs : List (Head × Term)) → AreAfter a ps qs → FitHeads p qs → FitHeads p (after_in a ps)
own_fit p a ps qs h fit = subst (λ (l : List (Head × Term)). FitHeads p l) (sym (after_is a ps qs h)) fit

pub arguments_are : (a : Arena) (ts : List code_argument.Argument) (xs : List argument.Argument) → AreArguments a ts xs → map (argument_in a) ts ≡ xs
arguments_are a [] [] h = refl
arguments_are a (t ∷ ts) (x ∷ xs) h = let first = argument_is a t x h.0 in let others = arguments_are a ts xs h.1 in λ i. first i ∷ others i
arguments_are a [] (x ∷ xs) h = absurd h
arguments_are a (t ∷ ts) [] h = absurd h
