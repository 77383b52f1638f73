-- What is changed, in the definition of the walk and by events.
use Rattle.std.proofs.Common.{◌≡◌, ◌||◌, ◌&&◌, not, ℕ, Bool, true, false, cond, List, [], ◌∷◌, ◌++◌, map, filter, Option, Some, None, refl, sym, ap, subst, ◌∙◌, eqb-true}
use Rattle.std.specs.List.{flat_map}
use Rattle.std.proofs.lemmas.List.{map-append, append-nil}
use Rattle.std.proofs.lemmas.List.Elements.{filter-append}
use Rattle.std.proofs.lemmas.Grind.{flat_map-append}
use Rattle.spv_logic.specs.declared.names.names.Symbol.{Symbol}
use Rattle.spv_logic.specs.declared.types.TypeId.{TypeId}
use Rattle.spv_logic.specs.declared.conditions.RoutineId.{RoutineId}
use Rattle.spv_program.specs.declared.types.Item.{Item}
use Rattle.spv_program.specs.declared.types.Item.TheVariants.{Variable, Class}
use Rattle.spv_program.specs.Lists.{same_name, first_of}
use Rattle.spv_program.specs.Programs.{GlobalItem}
use Rattle.spv_program.specs.Expressions.{Expression, Designator, Selectors, Call, Arguments, Numeral, Boolean, NilOf, Read, Result, Through, Negative, Calculated, Compared, Negated, Joined, designator, no_selectors, at_index, at_field, at_cell, call, no_arguments, by_value, by_place}
use Rattle.spv_program.specs.Uses.{Root, Own, Shared, Use, same_root, name_root, has_cell, expression_uses, designator_uses, selector_uses, call_uses, argument_uses, expression_calls, designator_calls, selector_calls, calls_with, argument_calls}
use Rattle.spv_program.specs.Changes.{var_items}
use Rattle.spv_typing.specs.Known.{Scope, Heading}
use Rattle.spv_typing.specs.StatementWalk.{own_in, items_of, counted_as, first_counted}
use Rattle.spv_environments.specs.Numbered.{numbered}
use Rattle.spv_expression_typing.specs.declared.counter_changes.works.Event.{Event}
use Rattle.spv_expression_typing.specs.declared.counter_changes.works.Event.TheVariants as event
use Rattle.spv_expression_typing.specs.counter_changes.Events.{written_at, expression_events, read_events, place_events, selector_events, call_events, argument_events}
use Rattle.spv_expression_typing.specs.counter_changes.Counted.{is_counted, if_counted, item_counted, globals_counted, headings_counted, callee_counted, first_wrote, first_called, first_in}

first_of-assoc : (a b c : Option Symbol) → first_of (first_of a b) c ≡ first_of a (first_of b c)
first_of-assoc (Some x) b c = refl
first_of-assoc None b c = refl

first_of-none : (a : Option Symbol) → first_of a None ≡ a
first_of-none (Some x) = refl
first_of-none None = refl

module _ (own : Symbol → Bool) (counted : List Symbol) where
  -- ---- roots

  counted_first : (r : Root) (roots : List Root) → first_counted own counted (r ∷ roots) ≡ first_of (counted_as own counted r) (first_counted own counted roots)
  counted_first r roots = by_case (counted_as own counted r) refl
    where
      by_case : (o : Option Symbol) → counted_as own counted r ≡ o → first_counted own counted (r ∷ roots) ≡ first_of (counted_as own counted r) (first_counted own counted roots)
      by_case (Some v) h = rw h refl
      by_case None h = rw h refl

  counted_both : (rs qs : List Root) → first_counted own counted (rs ++ qs) ≡ first_of (first_counted own counted rs) (first_counted own counted qs)
  counted_both [] qs = refl
  counted_both (r ∷ rs) qs =
      counted_first r (rs ++ qs) ∙ ap (first_of (counted_as own counted r)) (counted_both rs qs)
      ∙ sym (first_of-assoc (counted_as own counted r) (first_counted own counted rs) (first_counted own counted qs))
      ∙ ap (λ (o : Option Symbol). first_of o (first_counted own counted qs)) (sym (counted_first r rs))

-- ---- a name's root counts where the name does

same_roots : (own : Symbol → Bool) (v x : Symbol) → same_root (name_root own v) (name_root own x) ≡ same_name v x
same_roots own v x = by_case (same_name v x) refl
  where
    when_same : (b : Bool) → same_root (cond b (Own x) (Shared (Variable x))) (cond b (Own x) (Shared (Variable x))) ≡ same_name x x
    when_same true = refl
    when_same false = refl

    when_other : (b c : Bool) → same_name v x ≡ false → same_root (cond b (Own v) (Shared (Variable v))) (cond c (Own x) (Shared (Variable x))) ≡ false
    when_other true true h = h
    when_other true false h = refl
    when_other false true h = refl
    when_other false false h = h

    by_case : (b : Bool) → same_name v x ≡ b → same_root (name_root own v) (name_root own x) ≡ same_name v x
    by_case true h =
        let same : v ≡ x = ap (λ (n : ℕ). record { 0 = n }) (eqb-true v.0 x.0 h) in
        subst (λ (w : Symbol). same_root (name_root own w) (name_root own x) ≡ same_name w x) (sym same) (when_same (own x))
    by_case false h = when_other (own v) (own x) h ∙ sym h

same_shared : (own : Symbol → Bool) (v x : Symbol) → own x ≡ false → same_root (name_root own v) (Shared (Variable x)) ≡ same_name v x
same_shared own v x h =
    ap (λ b. same_root (name_root own v) (cond b (Own x) (Shared (Variable x)))) (sym h) ∙ same_roots own v x

same_symbol : (v x : Symbol) → same_name v x ≡ true → v ≡ x
same_symbol v x h = ap (λ (n : ℕ). record { 0 = n }) (eqb-true v.0 x.0 h)

module _ (own : Symbol → Bool) where
  counted_by : (r : Root) (x : Symbol) → ((v : Symbol) → same_root (name_root own v) r ≡ same_name v x) → (counted : List Symbol) → counted_as own counted r ≡ if_counted counted x
  counted_by r x each [] = refl
  counted_by r x each (v ∷ counted) =
      ap (λ b. cond b (Some v) (counted_as own counted r)) (each v) ∙ by_case (same_name v x) refl (counted_by r x each counted)
    where
      by_case : (b : Bool) → same_name v x ≡ b → counted_as own counted r ≡ if_counted counted x
          → cond b (Some v) (counted_as own counted r) ≡ cond (b || is_counted counted x) (Some x) None
      by_case true h later = ap Some (same_symbol v x h)
      by_case false h later = later

  pub name_counted : (counted : List Symbol) (x : Symbol) → counted_as own counted (name_root own x) ≡ if_counted counted x
  name_counted counted x = counted_by (name_root own x) x (λ v. same_roots own v x) counted

  never_counted : (r : Root) → ((v : Symbol) → same_root (name_root own v) r ≡ false) → (counted : List Symbol) → counted_as own counted r ≡ None
  never_counted r each [] = refl
  never_counted r each (v ∷ counted) = ap (λ b. cond b (Some v) (counted_as own counted r)) (each v) ∙ never_counted r each counted

  class_counted : (counted : List Symbol) (t : TypeId) → counted_as own counted (Shared (Class t)) ≡ None
  class_counted counted t = never_counted (Shared (Class t)) (λ v. by_case v (own v)) counted
    where
      by_case : (v : Symbol) (b : Bool) → same_root (cond b (Own v) (Shared (Variable v))) (Shared (Class t)) ≡ false
      by_case v true = refl
      by_case v false = refl

  own_counted : (counted : List Symbol) (x : Symbol) → own x ≡ true → counted_as own counted (Shared (Variable x)) ≡ None
  own_counted counted x h = never_counted (Shared (Variable x)) (λ v. by_case v (own v) refl (same_name v x) refl) counted
    where
      by_case : (v : Symbol) (b : Bool) → own v ≡ b → (c : Bool) → same_name v x ≡ c → same_root (cond b (Own v) (Shared (Variable v))) (Shared (Variable x)) ≡ false
      by_case v true e c d = refl
      by_case v false e false d = d
      by_case v false e true d = let same : v ≡ x = same_symbol v x d in absurd cc

  item_is : (counted : List Symbol) (i : Item) → counted_as own counted (Shared i) ≡ item_counted own counted i
  item_is counted (Class t) = class_counted counted t
  item_is counted (Variable x) = by_case (own x) refl
    where
      by_case : (b : Bool) → own x ≡ b → counted_as own counted (Shared (Variable x)) ≡ cond b None (if_counted counted x)
      by_case true h = own_counted counted x h
      by_case false h = counted_by (Shared (Variable x)) x (λ v. same_shared own v x h) counted

  module _ (counted : List Symbol) where
    globals_are : (globals : List GlobalItem) → first_counted own counted (map Shared (var_items globals)) ≡ globals_counted own counted globals
    globals_are [] = refl
    globals_are (g ∷ globals) = by_case g.is_var (globals_are globals)
      where
        by_case : (b : Bool) → first_counted own counted (map Shared (var_items globals)) ≡ globals_counted own counted globals
            → first_counted own counted (map Shared (map (λ (g : GlobalItem). g.item) (cond b (g ∷ filter (λ (g : GlobalItem). g.is_var) globals) (filter (λ (g : GlobalItem). g.is_var) globals))))
            ≡ first_of (cond b (item_counted own counted g.item) None) (globals_counted own counted globals)
        by_case true h =
            counted_first own counted (Shared g.item) (map Shared (var_items globals))
            ∙ ap (λ (o : Option Symbol). first_of o (first_counted own counted (map Shared (var_items globals)))) (item_is counted g.item)
            ∙ ap (first_of (item_counted own counted g.item)) h
        by_case false h = h

    headings_are : (headings : List Heading)
        → first_counted own counted (flat_map (λ h. map Shared (var_items h.globals)) headings) ≡ headings_counted own counted headings
    headings_are [] = refl
    headings_are (h ∷ headings) =
        counted_both own counted (map Shared (var_items h.globals)) (flat_map (λ h. map Shared (var_items h.globals)) headings)
        ∙ ap (λ (o : Option Symbol). first_of o (first_counted own counted (flat_map (λ h. map Shared (var_items h.globals)) headings))) (globals_are h.globals)
        ∙ ap (first_of (globals_counted own counted h.globals)) (headings_are headings)

module _ (s : Scope) (counted : List Symbol) where
  abbrev changing : List Use → List Root
  changing uses = map (λ (u : Use). u.root) (filter (λ (u : Use). u.changes) uses)

  abbrev callees : List Call → List Root
  callees calls = flat_map (items_of s.known.headings) calls

  wrote_both : (es fs : List Event) → first_wrote counted (es ++ fs) ≡ first_of (first_wrote counted es) (first_wrote counted fs)
  wrote_both [] fs = refl
  wrote_both (event.Wrote x ∷ es) fs = ap (first_of (if_counted counted x)) (wrote_both es fs) ∙ sym (first_of-assoc (if_counted counted x) (first_wrote counted es) (first_wrote counted fs))
  wrote_both (event.Called r ∷ es) fs = wrote_both es fs

  called_both : (es fs : List Event)
      → first_called (callee_counted s counted) (es ++ fs) ≡ first_of (first_called (callee_counted s counted) es) (first_called (callee_counted s counted) fs)
  called_both [] fs = refl
  called_both (event.Wrote x ∷ es) fs = called_both es fs
  called_both (event.Called r ∷ es) fs =
      ap (first_of (callee_counted s counted r)) (called_both es fs)
      ∙ sym (first_of-assoc (callee_counted s counted r) (first_called (callee_counted s counted) es) (first_called (callee_counted s counted) fs))

  pub record SameUses (uses : List Use) (events : List Event) : Type 0 where
    pub same : first_counted (own_in s) counted (changing uses) ≡ first_wrote counted events

  pub record SameCalls (calls : List Call) (events : List Event) : Type 0 where
    pub same : first_counted (own_in s) counted (callees calls) ≡ first_called (callee_counted s counted) events

  -- ---- uses

  pub no_uses : SameUses [] []
  no_uses = record { same = refl }

  pub uses_join : (us vs : List Use) (es fs : List Event) → SameUses us es → SameUses vs fs → SameUses (us ++ vs) (es ++ fs)
  uses_join us vs es fs a b = record {
    same =
        ap (λ (l : List Use). first_counted (own_in s) counted (map (λ (u : Use). u.root) l)) (filter-append (λ (u : Use). u.changes) us vs)
        ∙ ap (first_counted (own_in s) counted) (map-append (λ (u : Use). u.root) (filter (λ (u : Use). u.changes) us) (filter (λ (u : Use). u.changes) vs))
        ∙ counted_both (own_in s) counted (changing us) (changing vs)
        ∙ ap (λ (o : Option Symbol). first_of o (first_counted (own_in s) counted (changing vs))) a.same
        ∙ ap (first_of (first_wrote counted es)) b.same
        ∙ sym (wrote_both es fs);
  }

  pub uses_nil : (us : List Use) (es : List Event) → SameUses us es → SameUses (us ++ []) es
  uses_nil us es a = subst (λ (l : List Use). SameUses l es) (sym (append-nil us)) a

  pub name_use : (x : Symbol) (line : ℕ) (cell : Bool) (us : List Use) (es : List Event) → SameUses us es
      → SameUses (record { root = name_root (own_in s) x; changes = not cell; line = line } ∷ us) (written_at x cell ++ es)
  name_use x line true us es a = record { same = a.same }
  name_use x line false us es a = record {
    same =
        counted_first (own_in s) counted (name_root (own_in s) x) (changing us)
        ∙ ap (λ (o : Option Symbol). first_of o (first_counted (own_in s) counted (changing us))) (name_counted (own_in s) counted x)
        ∙ ap (first_of (if_counted counted x)) a.same;
  }

  pub class_use : (t : TypeId) (line : ℕ) (b : Bool) (us : List Use) (es : List Event) → SameUses us es → SameUses (record { root = Shared (Class t); changes = b; line = line } ∷ us) es
  class_use t line false us es a = record { same = a.same }
  class_use t line true us es a = record {
    same =
        counted_first (own_in s) counted (Shared (Class t)) (changing us)
        ∙ ap (λ (o : Option Symbol). first_of o (first_counted (own_in s) counted (changing us))) (class_counted (own_in s) counted t)
        ∙ a.same;
  }

  pub read_use : (x : Symbol) (line : ℕ) (us : List Use) (es : List Event) → SameUses us es
      → SameUses (record { root = name_root (own_in s) x; changes = false; line = line } ∷ us) es
  read_use x line us es a = record { same = a.same }

  call_behind : (us : List Use) (es : List Event) (r : RoutineId) → SameUses us es → SameUses us (es ++ event.Called r ∷ [])
  call_behind us es r a = record { same = a.same ∙ sym (wrote_both es (event.Called r ∷ []) ∙ first_of-none (first_wrote counted es)) }

  mutual
    pub expression_same : (e : Expression) → SameUses (expression_uses (own_in s) e) (expression_events e)
    expression_same (Numeral z) = no_uses
    expression_same (Boolean b) = no_uses
    expression_same (NilOf t) = no_uses
    expression_same (Read d) = read_same d
    expression_same (Result c) = call_same c
    expression_same (Through c line t others) = uses_join _ _ _ _ (call_same c) (class_use t line false _ _ (selector_same false others))
    expression_same (Negative e) = expression_same e
    expression_same (Calculated o a b) = uses_join _ _ _ _ (expression_same a) (expression_same b)
    expression_same (Compared o a b) = uses_join _ _ _ _ (expression_same a) (expression_same b)
    expression_same (Negated e) = expression_same e
    expression_same (Joined o a b) = uses_join _ _ _ _ (expression_same a) (expression_same b)

    pub read_same : (d : Designator) → SameUses (designator_uses (own_in s) false d) (read_events d)
    read_same (designator line x others) = read_use x line _ _ (selector_same false others)

    pub place_same : (d : Designator) → SameUses (designator_uses (own_in s) true d) (place_events d)
    place_same (designator line x others) = name_use x line (has_cell others) _ _ (selector_same true others)

    pub selector_same : (writes : Bool) (ss : Selectors) → SameUses (selector_uses (own_in s) writes ss) (selector_events ss)
    selector_same writes no_selectors = no_uses
    selector_same writes (at_index t e others) = uses_join _ _ _ _ (expression_same e) (selector_same writes others)
    selector_same writes (at_field t f others) = selector_same writes others
    selector_same writes (at_cell line t others) = class_use t line (writes && not (has_cell others)) _ _ (selector_same writes others)

    pub call_same : (c : Call) → SameUses (call_uses (own_in s) c) (call_events c)
    call_same (call r line arguments) = call_behind _ _ r (argument_same arguments)

    pub argument_same : (xs : Arguments) → SameUses (argument_uses (own_in s) xs) (argument_events xs)
    argument_same no_arguments = no_uses
    argument_same (by_value e others) = uses_join _ _ _ _ (expression_same e) (argument_same others)
    argument_same (by_place d others) = uses_join _ _ _ _ (place_same d) (argument_same others)

  -- ---- calls

  pub no_calls : SameCalls [] []
  no_calls = record { same = refl }

  pub calls_join : (cs ds : List Call) (es fs : List Event) → SameCalls cs es → SameCalls ds fs → SameCalls (cs ++ ds) (es ++ fs)
  calls_join cs ds es fs a b = record {
    same =
        ap (first_counted (own_in s) counted) (flat_map-append (items_of s.known.headings) cs ds)
        ∙ counted_both (own_in s) counted (callees cs) (callees ds)
        ∙ ap (λ (o : Option Symbol). first_of o (first_counted (own_in s) counted (callees ds))) a.same
        ∙ ap (first_of (first_called (callee_counted s counted) es)) b.same
        ∙ sym (called_both es fs);
  }

  pub calls_nil : (cs : List Call) (es : List Event) → SameCalls cs es → SameCalls (cs ++ []) es
  calls_nil cs es a = subst (λ (l : List Call). SameCalls l es) (sym (append-nil cs)) a

  pub wrote_first : (x : Symbol) (cell : Bool) (cs : List Call) (es : List Event) → SameCalls cs es → SameCalls cs (written_at x cell ++ es)
  wrote_first x true cs es a = a
  wrote_first x false cs es a = record { same = a.same }

  one_call : (r : RoutineId) (line : ℕ) (arguments : Arguments) → SameCalls (call r line arguments ∷ []) (event.Called r ∷ [])
  one_call r line arguments = record {
    same =
        ap (first_counted (own_in s) counted) (append-nil (items_of s.known.headings (call r line arguments)))
        ∙ headings_are (own_in s) counted (numbered r s.known.headings)
        ∙ sym (first_of-none (callee_counted s counted r));
  }

  mutual
    pub expression_calls_same : (e : Expression) → SameCalls (expression_calls e) (expression_events e)
    expression_calls_same (Numeral z) = no_calls
    expression_calls_same (Boolean b) = no_calls
    expression_calls_same (NilOf t) = no_calls
    expression_calls_same (Read d) = read_calls_same d
    expression_calls_same (Result c) = call_calls_same c
    expression_calls_same (Through c line t others) = calls_join _ _ _ _ (call_calls_same c) (selector_calls_same others)
    expression_calls_same (Negative e) = expression_calls_same e
    expression_calls_same (Calculated o a b) = calls_join _ _ _ _ (expression_calls_same a) (expression_calls_same b)
    expression_calls_same (Compared o a b) = calls_join _ _ _ _ (expression_calls_same a) (expression_calls_same b)
    expression_calls_same (Negated e) = expression_calls_same e
    expression_calls_same (Joined o a b) = calls_join _ _ _ _ (expression_calls_same a) (expression_calls_same b)

    pub read_calls_same : (d : Designator) → SameCalls (designator_calls d) (read_events d)
    read_calls_same (designator line x others) = selector_calls_same others

    pub place_calls_same : (d : Designator) → SameCalls (designator_calls d) (place_events d)
    place_calls_same (designator line x others) = wrote_first x (has_cell others) _ _ (selector_calls_same others)

    pub selector_calls_same : (ss : Selectors) → SameCalls (selector_calls ss) (selector_events ss)
    selector_calls_same no_selectors = no_calls
    selector_calls_same (at_index t e others) = calls_join _ _ _ _ (expression_calls_same e) (selector_calls_same others)
    selector_calls_same (at_field t f others) = selector_calls_same others
    selector_calls_same (at_cell line t others) = selector_calls_same others

    pub call_calls_same : (c : Call) → SameCalls (calls_with c) (call_events c)
    call_calls_same (call r line arguments) = calls_join _ _ _ _ (argument_calls_same arguments) (one_call r line arguments)

    pub argument_calls_same : (xs : Arguments) → SameCalls (argument_calls xs) (argument_events xs)
    argument_calls_same no_arguments = no_calls
    argument_calls_same (by_value e others) = calls_join _ _ _ _ (expression_calls_same e) (argument_calls_same others)
    argument_calls_same (by_place d others) = calls_join _ _ _ _ (place_calls_same d) (argument_calls_same others)

  -- ---- both

  pub both : (us : List Use) (cs : List Call) (es : List Event) → SameUses us es → SameCalls cs es
      → first_counted (own_in s) counted (changing us ++ callees cs) ≡ first_in s counted es
  both us cs es a b =
      counted_both (own_in s) counted (changing us) (callees cs)
      ∙ ap (λ (o : Option Symbol). first_of o (first_counted (own_in s) counted (callees cs))) a.same
      ∙ ap (first_of (first_wrote counted es)) b.same
