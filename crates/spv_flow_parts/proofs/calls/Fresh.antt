-- What a call changes: one VAR parameter, and one item of a VAR group.
use Rattle.std.proofs.Common.{◌≡◌, true, false, List, [], ◌∷◌, ◌++◌, Some, option_map, Result, Ok, IsErrAnd, IsSome, is_some, refl, sym, ap, subst, ◌∙◌}
use Rattle.std.specs.Prelude.{⊤}
use Rattle.std.proofs.lemmas.Bool.{or_left, or_right}
use Rattle.spv_logic.specs.declared.conditions.TermId.{TermId}
use Rattle.spv_logic.specs.declared.operators.Head.{Head}
use Rattle.spv_logic.specs.Terms.{Term}
use Rattle.spv_logic.specs.Sorts.{term_sort, variable_sort}
use Rattle.spv_term.specs.Arena.{Arena, IsArena, Extends, tree, sort_at}
use Rattle.spv_term.proofs.ArenaLemmas.{Extends-trans, tree-Extends, sort_at-Extends, term_sort-tree}
use Rattle.spv_term.specs.substitution.Images.{head_at, head_of, IsPair, ArePairs}
use Rattle.spv_term.specs.substitution.Parts.{is_part, is_part_of}
use Rattle.spv_term.proofs.substitution.ImageLemmas.{variable_alone}
use Rattle.spv_term.proofs.substitution.PartLemmas.{is_part-refl}
use Rattle.spv_program.specs.Programs.{Formal, GlobalItem, Routine, Program}
use Rattle.spv_program.specs.Changes.{var_items}
use Rattle.spv_program.specs.Supplies.{Supply, Fresh, fresh_like}
use Rattle.spv_program.specs.Places.{present, whole_with}
use Rattle.spv_program.specs.Terms.{alone, item_head}
use Rattle.spv_program.specs.Types.{sort_of}
use Rattle.spv_program.specs.Calls as argument
use Rattle.spv_program.proofs.SortFacts.{some_is}
use Rattle.spv_meaning.specs.Before.{Changed, changed_items}
use Rattle.spv_assign.specs.supply.Numbers.{Taken, IsFresh, AreThere, supply_of}
use Rattle.spv_assign.proofs.supply.FreshLemmas.{AreThere-Extends, variable_result}
use Rattle.spv_assign.specs.Conditions.{pairs_of}
use Rattle.spv_assign.specs.declared.creation_trace.faults.GenFault.{GenFault}
use Rattle.spv_assign.specs.creation_trace.Events.{HasTerms, Walked, Stops}
use Rattle.spv_assign.specs.creation_trace.StatementEvents.{one, several}
use Rattle.spv_assign.proofs.creation_trace.Walks.{walked_behind, stopped_behind}
use Rattle.spv_assign.proofs.creation_trace.Covering.{AreCovered, covered_more, covered_nothing, covered_stops}
use Rattle.spv_assign.specs.declared.structures.places.Target.{Target}
use Rattle.spv_assign.specs.structures.Making.{GivesTerm}
use Rattle.spv_assign.specs.structures.Steps.{steps_in}
use Rattle.spv_assign.specs.structures.Targets.{IsTarget, target_in}
use Rattle.spv_assign.specs.limited_steps.Makes.{IsTerm, IsFreshPair}
use Rattle.spv_assign.proofs.structures.Parts.{sorted_stays}
use Rattle.spv_flow_parts.specs.declared.calls.entering.Changed as code_changed
use Rattle.spv_flow_parts.specs.calls.Arguments.{AreAfter, AddsChanged, changed_by_places}
use Rattle.spv_flow_parts.proofs.Steps.{IsTerm-Extends}
use Rattle.spv_flow_parts.proofs.Pairs.{ArePairs-Extends, pairs_of-Extends, pairs_both, are_pairs_both}
use Rattle.spv_flow_parts.proofs.calls.Wholes.{whole_sorted, value_in_whole, target_stays, target_there}
use Rattle.spv_flow_parts.proofs.calls.Changing.{none_changed, adds_none, adds_stopped}

-- ---- one pair more

after_more : {a b : Arena} → Extends a b → (ps : List (Head × TermId)) (qs : List (Head × Term)) → AreAfter a ps qs → AreAfter b ps qs
after_more more [] [] h = tt
after_more more (p ∷ ps) (q ∷ qs) h = (h.0, (IsTerm-Extends p.1 q.1 more h.1.0, after_more more ps qs h.1.1))
after_more more [] (q ∷ qs) h = absurd h
after_more more (p ∷ ps) [] h = absurd h

after_both : (a : Arena) (ps ps' : List (Head × TermId)) (qs qs' : List (Head × Term)) → AreAfter a ps qs → AreAfter a ps' qs' → AreAfter a (ps ++ ps') (qs ++ qs')
after_both a [] ps' [] qs' h k = k
after_both a (p ∷ ps) ps' (q ∷ qs) qs' h k = (h.0, (h.1.0, after_both a ps ps' qs qs' h.1.1 k))
after_both a [] ps' (q ∷ qs) qs' h k = absurd h
after_both a (p ∷ ps) ps' [] qs' h k = absurd h

module _ (a b : Arena) (more : Extends a b) (old new : code_changed.Changed) (n : Supply) where
  -- a head with its term in EXIT, and a pair behind the call
  pub one_added : (h : Head) (y : TermId) (x : Term) (from to : TermId) (root : Head) (z : Term) (m : Supply) → IsTerm b y x → IsPair b (from, to) → head_at b from ≡ root → tree b to ≡ z
      → new.in_exit.items ≡ old.in_exit.items ++ (h, y) ∷ [] → new.after.items ≡ old.after.items ++ (from, to) ∷ [] → Walked (several (alone root ∷ z ∷ [])) a b → n ≡ m → AreThere b n
      → AddsChanged (Ok tt) (record { in_exit = (h, x) ∷ []; after = (root, z) ∷ []; supply = m }) a b old new n
  one_added h y x from to root z m y_is pair from_is to_is in_exit after walk supply there = record {
    grows = more;
    walk = walk;
    in_exit = λ before k.
        subst (λ (l : List (Head × TermId)). AreAfter b l (before ++ (h, x) ∷ [])) (sym in_exit)
        (after_both b old.in_exit.items ((h, y) ∷ []) before ((h, x) ∷ []) (after_more more old.in_exit.items before k) (refl, (y_is, tt)));
    after = λ fit.
        let before = pairs_of-Extends more old.after.items fit in
        ap (λ (l : List (TermId × TermId)). pairs_of b l) after
        ∙ pairs_both b old.after.items ((from, to) ∷ [])
        ∙ (λ i. before i ++ (from_is i, to_is i) ∷ []);
    fit = λ fit. subst (λ (l : List (TermId × TermId)). ArePairs b l) (sym after) (are_pairs_both b old.after.items ((from, to) ∷ []) (ArePairs-Extends more old.after.items fit) (pair, tt));
    supply = supply;
    there = there;
  }

-- ---- a VAR parameter

module _ (p : Program) (f : Formal) (d : Target) (n : Supply) (a : Arena) (ok : IsArena a) (target : IsTarget a d) (sorts : term_sort a.shapes a.decls (present (target_in a d)) ≡ Some (sort_of p.forms f.of)) where
  abbrev y : Fresh
  y = fresh_like (argument.formal_head p f) n

  abbrev root : Head
  root = head_at a d.root

  abbrev whole : Term
  whole = whole_with (target_in a d) (alone y.head)

  abbrev added : Changed
  added = changed_by_places p (f ∷ []) (argument.AtPlace (target_in a d) ∷ []) n

  whole_has : term_sort a.shapes a.decls whole ≡ Some (variable_sort root)
  whole_has = whole_sorted a.shapes a.decls root (option_map (tree a) d.pointer) (steps_in a d.path) (alone y.head) (sort_of p.forms f.of) target.variable sorts refl

  whole_last : (x : Term) → is_part x whole ≡ true → is_part_of (alone root ∷ whole ∷ []) x ≡ true
  whole_last x e = or_right (is_part x (alone root)) (is_part_of (whole ∷ []) x) (or_left (is_part x whole) (is_part_of [] x) e)

  y_covered : AreCovered (alone y.head ∷ []) (alone root ∷ whole ∷ [])
  y_covered = covered_more (alone y.head) [] (alone root ∷ whole ∷ []) (whole_last (alone y.head) (value_in_whole root (option_map (tree a) d.pointer) (steps_in a d.path) (alone y.head))) (covered_nothing (alone root ∷ whole ∷ []))

  pub y_stops : (f : Fresh) → f ≡ y → (r : Result ⊤ GenFault) (e : GenFault) (b : Arena) (old new : code_changed.Changed) (m : Supply) → IsErrAnd r (λ g. g ≡ e) → Extends a b → Stops e (one (alone f.head)) a b → AddsChanged r added a b old new m
  y_stops f same r e b old new m is grows stops =
      adds_stopped r e added a b old new m is grows (covered_stops (one (alone y.head)) refl (alone root ∷ whole ∷ []) y_covered e a b (subst (λ (g : Fresh). Stops e (one (alone g.head)) a b) same stops))

  module _ (w : Fresh) (same : w ≡ y) (b : Arena) (grows : Extends a b) (w_walked : Walked (one (alone w.head)) a b) (t : TermId) (taken : Taken) (w_fresh : IsFresh b t taken w) where
    walked : Walked (one (alone y.head)) a b
    walked = subst (λ (g : Fresh). Walked (one (alone g.head)) a b) same w_walked

    fresh : IsFresh b t taken y
    fresh = subst (λ (g : Fresh). IsFresh b t taken g) same w_fresh

    pub target_then : IsTarget b d
    target_then = target_there grows d target

    whole_is : whole_with (target_in b d) (tree b t) ≡ whole
    whole_is = let e = target_stays grows d target in let g = fresh.is_tree in λ i. whole_with (e i) (g i)

    pub whole_fits : IsSome (term_sort b.shapes b.decls (whole_with (target_in b d) (tree b t)))
    whole_fits = subst (λ (x : Term). IsSome (term_sort b.shapes b.decls x)) (sym whole_is) (sorted_stays grows whole (ap (λ o. is_some o) whole_has))

    both_covered : AreCovered (alone y.head ∷ whole ∷ []) (alone root ∷ whole ∷ [])
    both_covered =
        covered_more (alone y.head) (whole ∷ []) (alone root ∷ whole ∷ []) (whole_last (alone y.head) (value_in_whole root (option_map (tree a) d.pointer) (steps_in a d.path) (alone y.head)))
        (covered_more whole [] (alone root ∷ whole ∷ []) (whole_last whole (is_part-refl whole)) (covered_nothing (alone root ∷ whole ∷ [])))

    pub whole_stops : (r : Result ⊤ GenFault) (e : GenFault) (c : Arena) (old new : code_changed.Changed) (m : Supply) → IsErrAnd r (λ g. g ≡ e) → Extends b c → Stops e (one (whole_with (target_in b d) (tree b t))) b c → AddsChanged r added a c old new m
    whole_stops r e c old new m is more stops =
        adds_stopped r e added a c old new m is (Extends-trans grows more)
        (covered_stops (one (alone y.head) ++ one whole) refl (alone root ∷ whole ∷ []) both_covered e a c
        (stopped_behind e (one (alone y.head)) (one whole) a b c walked (subst (λ (x : Term). Stops e (one x) b c) whole_is stops)))

    module _ (c : Arena) (u : TermId) (gives : GivesTerm (Ok u) (whole_with (target_in b d) (tree b t)) b c) (made : Walked (one (whole_with (target_in b d) (tree b t))) b c) where
      more : Extends a c
      more = Extends-trans grows gives.grows

      root_stays : tree c d.root ≡ alone root
      root_stays = tree-Extends more d.root target.root ∙ variable_alone a ok d.root target.root target.variable

      both_there : HasTerms c (alone root ∷ whole ∷ [])
      both_there = (
        record { id = d.root; there = (target_there more d target).root; is_tree = root_stays },
        (record { id = u; there = gives.term.there; is_tree = gives.term.is_tree ∙ whole_is }, tt),
      )

      both_walked : Walked (several (alone root ∷ whole ∷ [])) a c
      both_walked =
          let steps = walked_behind (one (alone y.head)) (one whole) walked (subst (λ (x : Term). Walked (one x) b c) whole_is made) in
          record { grows = more; there = both_there; only = record { part = λ v low high. both_covered.each (tree c v) (steps.only.part v low high) }; lists = tt }

      same_sorts : sort_at c u ≡ sort_at c d.root
      same_sorts =
          some_is
          (sym gives.sort
          ∙ (let shapes = grows.shapes in let decls = grows.decls in λ i. term_sort (shapes i) (decls i) (whole_is i))
          ∙ whole_has
          ∙ sym (variable_result a.shapes a.decls root target.variable)
          ∙ term_sort-tree a ok (alone root) d.root target.root (variable_alone a ok d.root target.root target.variable))
          ∙ sym (sort_at-Extends more d.root target.root)

      pub place_added : (old new : code_changed.Changed) (h : Head) → h ≡ argument.formal_head p f → new.in_exit.items ≡ old.in_exit.items ++ (h, t) ∷ [] → new.after.items ≡ old.after.items ++ (d.root, u) ∷ [] → AreThere b (supply_of taken)
          → AddsChanged (Ok tt) added a c old new (supply_of taken)
      place_added old new h is in_exit after there =
          one_added a c more old new (supply_of taken) (argument.formal_head p f) t (alone y.head) d.root u root whole y.supply
          (IsTerm-Extends t (alone y.head) gives.grows (record { there = fresh.there; is_tree = fresh.is_tree }))
          (record { variable_there = (target_there more d target).root; term_there = gives.term.there; variable = (target_there more d target).variable; same_sort = same_sorts })
          (ap head_of root_stays) (gives.term.is_tree ∙ whole_is) (in_exit ∙ ap (λ (g : Head). old.in_exit.items ++ (g, t) ∷ []) is) after both_walked fresh.supply (AreThere-Extends b c (supply_of taken) gives.grows there)

-- ---- an item

module _ (p : Program) (r : Routine) (g : GlobalItem) (n : Supply) (a : Arena) where
  abbrev item : Head
  item = item_head p (Some r) g.item

  abbrev item_added : Changed
  item_added = changed_items p r (var_items (g ∷ [])) n

  abbrev renewed : Changed
  renewed = record { in_exit = (item, alone (fresh_like item n).head) ∷ []; after = (item, alone (fresh_like item n).head) ∷ []; supply = (fresh_like item n).supply }

  in_var_group : g.is_var ≡ true → item_added ≡ renewed
  in_var_group is = ap (λ b. changed_items p r (var_items (record { item = g.item; is_var = b; line = g.line } ∷ [])) n) is

  in_no_var_group : g.is_var ≡ false → item_added ≡ none_changed n
  in_no_var_group is = ap (λ b. changed_items p r (var_items (record { item = g.item; is_var = b; line = g.line } ∷ [])) n) is

  pub item_stays : g.is_var ≡ false → AreThere a n → (c : code_changed.Changed) → AddsChanged (Ok tt) item_added a a c c n
  item_stays is there c = subst (λ (w : Changed). AddsChanged (Ok tt) w a a c c n) (sym (in_no_var_group is)) (adds_none a n c there)

  module _ (is : g.is_var ≡ true) (h : Head) (same : h ≡ item) where
    pub item_stops : (r : Result ⊤ GenFault) (e : GenFault) (b : Arena) (old new : code_changed.Changed) (m : Supply) → IsErrAnd r (λ f. f ≡ e) → Extends a b → Stops e (several (alone h ∷ alone (fresh_like h n).head ∷ [])) a b
        → AddsChanged r item_added a b old new m
    item_stops r e b old new m told grows stops =
        subst (λ (w : Changed). AddsChanged r w a b old new m) (sym (in_var_group is))
        (adds_stopped r e renewed a b old new m told grows (subst (λ (k : Head). Stops e (several (alone k ∷ alone (fresh_like k n).head ∷ [])) a b) same stops))

    pub item_renewed : (b : Arena) (taken : Taken) (q : TermId × TermId) (old new : code_changed.Changed) → IsFreshPair b taken q h n → Extends a b → Walked (several (alone h ∷ alone (fresh_like h n).head ∷ [])) a b → AreThere b (supply_of taken)
        → new.in_exit.items ≡ old.in_exit.items ++ (h, q.1) ∷ [] → new.after.items ≡ old.after.items ++ q ∷ [] → AddsChanged (Ok tt) item_added a b old new (supply_of taken)
    item_renewed b taken q old new h_fresh more h_walked there in_exit after =
        subst (λ (w : Changed). AddsChanged (Ok tt) w a b old new (supply_of taken)) (sym (in_var_group is))
        (one_added a b more old new (supply_of taken) item q.1 (alone (fresh_like item n).head) q.0 q.1 item (alone (fresh_like item n).head) (fresh_like item n).supply
        (record { there = fresh.pair.term_there; is_tree = fresh.fresh }) fresh.pair (ap head_of fresh.variable) fresh.fresh
        (in_exit ∙ ap (λ (k : Head). old.in_exit.items ++ (k, q.1) ∷ []) same) after
        (subst (λ (k : Head). Walked (several (alone k ∷ alone (fresh_like k n).head ∷ [])) a b) same h_walked) fresh.supply there)
      where
        fresh : IsFreshPair b taken q item n
        fresh = subst (λ (k : Head). IsFreshPair b taken q k n) same h_fresh
