-- The fresh variables for what a call changes, and what is wanted behind it in terms of them.
use Rattle.std.proofs.Common.{◌≡◌, Bool, true, false, cond, ◌||◌, List, [], ◌∷◌, map, refl, sym, ap, ◌∙◌, Some, None}
use Rattle.std.specs.List.{list_all, list_any}
use Rattle.std.proofs.lemmas.Bool.{false≢true}
use Rattle.spv_logic.proofs.list.Tests.{left_true, right_true, left_false, right_false}
use Rattle.spv_logic.specs.declared.operators.Head.{Head}
use Rattle.spv_logic.specs.Terms.{Term, head_eq, eval}
use Rattle.spv_logic.specs.Conditions.{Meaning, Valuation}
use Rattle.spv_logic.proofs.Equality.{head_eq-true, head_eq-refl}
use Rattle.spv_logic.proofs.Substitution.{worth-variable}
use Rattle.spv_program.specs.declared.types.Item.{Item}
use Rattle.spv_program.specs.declared.types.Item.TheVariants.{Variable, Class}
use Rattle.spv_program.specs.Types.{same_item}
use Rattle.spv_program.specs.Programs.{Formal, Routine, Program}
use Rattle.spv_program.specs.Changes.{var_items}
use Rattle.spv_program.specs.Terms.{alone, item_head}
use Rattle.spv_program.specs.Supplies.{Supply, fresh_like}
use Rattle.spv_program.specs.Places.{Target, whole_with}
use Rattle.spv_program.specs.Calls.{Argument, Given, AtPlace, replacing, formal_head}
use Rattle.spv_meaning.specs.Places.{State}
use Rattle.spv_meaning.specs.Views.{now_view}
use Rattle.spv_meaning.specs.Levels.{Here}
use Rattle.spv_meaning.specs.Before.{renamed, changed_items, changed_places}
use Rattle.spv_rule_soundness.specs.statements.Truth.{is_new}
use Rattle.spv_rule_soundness.proofs.statements.Renaming.{is_name, fresh_later, fresh_new, fresh_taken, old_differs, with_fresh, fresh_is_variable}
use Rattle.spv_writes.proofs.Lists.{or_left, or_right}
use Rattle.spv_frame_law.proofs.Sharing.{item_itself}

module _ (p : Program) (q : Routine) where
  -- ---- what is changed

  abbrev pub item_heads : List Item → List Head
  item_heads items = map (item_head p (Some q)) items

  -- what a call changes, as the callee names it: VAR parameters, and then the items of its VAR groups
  abbrev pub heads_changed : List Formal → List Argument → List Head
  heads_changed [] arguments = item_heads (var_items q.globals)
  heads_changed (f ∷ formals) [] = item_heads (var_items q.globals)
  heads_changed (f ∷ formals) (Given t ∷ arguments) = heads_changed formals arguments
  heads_changed (f ∷ formals) (AtPlace d ∷ arguments) = formal_head p f ∷ heads_changed formals arguments

  -- and as the caller names it: the roots of the places, and the items
  abbrev pub heads_after : List Formal → List Argument → List Head
  heads_after [] arguments = item_heads (var_items q.globals)
  heads_after (f ∷ formals) [] = item_heads (var_items q.globals)
  heads_after (f ∷ formals) (Given t ∷ arguments) = heads_after formals arguments
  heads_after (f ∷ formals) (AtPlace d ∷ arguments) = d.root ∷ heads_after formals arguments

  pub items_named : (items : List Item) → list_all is_name (item_heads items) ≡ true
  items_named [] = refl
  items_named (Variable x ∷ items) = items_named items
  items_named (Class t ∷ items) = items_named items

  pub all_named : (formals : List Formal) (arguments : List Argument) → list_all is_name (heads_changed formals arguments) ≡ true
  all_named [] arguments = items_named (var_items q.globals)
  all_named (f ∷ formals) [] = items_named (var_items q.globals)
  all_named (f ∷ formals) (Given t ∷ arguments) = all_named formals arguments
  all_named (f ∷ formals) (AtPlace d ∷ arguments) = all_named formals arguments

  -- ---- the callee's side is a renaming

  items_renamed : (items : List Item) (n : Supply) → (changed_items p q items n).in_exit ≡ (renamed (item_heads items) n).pairs
  items_renamed [] n = refl
  items_renamed (i ∷ items) n =
      let h = item_head p (Some q) i in
      let y = fresh_like h n in
      ap (λ (k : List (Head × Term)). (h, alone y.head) ∷ k) (items_renamed items y.supply)

  items_supply : (items : List Item) (n : Supply) → (changed_items p q items n).supply ≡ (renamed (item_heads items) n).supply
  items_supply [] n = refl
  items_supply (i ∷ items) n = items_supply items (fresh_like (item_head p (Some q) i) n).supply

  pub exit_renamed : (formals : List Formal) (arguments : List Argument) (n : Supply) → (changed_places p q formals arguments n).in_exit ≡ (renamed (heads_changed formals arguments) n).pairs
  exit_renamed [] arguments n = items_renamed (var_items q.globals) n
  exit_renamed (f ∷ formals) [] n = items_renamed (var_items q.globals) n
  exit_renamed (f ∷ formals) (Given t ∷ arguments) n = exit_renamed formals arguments n
  exit_renamed (f ∷ formals) (AtPlace d ∷ arguments) n =
      let h = formal_head p f in
      let y = fresh_like h n in
      ap (λ (k : List (Head × Term)). (h, alone y.head) ∷ k) (exit_renamed formals arguments y.supply)

  pub supply_renamed : (formals : List Formal) (arguments : List Argument) (n : Supply) → (changed_places p q formals arguments n).supply ≡ (renamed (heads_changed formals arguments) n).supply
  supply_renamed [] arguments n = items_supply (var_items q.globals) n
  supply_renamed (f ∷ formals) [] n = items_supply (var_items q.globals) n
  supply_renamed (f ∷ formals) (Given t ∷ arguments) n = supply_renamed formals arguments n
  supply_renamed (f ∷ formals) (AtPlace d ∷ arguments) n = supply_renamed formals arguments (fresh_like (formal_head p f) n).supply

  -- ---- what the fresh variables are worth

  module _ (symbols : Meaning) (u source : Valuation) where
    -- each is worth what another valuation gives to what it stands for
    pub data AreWorth : List (Head × Term) → Type 0 where
      NoPairs : AreWorth []
      OnePair : (k : Head) (t : Term) → eval symbols u t ≡ source k → (pairs : List (Head × Term)) → AreWorth pairs → AreWorth ((k, t) ∷ pairs)

    pub fresh_worth : (base : Valuation) (heads : List Head) → list_all is_name heads ≡ true → (n : Supply) → ((h : Head) → is_new n h ≡ true → u h ≡ with_fresh (renamed heads n).pairs source base h) → AreWorth (renamed heads n).pairs
    fresh_worth base [] names n same = NoPairs
    fresh_worth base (k ∷ heads) names n same =
        let name = left_true (is_name k) _ names in
        let y = (fresh_like k n).head in
        let m = (fresh_like k n).supply in
        let rest = (renamed heads m).pairs in
        OnePair k (alone y)
        (worth-variable symbols u y [] (fresh_is_variable k n name) ∙ (same y (fresh_new k n name) ∙ ap (λ b. cond b (source k) (with_fresh rest source base y)) (head_eq-refl y)))
        rest
        (fresh_worth base heads (right_true (is_name k) _ names) m
        (λ h new. same h (fresh_later k n h new) ∙ ap (λ b. cond b (source k) (with_fresh rest source base h)) (old_differs m h y new (fresh_taken k n name))))

    -- ---- the caller's side

    module _ (here : Here) (after : State) where
      -- the term that stands for what is changed is worth what that shows afterwards
      pub record StandsAfter (pairs : List (Head × Term)) (k : Head) : Type 0 where
        pub term : Term
        pub is : replacing pairs k ≡ Some term
        pub shows : now_view p here.routine after k ≡ Some (eval symbols u term)

      -- the places of VAR arguments: a whole with something else at the place is worth what its root shows, where that is what the
      -- parameter shows at the end
      pub data AreWritten : List Formal → List Argument → Type 0 where
        NoneWritten : AreWritten [] []
        ValueGiven : (f : Formal) (t : Term) (formals : List Formal) (arguments : List Argument) → AreWritten formals arguments → AreWritten (f ∷ formals) (Given t ∷ arguments)
        PlaceWritten : (f : Formal) (d : Target) → ((y : Term) → eval symbols u y ≡ source (formal_head p f) → now_view p here.routine after d.root ≡ Some (eval symbols u (whole_with d y)))
            → (formals : List Formal) (arguments : List Argument) → AreWritten formals arguments → AreWritten (f ∷ formals) (AtPlace d ∷ arguments)

      one_stands : (h : Head) (t : Term) (pairs : List (Head × Term)) (k : Head) → now_view p here.routine after h ≡ Some (eval symbols u t) → (others : Bool) → (head_eq k h || others) ≡ true → (others ≡ true → StandsAfter pairs k) → StandsAfter ((h, t) ∷ pairs) k
      one_stands h t pairs k shows others there later = by_head (head_eq k h) refl there
        where
          by_head : (b : Bool) → head_eq k h ≡ b → (b || others) ≡ true → StandsAfter ((h, t) ∷ pairs) k
          by_head true e there = record { term = t; is = ap (λ b. cond b (Some t) (replacing pairs k)) e; shows = ap (now_view p here.routine after) (head_eq-true k h e) ∙ shows }
          by_head false e there = let s = later there in record { term = s.term; is = ap (λ b. cond b (Some t) (replacing pairs k)) e ∙ s.is; shows = s.shows }

      items_stand : (items : List Item) → ((i : Item) → list_any (same_item i) items ≡ true → now_view p here.routine after (item_head p (Some q) i) ≡ Some (source (item_head p (Some q) i))) → (n : Supply) → AreWorth (renamed (item_heads items) n).pairs
          → (k : Head) → list_any (head_eq k) (item_heads items) ≡ true → StandsAfter (changed_items p q items n).after k
      items_stand [] shown n worth k there = absurd (false≢true there)
      items_stand (i ∷ items) shown n (OnePair _ _ is _ others) k there =
          let h = item_head p (Some q) i in
          let y = fresh_like h n in
          one_stands h (alone y.head) (changed_items p q items y.supply).after k (shown i (or_left (same_item i i) _ (item_itself i)) ∙ ap Some (sym is)) (list_any (head_eq k) (item_heads items)) there
          (λ there. items_stand items (λ j among. shown j (or_right (same_item j i) _ among)) y.supply others k there)

      pub places_stand : ((i : Item) → list_any (same_item i) (var_items q.globals) ≡ true → now_view p here.routine after (item_head p (Some q) i) ≡ Some (source (item_head p (Some q) i)))
          → (formals : List Formal) (arguments : List Argument) → AreWritten formals arguments → (n : Supply) → AreWorth (renamed (heads_changed formals arguments) n).pairs
          → (k : Head) → list_any (head_eq k) (heads_after formals arguments) ≡ true → StandsAfter (changed_places p q formals arguments n).after k
      places_stand shown _ _ NoneWritten n worth k there = items_stand (var_items q.globals) shown n worth k there
      places_stand shown _ _ (ValueGiven f t formals arguments others) n worth k there = places_stand shown formals arguments others n worth k there
      places_stand shown _ _ (PlaceWritten f d written formals arguments others) n (OnePair _ _ is _ more) k there =
          let y = fresh_like (formal_head p f) n in
          one_stands d.root (whole_with d (alone y.head)) (changed_places p q formals arguments y.supply).after k (written (alone y.head) is) (list_any (head_eq k) (heads_after formals arguments)) there
          (λ there. places_stand shown formals arguments others y.supply more k there)

  -- what is not changed is not replaced
  another : (h : Head) (t : Term) (pairs : List (Head × Term)) (k : Head) → head_eq k h ≡ false → replacing pairs k ≡ None → replacing ((h, t) ∷ pairs) k ≡ None
  another h t pairs k other none = ap (λ b. cond b (Some t) (replacing pairs k)) other ∙ none

  items_unreplaced : (items : List Item) (n : Supply) (k : Head) → list_any (head_eq k) (item_heads items) ≡ false → replacing (changed_items p q items n).after k ≡ None
  items_unreplaced [] n k none = refl
  items_unreplaced (i ∷ items) n k none =
      let h = item_head p (Some q) i in
      let y = fresh_like h n in
      another h (alone y.head) (changed_items p q items y.supply).after k (left_false (head_eq k h) (list_any (head_eq k) (item_heads items)) none)
      (items_unreplaced items y.supply k (right_false (head_eq k h) (list_any (head_eq k) (item_heads items)) none))

  pub unreplaced : (formals : List Formal) (arguments : List Argument) (n : Supply) (k : Head) → list_any (head_eq k) (heads_after formals arguments) ≡ false → replacing (changed_places p q formals arguments n).after k ≡ None
  unreplaced [] arguments n k none = items_unreplaced (var_items q.globals) n k none
  unreplaced (f ∷ formals) [] n k none = items_unreplaced (var_items q.globals) n k none
  unreplaced (f ∷ formals) (Given t ∷ arguments) n k none = unreplaced formals arguments n k none
  unreplaced (f ∷ formals) (AtPlace d ∷ arguments) n k none =
      let y = fresh_like (formal_head p f) n in
      another d.root (whole_with d (alone y.head)) (changed_places p q formals arguments y.supply).after k (left_false (head_eq k d.root) (list_any (head_eq k) (heads_after formals arguments)) none)
      (unreplaced formals arguments y.supply k (right_false (head_eq k d.root) (list_any (head_eq k) (heads_after formals arguments)) none))
