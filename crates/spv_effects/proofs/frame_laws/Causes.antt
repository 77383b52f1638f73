-- What a fault of the walk names.
use Rattle.std.proofs.Common.{◌≡◌, ℕ, nat_lt, Bool, true, false, not, ◌&&◌, ◌||◌, cond, nat_eq, List, [], ◌∷◌, ◌++◌, Option, Some, None, is_some, option_map, refl, sym, ap, subst, ◌∙◌, arith}
use Rattle.std.specs.List.{list_any}
use Rattle.std.proofs.lemmas.Bool.Decides.{nat_tests}
use Rattle.spv_program.specs.declared.types.Item.{Item}
use Rattle.spv_program.specs.declared.types.Item.TheVariants.{Variable, Class}
use Rattle.spv_program.specs.Lists.{first_of, all_differ}
use Rattle.spv_logic.specs.declared.conditions.RoutineId.{RoutineId}
use Rattle.spv_program.specs.Expressions.{Call, Arguments, call}
use Rattle.spv_program.specs.Programs.{Formal, GlobalItem, Routine, Program, routine_at, lists}
use Rattle.spv_program.specs.Scopes.{is_own}
use Rattle.spv_program.specs.Types.{same_item}
use Rattle.spv_program.specs.Uses.{Root, Own, Shared, Use, same_root, statement_calls}
use Rattle.spv_program.specs.Frames.{place_roots, is_item_of, globals_of, routine_uses}
use Rattle.spv_effects.specs.frame_walk.Events.{Event, Used, Called, statement_events, clause_events, body_events, uses_in, calls_in}
use Rattle.spv_effects.specs.frame_walk.FrameWalk.{var_parameter, var_group, writes_at, heading_fault, anything, root_fault, use_fault, missing_item, twice, listed, root_item, meeting_fault, call_fault, event_fault, events_fault, line_of, earliest, part_fault, routine_fault, routines_fault, main_fault, alias}
use Rattle.spv_effects.specs.declared.frame_walk.faults.FrameFault.{FrameFault}
use Rattle.spv_effects.specs.declared.frame_walk.faults.FrameFault.TheVariants.{Alias, GlobalMissing, FunctionWrites, Memory}
use Rattle.spv_effects.specs.frame_laws.Causes.{has_var_group, writes_function, is_missing_use, is_missing_call, misses, meets, is_alias, aliases, has_cause}
use Rattle.spv_effects.specs.frame_laws.Laws.{FaultsHaveCauses}
use Rattle.spv_effects.proofs.frame_laws.Parts.{parts_of_routine, parts_of_statement}
use Rattle.spv_effects.proofs.frame_laws.Framed.{twice_free, listed_free}

-- ---- choices and lists

abbrev value_or : {X : Type 0} → X → Option X → X
value_or d None = d
value_or d (Some x) = x

some_same : {X : Type 0} (x y : X) → Some x ≡ Some y → x ≡ y
some_same x y h = ap (value_or x) h

of_first : {X : Type 0} (P : Type 0) (a b : Option X) (x : X) → first_of a b ≡ Some x → (a ≡ Some x → P) → (b ≡ Some x → P) → P
of_first P (Some y) b x h here there = here h
of_first P None b x h here there = there h

of_earliest : (P : Type 0) (a b : Option FrameFault) (f : FrameFault) → earliest a b ≡ Some f → (a ≡ Some f → P) → (b ≡ Some f → P) → P
of_earliest P None b f h here there = there h
of_earliest P (Some g) None f h here there = here h
of_earliest P (Some g) (Some e) f h here there = by_case (nat_lt (line_of e) (line_of g)) h
  where
    by_case : (b : Bool) → cond b (Some e) (Some g) ≡ Some f → P
    by_case true k = there k
    by_case false k = here k

none_some : {X : Type 0} (x : X) → None ≡ Some x → ⊥
none_some x h = cc

of_map : {X Y : Type 0} (P : Type 0) (f : X → Y) (o : Option X) (y : Y) → option_map f o ≡ Some y → ((x : X) → o ≡ Some x → f x ≡ y → P) → P
of_map P f None y h found = absurd cc
of_map P f (Some x) y h found = found x refl (some_same (f x) y h)

or_true : (b : Bool) → b || true ≡ true
or_true true = refl
or_true false = refl

or_left : (a b : Bool) → a ≡ true → a || b ≡ true
or_left a b h = ap (λ c. c || b) h

or_right : (a b : Bool) → b ≡ true → a || b ≡ true
or_right a b h = ap (λ c. a || c) h ∙ or_true a

and_both : (a b : Bool) → a ≡ true → b ≡ true → a && b ≡ true
and_both a b h k = ap (λ c. c && b) h ∙ k

or_more : (a b c d : Bool) → (a ≡ true → c ≡ true) → (b ≡ true → d ≡ true) → a || b ≡ true → c || d ≡ true
or_more true b c d f g h = or_left c d (f refl)
or_more false b c d f g h = or_right c d (g h)

and_more : (a b c : Bool) → (b ≡ true → c ≡ true) → a && b ≡ true → a && c ≡ true
and_more true b c f h = f h
and_more false b c f h = h

any_first : {X : Type 0} (t : X → Bool) (x : X) (xs : List X) → t x ≡ true → list_any t (x ∷ xs) ≡ true
any_first t x xs h = or_left (t x) (list_any t xs) h

any_later : {X : Type 0} (t : X → Bool) (x : X) (xs : List X) → list_any t xs ≡ true → list_any t (x ∷ xs) ≡ true
any_later t x xs h = or_right (t x) (list_any t xs) h

nat_same : (n : ℕ) → nat_eq n n ≡ true
nat_same n = grind (arith, nat_tests)

item_same : (i : Item) → same_item i i ≡ true
item_same (Variable x) = nat_same x.0
item_same (Class t) = nat_same t.0

root_same : (r : Root) → same_root r r ≡ true
root_same (Own x) = nat_same x.0
root_same (Shared i) = item_same i

not_false : (b : Bool) → b ≡ false → not b ≡ true
not_false b h = ap not h

not_not : (b : Bool) → false ≡ not b → b ≡ true
not_not true h = refl
not_not false h = h

-- ---- headings

parameter_cause : (formals : List Formal) (n : ℕ) → var_parameter formals ≡ Some n → list_any (λ f. f.by_place && nat_eq f.line n) formals ≡ true
parameter_cause [] n h = absurd cc
parameter_cause (f ∷ formals) n h = by_case f.by_place refl h (parameter_cause formals n)
  where
    by_case : (b : Bool) → f.by_place ≡ b → cond b (Some f.line) (var_parameter formals) ≡ Some n
        → (var_parameter formals ≡ Some n → list_any (λ (f : Formal). f.by_place && nat_eq f.line n) formals ≡ true)
        → list_any (λ (f : Formal). f.by_place && nat_eq f.line n) (f ∷ formals) ≡ true
    by_case true e k later =
        any_first (λ (f : Formal). f.by_place && nat_eq f.line n) f formals
        (and_both f.by_place (nat_eq f.line n) e (subst (λ (m : ℕ). nat_eq f.line m ≡ true) (some_same f.line n k) (nat_same f.line)))
    by_case false e k later = any_later (λ (f : Formal). f.by_place && nat_eq f.line n) f formals (later k)

group_cause : (globals : List GlobalItem) (n : ℕ) → var_group globals ≡ Some n → list_any (λ g. g.is_var && nat_eq g.line n) globals ≡ true
group_cause [] n h = absurd cc
group_cause (g ∷ globals) n h = by_case g.is_var refl h (group_cause globals n)
  where
    by_case : (b : Bool) → g.is_var ≡ b → cond b (Some g.line) (var_group globals) ≡ Some n
        → (var_group globals ≡ Some n → list_any (λ (g : GlobalItem). g.is_var && nat_eq g.line n) globals ≡ true)
        → list_any (λ (g : GlobalItem). g.is_var && nat_eq g.line n) (g ∷ globals) ≡ true
    by_case true e k later =
        any_first (λ (g : GlobalItem). g.is_var && nat_eq g.line n) g globals
        (and_both g.is_var (nat_eq g.line n) e (subst (λ (m : ℕ). nat_eq g.line m ≡ true) (some_same g.line n k) (nat_same g.line)))
    by_case false e k later = any_later (λ (g : GlobalItem). g.is_var && nat_eq g.line n) g globals (later k)

-- ---- missing items

missing_cause : (may : Item → Bool → Bool) (globals : List GlobalItem) (i : Item) → missing_item may globals ≡ Some i
    → list_any (λ g. same_item g.item i && not (may i g.is_var)) globals ≡ true
missing_cause may [] i h = absurd cc
missing_cause may (g ∷ globals) i h = by_case (may g.item g.is_var) refl h (missing_cause may globals i)
  where
    by_case : (b : Bool) → may g.item g.is_var ≡ b → cond b (missing_item may globals) (Some g.item) ≡ Some i
        → (missing_item may globals ≡ Some i → list_any (λ (g : GlobalItem). same_item g.item i && not (may i g.is_var)) globals ≡ true)
        → list_any (λ (g : GlobalItem). same_item g.item i && not (may i g.is_var)) (g ∷ globals) ≡ true
    by_case true e k later = any_later (λ (g : GlobalItem). same_item g.item i && not (may i g.is_var)) g globals (later k)
    by_case false e k later =
        any_first (λ (g : GlobalItem). same_item g.item i && not (may i g.is_var)) g globals
        (subst (λ (j : Item). same_item g.item j && not (may j g.is_var) ≡ true) (some_same g.item i k)
        (and_both (same_item g.item g.item) (not (may g.item g.is_var)) (item_same g.item) (not_false (may g.item g.is_var) e)))

never_missing : (globals : List GlobalItem) → missing_item anything globals ≡ None
never_missing [] = refl
never_missing (g ∷ globals) = never_missing globals

-- ---- roots that meet

abbrev names : Item → Root → Bool
names i r = same_item (root_item r) i

twice_named : (roots : List Root) (r : Root) → twice roots ≡ Some r → list_any (names (root_item r)) roots ≡ true
twice_named [] r h = absurd cc
twice_named (q ∷ roots) r h = by_case (list_any (same_root q) roots) h (twice_named roots r)
  where
    by_case : (b : Bool) → cond b (Some q) (twice roots) ≡ Some r → (twice roots ≡ Some r → list_any (names (root_item r)) roots ≡ true)
        → list_any (names (root_item r)) (q ∷ roots) ≡ true
    by_case true k later =
        any_first (names (root_item r)) q roots (subst (λ (s : Root). names (root_item s) q ≡ true) (some_same q r k) (item_same (root_item q)))
    by_case false k later = any_later (names (root_item r)) q roots (later k)

listed_named : (globals : List GlobalItem) (roots : List Root) (r : Root) → listed globals roots ≡ Some r → list_any (names (root_item r)) roots ≡ true
listed_named globals [] r h = absurd cc
listed_named globals (q ∷ roots) r h = by_case (is_item_of globals q) h (listed_named globals roots r)
  where
    by_case : (b : Bool) → cond b (Some q) (listed globals roots) ≡ Some r → (listed globals roots ≡ Some r → list_any (names (root_item r)) roots ≡ true)
        → list_any (names (root_item r)) (q ∷ roots) ≡ true
    by_case true k later =
        any_first (names (root_item r)) q roots (subst (λ (s : Root). names (root_item s) q ≡ true) (some_same q r k) (item_same (root_item q)))
    by_case false k later = any_later (names (root_item r)) q roots (later k)

roots_meet : (globals : List GlobalItem) (roots : List Root) (r : Root) → first_of (twice roots) (listed globals roots) ≡ Some r → meets globals (root_item r) roots ≡ true
roots_meet globals roots r h =
    of_first (meets globals (root_item r) roots ≡ true) (twice roots) (listed globals roots) r h
    (λ k. and_both (not (all_differ same_root roots) || list_any (is_item_of globals) roots) (list_any (names (root_item r)) roots)
    (or_left (not (all_differ same_root roots)) (list_any (is_item_of globals) roots)
    (not_false (all_differ same_root roots) (sym (twice_free roots) ∙ ap (λ o. not (is_some o)) k)))
    (twice_named roots r k))
    (λ k. and_both (not (all_differ same_root roots) || list_any (is_item_of globals) roots) (list_any (names (root_item r)) roots)
    (or_right (not (all_differ same_root roots)) (list_any (is_item_of globals) roots)
    (not_not (list_any (is_item_of globals) roots) (sym (ap (λ o. not (is_some o)) k) ∙ listed_free globals roots)))
    (listed_named globals roots r k))

-- ---- uses and calls

module _ (p : Program) where
  module _ (r : Routine) where
    -- what is a cause among these uses and calls of the routine
    abbrev cause : List Use → List Call → FrameFault → Bool
    cause us cs (FunctionWrites line name) = false
    cause us cs (GlobalMissing line i) = list_any (is_missing_use r.globals line i) us || list_any (is_missing_call p r.globals line i) cs
    cause us cs (Alias line i j) = same_item i j && list_any (is_alias p (Some r) line i) cs
    cause us cs Memory = false

    later_use : (u : Use) (us : List Use) (cs : List Call) (f : FrameFault) → cause us cs f ≡ true → cause (u ∷ us) cs f ≡ true
    later_use u us cs (FunctionWrites line name) h = h
    later_use u us cs (GlobalMissing line i) h =
        or_more _ _ _ _ (any_later (is_missing_use r.globals line i) u us) (λ k. k) h
    later_use u us cs (Alias line i j) h = h
    later_use u us cs Memory h = h

    later_call : (c : Call) (us : List Use) (cs : List Call) (f : FrameFault) → cause us cs f ≡ true → cause us (c ∷ cs) f ≡ true
    later_call c us cs (FunctionWrites line name) h = h
    later_call c us cs (GlobalMissing line i) h =
        or_more _ _ _ _ (λ k. k) (any_later (is_missing_call p r.globals line i) c cs) h
    later_call c us cs (Alias line i j) h = and_more (same_item i j) _ _ (any_later (is_alias p (Some r) line i) c cs) h
    later_call c us cs Memory h = h

    use_cause : (u : Use) (us : List Use) (cs : List Call) (f : FrameFault) → use_fault (lists r.globals) u ≡ Some f → cause (u ∷ us) cs f ≡ true
    use_cause u us cs f h = by_root u.root refl h
      where
        by_case : (i : Item) → u.root ≡ Shared i → (b : Bool) → lists r.globals i u.changes ≡ b → cond b None (Some (GlobalMissing u.line i)) ≡ Some f → cause (u ∷ us) cs f ≡ true
        by_case i is true e k = absurd cc
        by_case i is false e k =
            subst (λ (g : FrameFault). cause (u ∷ us) cs g ≡ true) (some_same (GlobalMissing u.line i) f k)
            (or_left (list_any (is_missing_use r.globals u.line i) (u ∷ us)) (list_any (is_missing_call p r.globals u.line i) cs)
            (any_first (is_missing_use r.globals u.line i) u us
            (and_both (nat_eq u.line u.line) (same_root u.root (Shared i) && not (lists r.globals i u.changes)) (nat_same u.line)
            (and_both (same_root u.root (Shared i)) (not (lists r.globals i u.changes)) (ap (λ root. same_root root (Shared i)) is ∙ root_same (Shared i)) (not_false (lists r.globals i u.changes) e)))))

        by_root : (root : Root) → u.root ≡ root → root_fault (lists r.globals) root u.changes u.line ≡ Some f → cause (u ∷ us) cs f ≡ true
        by_root (Own x) is k = absurd cc
        by_root (Shared i) is k = by_case i is (lists r.globals i u.changes) refl k

  alias_first : (here : Option Routine) (q : RoutineId) (line : ℕ) (given : Arguments) (cs : List Call) (root : Root)
      → first_of (twice (place_roots (is_own here) given)) (listed (globals_of (routine_at p q)) (place_roots (is_own here) given)) ≡ Some root
      → same_item (root_item root) (root_item root) && list_any (is_alias p here line (root_item root)) (call q line given ∷ cs) ≡ true
  alias_first here q line given cs root h =
      and_both (same_item (root_item root) (root_item root)) (list_any (is_alias p here line (root_item root)) (call q line given ∷ cs)) (item_same (root_item root))
      (any_first (is_alias p here line (root_item root)) (call q line given) cs
      (and_both (nat_eq line line) (meets (globals_of (routine_at p q)) (root_item root) (place_roots (is_own here) given)) (nat_same line)
      (roots_meet (globals_of (routine_at p q)) (place_roots (is_own here) given) root h)))

  call_cause : (r : Routine) (c : Call) (us : List Use) (cs : List Call) (f : FrameFault) → call_fault p (is_own (Some r)) (lists r.globals) c ≡ Some f → cause r us (c ∷ cs) f ≡ true
  call_cause r (call q line given) us cs f h =
      of_first (cause r us (call q line given ∷ cs) f ≡ true) (option_map (GlobalMissing line) (missing_item (lists r.globals) (globals_of (routine_at p q))))
      (meeting_fault line (globals_of (routine_at p q)) (place_roots (is_own (Some r)) given)) f h
      (λ k. of_map (cause r us (call q line given ∷ cs) f ≡ true) (GlobalMissing line) (missing_item (lists r.globals) (globals_of (routine_at p q))) f k
      (λ i found is. subst (λ (g : FrameFault). cause r us (call q line given ∷ cs) g ≡ true) is
      (or_right (list_any (is_missing_use r.globals line i) us) (list_any (is_missing_call p r.globals line i) (call q line given ∷ cs))
      (any_first (is_missing_call p r.globals line i) (call q line given) cs
      (and_both (nat_eq line line) _ (nat_same line) (missing_cause (lists r.globals) (globals_of (routine_at p q)) i found))))))
      (λ k. of_map (cause r us (call q line given ∷ cs) f ≡ true) (alias line)
      (first_of (twice (place_roots (is_own (Some r)) given)) (listed (globals_of (routine_at p q)) (place_roots (is_own (Some r)) given))) f k
      (λ root found is. subst (λ (g : FrameFault). cause r us (call q line given ∷ cs) g ≡ true) is (alias_first (Some r) q line given cs root found)))

  events_cause : (r : Routine) (es : List Event) (f : FrameFault) → events_fault p (is_own (Some r)) (lists r.globals) es ≡ Some f → cause r (uses_in es) (calls_in es) f ≡ true
  events_cause r [] f h = absurd cc
  events_cause r (Used u ∷ es) f h =
      of_first (cause r (u ∷ uses_in es) (calls_in es) f ≡ true) (use_fault (lists r.globals) u) (events_fault p (is_own (Some r)) (lists r.globals) es) f h
      (use_cause r u (uses_in es) (calls_in es) f) (λ k. later_use r u (uses_in es) (calls_in es) f (events_cause r es f k))
  events_cause r (Called c ∷ es) f h =
      of_first (cause r (uses_in es) (c ∷ calls_in es) f ≡ true) (call_fault p (is_own (Some r)) (lists r.globals) c) (events_fault p (is_own (Some r)) (lists r.globals) es) f h
      (call_cause r c (uses_in es) (calls_in es) f) (λ k. later_call r c (uses_in es) (calls_in es) f (events_cause r es f k))

  -- ---- routines

  abbrev routine_cause : Routine → FrameFault → Bool
  routine_cause r (FunctionWrites line name) = writes_function line name r
  routine_cause r (GlobalMissing line i) = misses p line i r
  routine_cause r (Alias line i j) = same_item i j && aliases p line i (Some r) r.body
  routine_cause r Memory = false

  heading_cause : (r : Routine) (f : FrameFault) → heading_fault r ≡ Some f → routine_cause r f ≡ true
  heading_cause r f h = by_case (is_some r.result) refl h
    where
      var_line : Option ℕ
      var_line = first_of (var_parameter r.formals) (var_group r.globals)

      group : (n : ℕ) → first_of (var_parameter r.formals) (var_group r.globals) ≡ Some n → has_var_group n r ≡ true
      group n k =
          of_first (has_var_group n r ≡ true) (var_parameter r.formals) (var_group r.globals) n k
          (λ e. or_left (list_any (λ (f : Formal). f.by_place && nat_eq f.line n) r.formals) (list_any (λ (g : GlobalItem). g.is_var && nat_eq g.line n) r.globals) (parameter_cause r.formals n e))
          (λ e. or_right (list_any (λ (f : Formal). f.by_place && nat_eq f.line n) r.formals) (list_any (λ (g : GlobalItem). g.is_var && nat_eq g.line n) r.globals) (group_cause r.globals n e))

      by_case : (b : Bool) → is_some r.result ≡ b → cond b (writes_at r.name (first_of (var_parameter r.formals) (var_group r.globals))) None ≡ Some f → routine_cause r f ≡ true
      by_case true e k =
          of_map (routine_cause r f ≡ true) (λ n. FunctionWrites n r.name) (first_of (var_parameter r.formals) (var_group r.globals)) f k
          (λ n found is. subst (λ (g : FrameFault). routine_cause r g ≡ true) is
          (and_both (nat_eq r.name.0 r.name.0) (is_some r.result && has_var_group n r) (nat_same r.name.0) (and_both (is_some r.result) (has_var_group n r) e (group n found))))
      by_case false e k = absurd cc

  in_routine : (r : Routine) (f : FrameFault) → cause r (routine_uses r) (statement_calls r.body) f ≡ true → routine_cause r f ≡ true
  in_routine r (FunctionWrites line name) h = absurd cc
  in_routine r (GlobalMissing line i) h = h
  in_routine r (Alias line i j) h = h
  in_routine r Memory h = h

  events_later : (r : Routine) (es fs : List Event) (f : FrameFault) → cause r (uses_in fs) (calls_in fs) f ≡ true → cause r (uses_in (es ++ fs)) (calls_in (es ++ fs)) f ≡ true
  events_later r [] fs f h = h
  events_later r (Used u ∷ es) fs f h = later_use r u (uses_in (es ++ fs)) (calls_in (es ++ fs)) f (events_later r es fs f h)
  events_later r (Called c ∷ es) fs f h = later_call r c (uses_in (es ++ fs)) (calls_in (es ++ fs)) f (events_later r es fs f h)

  first_events : (r : Routine) (es fs : List Event) (f : FrameFault) → part_fault p r es ≡ Some f → part_fault p r (es ++ fs) ≡ Some f
  first_events r [] fs f h = absurd cc
  first_events r (e ∷ es) fs f h = by_case (event_fault p (is_own (Some r)) (lists r.globals) e) h (first_events r es fs f)
    where
      by_case : (o : Option FrameFault) → first_of o (part_fault p r es) ≡ Some f → (part_fault p r es ≡ Some f → part_fault p r (es ++ fs) ≡ Some f)
          → first_of o (part_fault p r (es ++ fs)) ≡ Some f
      by_case (Some g) k later = k
      by_case None k later = later k

  parts_cause : (r : Routine) (f : FrameFault) → cause r (uses_in (clause_events r ++ body_events r)) (calls_in (clause_events r ++ body_events r)) f ≡ true → routine_cause r f ≡ true
  parts_cause r f h =
      in_routine r f
      (subst (λ (cs : List Call). cause r (routine_uses r) cs f ≡ true) (parts_of_routine r).calls
      (subst (λ (us : List Use). cause r us (calls_in (clause_events r ++ body_events r)) f ≡ true) (parts_of_routine r).uses h))

  one_routine : (r : Routine) (f : FrameFault) → routine_fault p r ≡ Some f → routine_cause r f ≡ true
  one_routine r f h =
      of_earliest (routine_cause r f ≡ true) (first_of (heading_fault r) (part_fault p r (clause_events r))) (part_fault p r (body_events r)) f h
      (λ k. of_first (routine_cause r f ≡ true) (heading_fault r) (part_fault p r (clause_events r)) f k (heading_cause r f)
      (λ l. parts_cause r f (events_cause r (clause_events r ++ body_events r) f (first_events r (clause_events r) (body_events r) f l))))
      (λ k. parts_cause r f (events_later r (clause_events r) (body_events r) f (events_cause r (body_events r) f k)))

  -- a cause in one of these routines
  abbrev routines_cause : List Routine → FrameFault → Bool
  routines_cause rs (FunctionWrites line name) = list_any (writes_function line name) rs
  routines_cause rs (GlobalMissing line i) = list_any (misses p line i) rs
  routines_cause rs (Alias line i j) = same_item i j && list_any (λ r. aliases p line i (Some r) r.body) rs
  routines_cause rs Memory = false

  first_routine : (r : Routine) (rs : List Routine) (f : FrameFault) → routine_cause r f ≡ true → routines_cause (r ∷ rs) f ≡ true
  first_routine r rs (FunctionWrites line name) h = any_first (writes_function line name) r rs h
  first_routine r rs (GlobalMissing line i) h = any_first (misses p line i) r rs h
  first_routine r rs (Alias line i j) h = and_more (same_item i j) _ _ (any_first (λ r. aliases p line i (Some r) r.body) r rs) h
  first_routine r rs Memory h = h

  later_routine : (r : Routine) (rs : List Routine) (f : FrameFault) → routines_cause rs f ≡ true → routines_cause (r ∷ rs) f ≡ true
  later_routine r rs (FunctionWrites line name) h = any_later (writes_function line name) r rs h
  later_routine r rs (GlobalMissing line i) h = any_later (misses p line i) r rs h
  later_routine r rs (Alias line i j) h = and_more (same_item i j) _ _ (any_later (λ r. aliases p line i (Some r) r.body) r rs) h
  later_routine r rs Memory h = h

  all_routines : (found : Option FrameFault) (rs : List Routine) (f : FrameFault) (P : Type 0) → routines_fault p found rs ≡ Some f
      → (found ≡ Some f → P) → (routines_cause rs f ≡ true → P) → P
  all_routines found [] f P h before here = before h
  all_routines found (r ∷ rs) f P h before here =
      all_routines (earliest found (routine_fault p r)) rs f P h
      (λ k. of_earliest P found (routine_fault p r) f k before (λ l. here (first_routine r rs f (one_routine r f l))))
      (λ k. here (later_routine r rs f k))

  -- ---- the main block

  abbrev main_cause : List Call → FrameFault → Bool
  main_cause cs (FunctionWrites line name) = false
  main_cause cs (GlobalMissing line i) = false
  main_cause cs (Alias line i j) = same_item i j && list_any (is_alias p None line i) cs
  main_cause cs Memory = false

  later_main : (c : Call) (cs : List Call) (f : FrameFault) → main_cause cs f ≡ true → main_cause (c ∷ cs) f ≡ true
  later_main c cs (FunctionWrites line name) h = h
  later_main c cs (GlobalMissing line i) h = h
  later_main c cs (Alias line i j) h = and_more (same_item i j) _ _ (any_later (is_alias p None line i) c cs) h
  later_main c cs Memory h = h

  main_call_cause : (c : Call) (cs : List Call) (f : FrameFault) → call_fault p (is_own None) anything c ≡ Some f → main_cause (c ∷ cs) f ≡ true
  main_call_cause (call q line given) cs f h =
      of_map (main_cause (call q line given ∷ cs) f ≡ true) (alias line)
      (first_of (twice (place_roots (is_own None) given)) (listed (globals_of (routine_at p q)) (place_roots (is_own None) given))) f
      (sym (ap (λ o. first_of (option_map (GlobalMissing line) o) (meeting_fault line (globals_of (routine_at p q)) (place_roots (is_own None) given))) (never_missing (globals_of (routine_at p q)))) ∙ h)
      (λ root found is. subst (λ (g : FrameFault). main_cause (call q line given ∷ cs) g ≡ true) is (alias_first None q line given cs root found))

  main_use : (u : Use) (o : Option FrameFault) → first_of (use_fault anything u) o ≡ o
  main_use u o = by_root u.root
    where
      by_root : (root : Root) → first_of (root_fault anything root u.changes u.line) o ≡ o
      by_root (Own x) = refl
      by_root (Shared i) = refl

  main_events : (es : List Event) (f : FrameFault) → events_fault p (is_own None) anything es ≡ Some f → main_cause (calls_in es) f ≡ true
  main_events [] f h = absurd cc
  main_events (Used u ∷ es) f h = main_events es f (sym (main_use u (events_fault p (is_own None) anything es)) ∙ h)
  main_events (Called c ∷ es) f h =
      of_first (main_cause (c ∷ calls_in es) f ≡ true) (call_fault p (is_own None) anything c) (events_fault p (is_own None) anything es) f h
      (main_call_cause c (calls_in es) f) (λ k. later_main c (calls_in es) f (main_events es f k))

  -- ---- the program

  in_routines : (f : FrameFault) → routines_cause p.routines f ≡ true → has_cause p f ≡ true
  in_routines (FunctionWrites line name) h = h
  in_routines (GlobalMissing line i) h = h
  in_routines (Alias line i j) h = and_more (same_item i j) _ _ (or_left (list_any (λ r. aliases p line i (Some r) r.body) p.routines) (aliases p line i None p.main.body)) h
  in_routines Memory h = h

  in_main : (f : FrameFault) → main_cause (statement_calls p.main.body) f ≡ true → has_cause p f ≡ true
  in_main (FunctionWrites line name) h = absurd cc
  in_main (GlobalMissing line i) h = absurd cc
  in_main (Alias line i j) h = and_more (same_item i j) _ _ (or_right (list_any (λ r. aliases p line i (Some r) r.body) p.routines) (aliases p line i None p.main.body)) h
  in_main Memory h = h

pub faults_have_causes : FaultsHaveCauses
faults_have_causes p f h =
    of_earliest (has_cause p f ≡ true) (routines_fault p None p.routines) (main_fault p) f h
    (λ k. all_routines p None p.routines f (has_cause p f ≡ true) k (λ l. absurd (none_some f l)) (λ l. in_routines p f l))
    (λ k. in_main p f (subst (λ (cs : List Call). main_cause p cs f ≡ true) (parts_of_statement (is_own None) p.main.body).calls (main_events p (statement_events (is_own None) p.main.body) f k)))
