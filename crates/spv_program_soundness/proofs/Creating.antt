-- NEW is right.
use Rattle.std.proofs.Common.{◌≡◌, ℕ, zero, suc, Bool, true, false, cond, not, ◌&&◌, ◌||◌, List, [], ◌∷◌, ◌++◌, refl, sym, ap, subst, ◌∙◌, nat_eq, nat_lt, Option, Some, None, arith}
use Rattle.std.specs.Prelude.{is_some}
use Rattle.std.specs.List.{list_any}
use Rattle.std.specs.Option.{unwrap_or}
use Rattle.std.proofs.lemmas.Bool.{false≢true, eq-eqb}
use Rattle.std.proofs.lemmas.Bool.Decides.{nat_tests}
use Rattle.spv_logic.proofs.list.Tests.{left_true, right_true, left_false, right_false, both_false}
use Rattle.spv_logic.specs.declared.names.names.Symbol.{Symbol}
use Rattle.spv_logic.specs.declared.types.TypeId.{TypeId}
use Rattle.spv_logic.specs.declared.types.Sort.{Sort}
use Rattle.spv_logic.specs.declared.types.Shape.{Shape}
use Rattle.spv_logic.specs.declared.conditions.RoutineId.{RoutineId}
use Rattle.spv_logic.specs.declared.types.Sort.TheVariants as sort
use Rattle.spv_logic.specs.declared.operators.Head.{Head}
use Rattle.spv_logic.specs.declared.operators.Head.TheVariants as head
use Rattle.spv_logic.specs.Values.{Value, Number, Truth, Pointer, ArrayOf, RecordOf, ClassOf, AtomOf, PairOf, members_of, pointer_of, value_eq, with_cell, with_member}
use Rattle.spv_logic.specs.Terms.{Term, head_eq, class_with, eval}
use Rattle.spv_logic.specs.Fits.{fits}
use Rattle.spv_logic.specs.Sorts.{variable_sort}
use Rattle.spv_logic.specs.Substitution.{is_variable, value_under, under}
use Rattle.spv_logic.specs.Conditions.{Meaning, Valuation, IsValuation, View, Shows, both, shown_or, holds}
use Rattle.spv_logic.proofs.Equality.{head_eq-true, head_eq-refl}
use Rattle.spv_logic.proofs.Substitution.{worth-variable}
use Rattle.spv_program.specs.declared.types.Item.TheVariants.{Class}
use Rattle.spv_program.specs.Types.{same_type, form_at, sort_of, target_of}
use Rattle.spv_program.specs.Expressions.{Designator}
use Rattle.spv_program.specs.Statements.{New}
use Rattle.spv_program.specs.Programs.{Program, shapes, routine_in}
use Rattle.spv_program.specs.Scopes.{is_own}
use Rattle.spv_program.specs.Uses.{Shared, designator_uses, designator_calls}
use Rattle.spv_program.specs.Frames.{root_of}
use Rattle.spv_program.specs.Changes.{changed_roots}
use Rattle.spv_program.specs.ExpressionTypes.{may_write, designator_type}
use Rattle.spv_program.specs.Supplies.{Supply, fresh_variable}
use Rattle.spv_program.specs.Places.{present, whole_with}
use Rattle.spv_program.specs.Terms.{alone, binary, ternary}
use Rattle.spv_program.specs.Calls.{replacing}
use Rattle.spv_program.specs.ExpressionTerms.{placed}
use Rattle.spv_program.proofs.SortFacts.{some_is}
use Rattle.spv_program.specs.Typing.{is_type, leads_to, statement_ok}
use Rattle.spv_meaning.specs.declared.faults.Fault.TheVariants as fault
use Rattle.spv_meaning.specs.Places.{Place, HeapRow, State, row_of, put}
use Rattle.spv_meaning.specs.Views.{place_of, sees, class_of, with_heap_row, now_view}
use Rattle.spv_meaning.specs.Outcomes.{Ended, ends, stops, take_choice}
use Rattle.spv_meaning.specs.Levels.{Here}
use Rattle.spv_meaning.specs.Evaluation.{Fixed, is_cell_of, fix}
use Rattle.spv_meaning.specs.Walks.{is_new as is_new_cell, with_new_cell, walk}
use Rattle.spv_meaning.specs.FrameTypes.{place_sort}
use Rattle.spv_meaning.specs.Starts.{IsStart}
use Rattle.spv_meaning.specs.Correct.{CorrectBelow}
use Rattle.spv_meaning.specs.Before.{Made, first_name, title_of, before_creation, replaced, all_assuming, negated}
use Rattle.spv_meaning.proofs.Differing.{not_true}
use Rattle.spv_meaning.proofs.Heaps.{class_fits}
use Rattle.spv_preservation.specs.facts.Places.{IsPlace}
use Rattle.spv_preservation.proofs.Roots.{place_there}
use Rattle.spv_preservation.proofs.Frames.{leaves_now}
use Rattle.spv_preservation.proofs.Calls.{FixedRight}
use Rattle.spv_preservation.proofs.Expressions.{fixes}
use Rattle.spv_rule_soundness.specs.evaluation.Laws.{uses_seen}
use Rattle.spv_rule_soundness.specs.statements.Truth.{is_new, IsWindow, IsEntry, meaning_in, shown, all_follow, Ignores}
use Rattle.spv_rule_soundness.specs.statements.Runs.{all_allowed, Reaches, may_change, EndsWell, IsRight}
use Rattle.spv_rule_soundness.specs.statements.Laws.{below}
use Rattle.spv_rule_soundness.proofs.evaluation.Settings.{forms_right}
use Rattle.spv_rule_soundness.proofs.evaluation.Values.{same_types, target_is, seen_left, seen_right}
use Rattle.spv_rule_soundness.proofs.statements.Lists.{not_new, follow-replaced, assumed}
use Rattle.spv_rule_soundness.proofs.statements.Views.{in_first, within}
use Rattle.spv_rule_soundness.proofs.statements.States.{at_state-valuation, at_state-shows, shown_taken, same_shown}
use Rattle.spv_rule_soundness.proofs.statements.Renaming.{fresh_later, fresh_new, fresh_taken, new_differs, old_differs, value_at, valuation_from}
use Rattle.spv_rule_soundness.proofs.statements.Reaching.{reach_then, reach_ends, reach_stops}
use Rattle.spv_writes.specs.Writes.{Writes, nothing, creates, is_in_one}
use Rattle.spv_writes.proofs.Lists.{all_left, all_right, or_left}
use Rattle.spv_writes.proofs.Places.{below_itself}
use Rattle.spv_writes.proofs.Steps.{new_row, new_grows, new_root, new_look}
use Rattle.spv_writes.proofs.Classes.{new_extends}
use Rattle.spv_frame_law.specs.Frames.{root_areas, areas_of, is_of_one}
use Rattle.spv_frame_law.specs.Laws.{IsFramed, below_turns}
use Rattle.spv_frame_law.proofs.Covering.{later_one}
use Rattle.spv_frame_law.proofs.Levels.{below_keeps, place_fixed}
use Rattle.spv_frame_law.proofs.Records.{changes_itself, is_among, use_kept}
use Rattle.spv_frame_law.proofs.Starts.{start_stays}
use Rattle.spv_frame_law.proofs.Uses.{written_root}
use Rattle.spv_frame_law.proofs.Views.{view_stays}
use Rattle.spv_call_evaluation.specs.Known.{Knows, Widely}
use Rattle.spv_call_evaluation.specs.Lying.{BeginsAt, AtName, AtCell, IsFixedAt}
use Rattle.spv_call_evaluation.specs.Functions.{calls_shown}
use Rattle.spv_call_evaluation.specs.Laws.{IsReady}
use Rattle.spv_call_evaluation.proofs.Windows.{reach_with, knows_shown, checked_then}
use Rattle.spv_call_evaluation.proofs.Evaluating.{fixed_at}
use Rattle.spv_call_evaluation.proofs.Functions.{functions_give}
use Rattle.spv_program_soundness.proofs.Roots.{IsRootOf, OfClass, pointed_exists, root_is}
use Rattle.spv_program_soundness.proofs.Kept.{root_kept}
use Rattle.spv_program_soundness.proofs.Staying.{name_and_class}
use Rattle.spv_program_soundness.proofs.Assigning.{below_same, after_start, same_else, root_at}

-- ---- new cells and members

with_other : (cells : List ℕ) (c k : ℕ) → nat_eq k c ≡ false → list_any (nat_eq k) cells ≡ false → list_any (nat_eq k) (with_cell cells c) ≡ false
with_other [] c k other none = both_false (nat_eq k c) false other refl
with_other (d ∷ cells) c k other none =
    by_order (nat_lt c d) (nat_eq c d) (with_other cells c k other (right_false (nat_eq k d) (list_any (nat_eq k) cells) none))
  where
    by_order : (a b : Bool) → list_any (nat_eq k) (with_cell cells c) ≡ false → list_any (nat_eq k) (cond a (c ∷ d ∷ cells) (cond b (d ∷ cells) (d ∷ with_cell cells c))) ≡ false
    by_order true b later = both_false (nat_eq k c) (list_any (nat_eq k) (d ∷ cells)) other none
    by_order false true later = none
    by_order false false later = both_false (nat_eq k d) (list_any (nat_eq k) (with_cell cells c)) (left_false (nat_eq k d) (list_any (nat_eq k) cells) none) later

-- what is no cell is no member of a class
not_member : (p : Program) (t : TypeId) (heap : List HeapRow) (k : ℕ) → is_some (row_of heap k) ≡ false → list_any (nat_eq k) (members_of (class_of (shapes p) heap t)) ≡ false
not_member p t [] k none = refl
not_member p t (r ∷ heap) k none = by_cell (nat_eq r.cell k) refl none (not_member p t heap k)
  where
    by_type : (b : Bool) → nat_eq k r.cell ≡ false → list_any (nat_eq k) (members_of (class_of (shapes p) heap t)) ≡ false → list_any (nat_eq k) (members_of (cond b (with_heap_row r (class_of (shapes p) heap t)) (class_of (shapes p) heap t))) ≡ false
    by_type true other later = with_other (members_of (class_of (shapes p) heap t)) r.cell k other later
    by_type false other later = later

    by_cell : (b : Bool) → nat_eq r.cell k ≡ b → is_some (cond b (Some r) (row_of heap k)) ≡ false → (is_some (row_of heap k) ≡ false → list_any (nat_eq k) (members_of (class_of (shapes p) heap t)) ≡ false) → list_any (nat_eq k) (members_of (class_of (shapes p) (r ∷ heap) t)) ≡ false
    by_cell true e h later = absurd (false≢true (sym h))
    by_cell false e h later = by_type (nat_eq r.type.0 t.0) (grind (arith, nat_tests)) (later h)

-- a new cell is none yet
nowhere : (heap : List HeapRow) (cell : ℕ) → is_new_cell heap cell ≡ true → is_some (row_of heap cell) ≡ false
nowhere heap zero new = absurd (false≢true new)
nowhere heap (suc n) new = not_true (is_some (row_of heap (suc n))) new

-- a pointer that is chosen is one, and of a new cell it is not NIL
not_nil : (all : List Shape) (t : TypeId) (heap : List HeapRow) (v : Value) → fits all v (sort.Ptr t) ≡ true → is_new_cell heap (pointer_of v) ≡ true → value_eq v (Pointer 0) ≡ false
not_nil all t heap (Pointer zero) fit new = absurd (false≢true new)
not_nil all t heap (Pointer (suc n)) fit new = not_zero n
  where
    not_zero : (n : ℕ) → nat_eq (suc n) 0 ≡ false
    not_zero n = grind (arith, nat_tests)
not_nil all t heap (Number z) fit new = absurd (false≢true fit)
not_nil all t heap (Truth b) fit new = absurd (false≢true fit)
not_nil all t heap (ArrayOf d rows) fit new = absurd (false≢true fit)
not_nil all t heap (RecordOf rows) fit new = absurd (false≢true fit)
not_nil all t heap (ClassOf cells d rows) fit new = absurd (false≢true fit)
not_nil all t heap (AtomOf z) fit new = absurd (false≢true fit)
not_nil all t heap (PairOf a b) fit new = absurd (false≢true fit)

-- ---- the state with the cell

module _ (p : Program) (f : IsFramed p) (world : Meaning) (here : Here) (entry : IsEntry p here.entry) (state : State) (start : IsStart p here.routine state) (t : TypeId) (seen : sees (routine_in p here.routine) (Class t) ≡ true)
    (cell content : Value) (fit : fits (shapes p) cell (sort.Ptr t) ≡ true) (new : is_new_cell state.heap (pointer_of cell) ≡ true) (content_fit : fits (shapes p) content (sort_of p.forms t) ≡ true) where
  abbrev more : State
  more = with_new_cell (pointer_of cell) t content state

  created : Writes p (areas_of state.frames (Shared (Class t) ∷ [])) state (with_new_cell (pointer_of cell) t content state)
  created =
      creates state (with_new_cell (pointer_of cell) t content state) (pointer_of cell) t content new content_fit (or_left (same_type t t) false (eq-eqb t.0 t.0 refl)) (nothing (with_new_cell (pointer_of cell) t content state))

  more_start : IsStart p here.routine (with_new_cell (pointer_of cell) t content state)
  more_start = start_stays p here.routine state start (areas_of state.frames (Shared (Class t) ∷ [])) (with_new_cell (pointer_of cell) t content state) created

  -- all but the class shows what it did
  more_same : (k : Head) → head_eq k (head.ClassVar t 0) ≡ false → now_view p here.routine (with_new_cell (pointer_of cell) t content state) k ≡ now_view p here.routine state k
  more_same k other = by_kind k other
    where
      Same : Head → Type 0
      Same k = now_view p here.routine (with_new_cell (pointer_of cell) t content state) k ≡ now_view p here.routine state k

      stays : (k : Head) → is_of_one (routine_in p here.routine) (Shared (Class t) ∷ []) k ≡ false → Same k
      stays k none = view_stays p here.routine state start (Shared (Class t) ∷ []) (and_true (sees (routine_in p here.routine) (Class t)) seen) (with_new_cell (pointer_of cell) t content state) created k none
        where
          and_true : (b : Bool) → b ≡ true → (b && true) ≡ true
          and_true true h = refl
          and_true false h = h

      or_false : (b : Bool) → (b && true) ≡ false → (b || false) ≡ false
      or_false true h = absurd (false≢true (sym h))
      or_false false h = refl

      by_kind : (k : Head) → head_eq k (head.ClassVar t 0) ≡ false → Same k
      by_kind (head.Var y q zero) other = stays (head.Var y q zero) (name_and_class (is_own (routine_in p here.routine)) y t)
      by_kind (head.Var y q (suc n)) other = refl
      by_kind (head.ClassVar c zero) other = stays (head.ClassVar c zero) (or_false (same_type c t) other)
      by_kind (head.ClassVar c (suc n)) other = refl
      by_kind _ other = refl

  place_more : (o : Option RoutineId) (x : Symbol) → place_of o (with_new_cell (pointer_of cell) t content state) x ≡ place_of o state x
  place_more None x = refl
  place_more (Some id) x = refl

  -- where a place begins it begins still
  begins_more : (u : Valuation) (k : Head) (pointer : Option Term) (beginning : Place) → BeginsAt p (meaning_in p world) u here state k pointer beginning → BeginsAt p (meaning_in p world) u here (with_new_cell (pointer_of cell) t content state) k pointer beginning
  begins_more u _ _ _ (AtName x type told shown) =
      subst (λ (a : Place). BeginsAt p (meaning_in p world) u here (with_new_cell (pointer_of cell) t content state) (head.Var x (sort_of p.forms type) 0) None a) (place_more here.routine x) (AtName x type told shown)
  begins_more u _ _ _ (AtCell c q shown found) = AtCell c q shown (by_row (row_of state.heap (pointer_of (eval (meaning_in p world) u q))) refl found)
    where
      by_row : (o : Option HeapRow) → row_of state.heap (pointer_of (eval (meaning_in p world) u q)) ≡ o → is_cell_of c o ≡ true → is_cell_of c (row_of (with_new_cell (pointer_of cell) t content state).heap (pointer_of (eval (meaning_in p world) u q))) ≡ true
      by_row None e h = absurd (false≢true h)
      by_row (Some r) e h = ap (is_cell_of c) (new_row state.heap (pointer_of cell) (pointer_of (eval (meaning_in p world) u q)) t content r new e) ∙ h

  -- ---- valuations

  -- u shows the state, with the fresh variables of the pointer and the content
  module _ (n : Supply) (window : View) (is : IsWindow p n window) (u : Valuation) (val : IsValuation (shapes p) u) (shows : Shows (shown p here window state) u)
      (P C : Head) (variable_P : is_variable P ≡ true) (variable_C : is_variable C ≡ true) (at_P : u P ≡ cell) (at_C : u C ≡ content) where
    abbrev m : Meaning
    m = meaning_in p world

    abbrev E : Term
    E = ternary head.Extend (alone (head.ClassVar t 0)) (alone P) (alone C)

    class_now : u (head.ClassVar t 0) ≡ class_of (shapes p) state.heap t
    class_now = shows (head.ClassVar t 0) (class_of (shapes p) state.heap t) (in_first _ (window (head.ClassVar t 0)) _ (in_first _ (here.entry (head.ClassVar t 0)) _ (ap (λ b. cond b (Some (class_of (shapes p) state.heap t)) None) seen)))

    worth_P : eval (meaning_in p world) u (alone P) ≡ cell
    worth_P = worth-variable (meaning_in p world) u P [] variable_P ∙ at_P

    worth_C : eval (meaning_in p world) u (alone C) ≡ content
    worth_C = worth-variable (meaning_in p world) u C [] variable_C ∙ at_C

    extended : eval (meaning_in p world) u (ternary head.Extend (alone (head.ClassVar t 0)) (alone P) (alone C)) ≡ class_of (shapes p) (with_new_cell (pointer_of cell) t content state).heap t
    extended = (λ i. class_with (with_member (members_of (class_now i)) (pointer_of (worth_P i))) (class_now i) (worth_P i) (worth_C i)) ∙ sym (new_extends p state (pointer_of cell) t content new)

    -- the cell was none
    none_before : holds (meaning_in p world) u (negated (binary head.PointerTo (alone P) (alone (head.ClassVar t 0)))) ≡ true
    none_before =
        (λ i. not (list_any (nat_eq (pointer_of (worth_P i))) (members_of (class_now i)))) ∙ ap not (not_member p t state.heap (pointer_of cell) (nowhere state.heap (pointer_of cell) new))

    no_nil : holds (meaning_in p world) u (negated (binary head.Eq (alone P) (alone (head.Nil t)))) ≡ true
    no_nil = ap (λ w. not (value_eq w (Pointer 0))) worth_P ∙ ap not (not_nil (shapes p) t state.heap cell fit new)

    -- the valuation with the class extended
    abbrev pairs : List (Head × Term)
    pairs = (head.ClassVar t 0, ternary head.Extend (alone (head.ClassVar t 0)) (alone P) (alone C)) ∷ []

    abbrev wider : Valuation
    wider = under (meaning_in p world) (replacing ((head.ClassVar t 0, ternary head.Extend (alone (head.ClassVar t 0)) (alone P) (alone C)) ∷ [])) u

    class_then : under (meaning_in p world) (replacing ((head.ClassVar t 0, ternary head.Extend (alone (head.ClassVar t 0)) (alone P) (alone C)) ∷ [])) u (head.ClassVar t 0) ≡ class_of (shapes p) (with_new_cell (pointer_of cell) t content state).heap t
    class_then =
        ap (λ b. value_under (meaning_in p world) u (cond b (Some (ternary head.Extend (alone (head.ClassVar t 0)) (alone P) (alone C))) None) (u (head.ClassVar t 0))) (head_eq-refl (head.ClassVar t 0)) ∙ extended

    else_then : (k : Head) → head_eq k (head.ClassVar t 0) ≡ false → under (meaning_in p world) (replacing ((head.ClassVar t 0, ternary head.Extend (alone (head.ClassVar t 0)) (alone P) (alone C)) ∷ [])) u k ≡ u k
    else_then k other = ap (λ b. value_under (meaning_in p world) u (cond b (Some (ternary head.Extend (alone (head.ClassVar t 0)) (alone P) (alone C))) None) (u k)) other

    wider_right : IsValuation (shapes p) (under (meaning_in p world) (replacing ((head.ClassVar t 0, ternary head.Extend (alone (head.ClassVar t 0)) (alone P) (alone C)) ∷ [])) u)
    wider_right = valuation_from p _ (λ k variable. by_head k variable (head_eq k (head.ClassVar t 0)) refl)
      where
        by_head : (k : Head) → is_variable k ≡ true → (b : Bool) → head_eq k (head.ClassVar t 0) ≡ b → fits (shapes p) (under (meaning_in p world) (replacing ((head.ClassVar t 0, ternary head.Extend (alone (head.ClassVar t 0)) (alone P) (alone C)) ∷ [])) u k) (variable_sort k) ≡ true
        by_head k variable true same =
            subst (λ (z : Head). fits (shapes p) (under (meaning_in p world) (replacing ((head.ClassVar t 0, ternary head.Extend (alone (head.ClassVar t 0)) (alone P) (alone C)) ∷ [])) u z) (variable_sort z) ≡ true) (sym (head_eq-true k (head.ClassVar t 0) same))
            (ap (λ w. fits (shapes p) w (sort.Class t)) class_then ∙ class_fits p (forms_right p f.typed) (with_new_cell (pointer_of cell) t content state).heap more_start.heap t)
        by_head k variable false other = ap (λ w. fits (shapes p) w (variable_sort k)) (else_then k other) ∙ value_at p u val k variable

    wider_shows : Shows (shown p here window (with_new_cell (pointer_of cell) t content state)) (under (meaning_in p world) (replacing ((head.ClassVar t 0, ternary head.Extend (alone (head.ClassVar t 0)) (alone P) (alone C)) ∷ [])) u)
    wider_shows k w e = by_head (head_eq k (head.ClassVar t 0)) refl
      where
        by_head : (b : Bool) → head_eq k (head.ClassVar t 0) ≡ b → under (meaning_in p world) (replacing ((head.ClassVar t 0, ternary head.Extend (alone (head.ClassVar t 0)) (alone P) (alone C)) ∷ [])) u k ≡ w
        by_head true same =
            subst (λ (z : Head). shown p here window (with_new_cell (pointer_of cell) t content state) z ≡ Some w → under (meaning_in p world) (replacing ((head.ClassVar t 0, ternary head.Extend (alone (head.ClassVar t 0)) (alone P) (alone C)) ∷ [])) u z ≡ w) (sym (head_eq-true k (head.ClassVar t 0) same))
            (λ e. class_then ∙ some_is (sym (in_first _ (window (head.ClassVar t 0)) _ (in_first _ (here.entry (head.ClassVar t 0)) _ (ap (λ b. cond b (Some (class_of (shapes p) (with_new_cell (pointer_of cell) t content state).heap t)) None) seen))) ∙ e)) e
        by_head false other =
            else_then k other ∙ shows k w (ap (λ o. shown_or (shown_or o (here.entry k)) (window k)) (sym (more_same k other)) ∙ e)

    -- it knows the state with the cell, and the state without
    knows_more : Knows p (meaning_in p world) here (with_new_cell (pointer_of cell) t content state) window (under (meaning_in p world) (replacing ((head.ClassVar t 0, ternary head.Extend (alone (head.ClassVar t 0)) (alone P) (alone C)) ∷ [])) u)
    knows_more = knows_shown p f.typed world here entry n window is (with_new_cell (pointer_of cell) t content state) more_start _ wider_right wider_shows

    knows_before : Knows p (meaning_in p world) here state window (under (meaning_in p world) (replacing ((head.ClassVar t 0, ternary head.Extend (alone (head.ClassVar t 0)) (alone P) (alone C)) ∷ [])) u)
    knows_before = record {
      setting = record {
        sorted = knows_more.setting.sorted;
        named = (knows_shown p f.typed world here entry n window is state start u val shows).setting.named;
        cells = λ c r q seen_c row type. knows_more.setting.cells c r q seen_c (new_row state.heap (pointer_of cell) q t content r new row) type;
      };
      shows = knows_more.shows;
    }

-- ---- choices

module _ (p : Program) (world : Meaning) where
  taken : (s : Sort) (choices : List Value) → Reaches p world all_allowed Value (λ v. fits (shapes p) v s ≡ true) (take_choice (shapes p) s choices)
  taken s [] = reach_stops p world all_allowed _ fault.Choice [] refl
  taken s (v ∷ rest) = by_fit (fits (shapes p) v s) refl
    where
      by_fit : (b : Bool) → fits (shapes p) v s ≡ b → Reaches p world all_allowed Value (λ v. fits (shapes p) v s ≡ true) (cond b (ends v rest) (stops fault.Choice (v ∷ rest)))
      by_fit true fit = reach_ends p world all_allowed _ v rest fit
      by_fit false fit = reach_stops p world all_allowed _ fault.Choice (v ∷ rest) refl

-- ---- NEW

module _ (p : Program) (f : IsFramed p) (world : Meaning) (here : Here) (entry : IsEntry p here.entry) (line : ℕ) (d : Designator) (t : TypeId) (ok : statement_ok p (routine_in p here.routine) (New line d t) ≡ true)
    (calls : calls_shown p (routine_in p here.routine) (designator_calls d) ≡ true) (uses : uses_seen (routine_in p here.routine) (designator_uses (is_own (routine_in p here.routine)) true d ++ record { root = Shared (Class t); changes = true; line = line } ∷ []) ≡ true)
    (turns : ℕ) (correct : CorrectBelow p world turns) where
  -- the place is one for pointers to cells of the type
  record Pointed : Type 0 where
    type : TypeId
    is : designator_type p (routine_in p here.routine) d ≡ Some type
    target : target_of (form_at p.forms type.0) ≡ Some t

  pointed : Pointed
  pointed = by_place (designator_type p (routine_in p here.routine) d) refl (right_true (may_write (routine_in p here.routine) d) _ ok)
    where
      by_target : (q : TypeId) → designator_type p (routine_in p here.routine) d ≡ Some q → (o : Option TypeId) → target_of (form_at p.forms q.0) ≡ o → is_type t o ≡ true → Pointed
      by_target q e None told h = absurd (false≢true h)
      by_target q e (Some u) told h = record { type = q; is = e; target = told ∙ ap Some (sym (same_types t u h)) }

      by_place : (o : Option TypeId) → designator_type p (routine_in p here.routine) d ≡ o → leads_to p t o ≡ true → Pointed
      by_place None e h = absurd (false≢true h)
      by_place (Some q) e h = by_target q e (target_of (form_at p.forms q.0)) refl h

  pointer_sort : sort_of p.forms pointed.type ≡ sort.Ptr t
  pointer_sort = target_is p pointed.type t pointed.target

  place_uses : uses_seen (routine_in p here.routine) (designator_uses (is_own (routine_in p here.routine)) true d) ≡ true
  place_uses = seen_left (routine_in p here.routine) (designator_uses (is_own (routine_in p here.routine)) true d) _ uses

  seen : sees (routine_in p here.routine) (Class t) ≡ true
  seen = left_true (sees (routine_in p here.routine) (Class t)) true (seen_right (routine_in p here.routine) (designator_uses (is_own (routine_in p here.routine)) true d) _ uses)

  module _ (q : Made) (ignores : Ignores p world q.supply q.conditions) (window : View) (is : IsWindow p q.supply window) (state : State) (start : IsStart p here.routine state) where
    abbrev P : Head
    P = (fresh_variable (first_name d) (sort.Ptr t) (placed p (routine_in p here.routine) q.supply d).supply).head

    abbrev second : Supply
    second = (fresh_variable (first_name d) (sort.Ptr t) (placed p (routine_in p here.routine) q.supply d).supply).supply

    abbrev C : Head
    C = (fresh_variable (title_of p t) (sort_of p.forms t) (fresh_variable (first_name d) (sort.Ptr t) (placed p (routine_in p here.routine) q.supply d).supply).supply).head

    P_new : is_new (placed p (routine_in p here.routine) q.supply d).supply P ≡ true
    P_new = fresh_new (head.Var (first_name d) (sort.Ptr t) 0) (placed p (routine_in p here.routine) q.supply d).supply refl

    C_second : is_new second C ≡ true
    C_second = fresh_new (head.Var (title_of p t) (sort_of p.forms t) 0) second refl

    C_new : is_new (placed p (routine_in p here.routine) q.supply d).supply C ≡ true
    C_new = fresh_later (head.Var (first_name d) (sort.Ptr t) 0) (placed p (routine_in p here.routine) q.supply d).supply C C_second

    C_not_P : head_eq C P ≡ false
    C_not_P = old_differs second C P C_second (fresh_taken (head.Var (first_name d) (sort.Ptr t) 0) (placed p (routine_in p here.routine) q.supply d).supply refl)

    ready : IsReady p world here (below p turns) state
    ready = record { typed = f.typed; entry = entry; start = start; functions = functions_give p f world here entry turns correct state start }

    is_root : IsRootOf p (routine_in p here.routine) (root_of (is_own (routine_in p here.routine)) d) (placed p (routine_in p here.routine) q.supply d).target.root
    is_root = root_is p f.typed (routine_in p here.routine) d pointed.type pointed.is true place_uses q.supply

    root_changes : may_change p here (New line d t) (placed p (routine_in p here.routine) q.supply d).target.root ≡ true
    root_changes =
        let roots = changed_roots p (routine_in p here.routine) (New line d t) in
        let own = is_own (routine_in p here.routine) in
        root_kept p f.typed (routine_in p here.routine) (is_among roots) (root_of own d) (placed p (routine_in p here.routine) q.supply d).target.root is_root
        (written_root (is_among roots) own d (all_left (use_kept (is_among roots)) (designator_uses own true d) _ (changes_itself p (routine_in p here.routine) (New line d t)).uses))

    class_changes : may_change p here (New line d t) (head.ClassVar t 0) ≡ true
    class_changes =
        let roots = changed_roots p (routine_in p here.routine) (New line d t) in
        let own = is_own (routine_in p here.routine) in
        root_kept p f.typed (routine_in p here.routine) (is_among roots) (Shared (Class t)) (head.ClassVar t 0) (OfClass t (pointed_exists p f.typed pointed.type.0 t pointed.target) seen)
        (left_true (is_among roots (Shared (Class t))) true (all_right (use_kept (is_among roots)) (designator_uses own true d) (record { root = Shared (Class t); changes = true; line = line } ∷ []) (changes_itself p (routine_in p here.routine) (New line d t)).uses))

    module _ (choices : List Value) (fixed : Fixed) (fix_ended : (fix p (below p turns) here d state choices).end ≡ Ended fixed)
        (at : Widely p world here state q.supply (placed p (routine_in p here.routine) q.supply d).supply window (before_creation t (placed p (routine_in p here.routine) q.supply d).target (alone P) (alone C) q.conditions) Fixed (IsFixedAt p (meaning_in p world) here state (placed p (routine_in p here.routine) q.supply d).target pointed.type) fixed)
        (cell content : Value) (fit : fits (shapes p) cell (sort.Ptr t) ≡ true) (new : is_new_cell state.heap (pointer_of cell) ≡ true) (content_fit : fits (shapes p) content (sort_of p.forms t) ≡ true) where
      fixed_right : FixedRight p start.right.types state.heap pointed.type fixed
      fixed_right =
          (fixes p f.typed (below_turns p turns) (below_keeps p f.typed turns) here start.right.types start.right.inside d pointed.type pointed.is state.heap state (leaves_now p start.right.types state start.right.right) choices).holds fixed
          (subst (λ b. (fix p b here d state choices).end ≡ Ended fixed) (below_same p turns) fix_ended)

      place : IsPlace (shapes p) state fixed.place (sort_of p.forms pointed.type)
      place =
          place_there p start.right.types state start.right.right fixed.place (sort_of p.forms pointed.type)
          (ap (λ (x : State). place_sort p start.right.types x.heap fixed.place) (sym at.passes.state_is) ∙ fixed_right.place)

      place_now : IsPlace (shapes p) (with_new_cell (pointer_of cell) t content state) fixed.place (sort_of p.forms pointed.type)
      place_now = record { whole = place.whole; sort = place.sort; is = new_root state (pointer_of cell) t content new fixed.place.root place.whole place.is; fit = place.fit; leads = place.leads }

      inside : is_in_one (with_new_cell (pointer_of cell) t content state).heap (root_areas state.frames (root_of (is_own (routine_in p here.routine)) d)) fixed.place ≡ true
      inside =
          later_one state.heap (with_new_cell (pointer_of cell) t content state).heap (new_grows state (pointer_of cell) t content new) fixed.place fixed.place (below_itself fixed.place) (root_areas state.frames (root_of (is_own (routine_in p here.routine)) d))
          (place_fixed p f here start.right.types start.right.inside d pointed.type pointed.is state start.right.right turns choices fixed (subst (λ b. (fix p b here d state choices).end ≡ Ended fixed) (below_same p turns) fix_ended)).inside

      cell_fit : fits (shapes p) cell (sort_of p.forms pointed.type) ≡ true
      cell_fit = ap (fits (shapes p) cell) pointer_sort ∙ fit

      more_right : IsStart p here.routine (with_new_cell (pointer_of cell) t content state)
      more_right = more_start p f world here entry state start t seen cell content fit new content_fit

      -- all but the root shows what it did in the state with the cell, and all but the class what it did before
      else_same : (k : Head) → head_eq k (placed p (routine_in p here.routine) q.supply d).target.root ≡ false → now_view p here.routine (put (with_new_cell (pointer_of cell) t content state) fixed.place cell) k ≡ now_view p here.routine (with_new_cell (pointer_of cell) t content state) k
      else_same k other =
          same_else p f here (with_new_cell (pointer_of cell) t content state) more_right (root_of (is_own (routine_in p here.routine)) d) (placed p (routine_in p here.routine) q.supply d).target.root is_root fixed.place (sort_of p.forms pointed.type) cell place_now cell_fit inside k other

      class_same : (k : Head) → head_eq k (head.ClassVar t 0) ≡ false → now_view p here.routine (with_new_cell (pointer_of cell) t content state) k ≡ now_view p here.routine state k
      class_same k other = more_same p f world here entry state start t seen cell content fit new content_fit k other

      -- ---- a valuation of what shows at the end

      module _ (v : Valuation) (val : IsValuation (shapes p) v) (shows : Shows (shown p here window (put (with_new_cell (pointer_of cell) t content state) fixed.place cell)) v) where
        u : Valuation
        u h = cond (head_eq h P) cell (cond (head_eq h C) content (within (shown p here at.wider state) v h))

        u_else : (k : Head) → is_new (placed p (routine_in p here.routine) q.supply d).supply k ≡ false → u k ≡ within (shown p here at.wider state) v k
        unfolding u
        u_else k old =
            ap (λ b. cond b cell (cond (head_eq k C) content (within (shown p here at.wider state) v k))) (new_differs (placed p (routine_in p here.routine) q.supply d).supply k P old P_new)
            ∙ ap (λ b. cond b content (within (shown p here at.wider state) v k)) (new_differs (placed p (routine_in p here.routine) q.supply d).supply k C old C_new)

        at_P : u P ≡ cell
        unfolding u
        at_P = ap (λ b. cond b cell (cond (head_eq P C) content (within (shown p here at.wider state) v P))) (head_eq-refl P)

        at_C : u C ≡ content
        unfolding u
        at_C =
            ap (λ b. cond b cell (cond (head_eq C C) content (within (shown p here at.wider state) v C))) C_not_P ∙ ap (λ b. cond b content (within (shown p here at.wider state) v C)) (head_eq-refl C)

        base_val : IsValuation (shapes p) (within (shown p here at.wider state) v)
        base_val = at_state-valuation p (forms_right p f.typed) world here entry (placed p (routine_in p here.routine) q.supply d).supply at.wider at.widens.is_window state start v val

        u_val : IsValuation (shapes p) u
        unfolding u
        u_val = valuation_from p u (λ k variable. by_P k variable (head_eq k P) refl)
          where
            by_C : (k : Head) → is_variable k ≡ true → (b : Bool) → head_eq k C ≡ b → fits (shapes p) (cond b content (within (shown p here at.wider state) v k)) (variable_sort k) ≡ true
            by_C k variable true same = ap (λ (z : Head). fits (shapes p) content (variable_sort z)) (head_eq-true k C same) ∙ content_fit
            by_C k variable false other = value_at p (within (shown p here at.wider state) v) base_val k variable

            by_P : (k : Head) → is_variable k ≡ true → (b : Bool) → head_eq k P ≡ b → fits (shapes p) (cond b cell (cond (head_eq k C) content (within (shown p here at.wider state) v k))) (variable_sort k) ≡ true
            by_P k variable true same = ap (λ (z : Head). fits (shapes p) cell (variable_sort z)) (head_eq-true k P same) ∙ fit
            by_P k variable false other = by_C k variable (head_eq k C) refl

        u_shows : Shows (shown p here at.wider state) u
        u_shows k w e =
            u_else k (shown_taken p (forms_right p f.typed) world here entry (placed p (routine_in p here.routine) q.supply d).supply at.wider at.widens.is_window state k w e)
            ∙ at_state-shows p (forms_right p f.typed) world here entry (placed p (routine_in p here.routine) q.supply d).supply at.wider at.widens.is_window state v k w e

        root_now : now_view p here.routine (put (with_new_cell (pointer_of cell) t content state) fixed.place cell) (placed p (routine_in p here.routine) q.supply d).target.root
            ≡ Some (eval (meaning_in p world) (under (meaning_in p world) (replacing ((head.ClassVar t 0, ternary head.Extend (alone (head.ClassVar t 0)) (alone P) (alone C)) ∷ [])) u) (whole_with (placed p (routine_in p here.routine) q.supply d).target (alone P)))
        root_now =
            let target = (placed p (routine_in p here.routine) q.supply d).target in
            let n = (placed p (routine_in p here.routine) q.supply d).supply in
            let w1 = under (meaning_in p world) (replacing ((head.ClassVar t 0, ternary head.Extend (alone (head.ClassVar t 0)) (alone P) (alone C)) ∷ [])) u in
            let lies = at.passes.lies w1 (knows_before p f world here entry state start t seen cell content fit new content_fit n at.wider at.widens.is_window u u_val u_shows P C refl refl at_P at_C) in
            let shows1 = wider_shows p f world here entry state start t seen cell content fit new content_fit n at.wider at.widens.is_window u u_val u_shows P C refl refl at_P at_C in
            let shows_now : Shows (now_view p here.routine (with_new_cell (pointer_of cell) t content state)) w1 = λ k w e. shows1 k w (in_first _ (at.wider k) w (in_first _ (here.entry k) w e)) in
            root_at p f here (with_new_cell (pointer_of cell) t content state) more_right (root_of (is_own (routine_in p here.routine)) d) target.root is_root fixed.place (sort_of p.forms pointed.type) cell place_now cell_fit inside world at.wider w1
            (knows_more p f world here entry state start t seen cell content fit new content_fit n at.wider at.widens.is_window u u_val u_shows P C refl refl at_P at_C) shows_now (alone P) at_P
            target.root target.pointer target.path lies.beginning (begins_more p f world here entry state start t seen cell content fit new content_fit w1 target.root target.pointer lies.beginning lies.begins) (λ i. record { root = lies.root i; path = lies.path i })
            (eval (meaning_in p world) w1 (present target)) (new_look state (pointer_of cell) t content new fixed.place _ lies.holds)

        agrees : (k : Head) → is_new q.supply k ≡ false → v k ≡ under (meaning_in p world) (replacing (((placed p (routine_in p here.routine) q.supply d).target.root, whole_with (placed p (routine_in p here.routine) q.supply d).target (alone P)) ∷ [])) (under (meaning_in p world) (replacing ((head.ClassVar t 0, ternary head.Extend (alone (head.ClassVar t 0)) (alone P) (alone C)) ∷ [])) u) k
        agrees k old = by_root (head_eq k (placed p (routine_in p here.routine) q.supply d).target.root) refl
          where
            w1 : Valuation
            w1 = under (meaning_in p world) (replacing ((head.ClassVar t 0, ternary head.Extend (alone (head.ClassVar t 0)) (alone P) (alone C)) ∷ [])) u

            shown_now : (z : Head) (w : Value) → now_view p here.routine (put (with_new_cell (pointer_of cell) t content state) fixed.place cell) z ≡ Some w → v z ≡ w
            shown_now z w e = shows z w (in_first _ (window z) w (in_first _ (here.entry z) w e))

            by_class : head_eq k (placed p (routine_in p here.routine) q.supply d).target.root ≡ false → (b : Bool) → head_eq k (head.ClassVar t 0) ≡ b → v k ≡ under (meaning_in p world) (replacing ((head.ClassVar t 0, ternary head.Extend (alone (head.ClassVar t 0)) (alone P) (alone C)) ∷ [])) u k
            by_class other true same =
                shown_now k (class_of (shapes p) (with_new_cell (pointer_of cell) t content state).heap t)
                (else_same k other ∙ (ap (now_view p here.routine (with_new_cell (pointer_of cell) t content state)) (head_eq-true k (head.ClassVar t 0) same) ∙ ap (λ b. cond b (Some (class_of (shapes p) (with_new_cell (pointer_of cell) t content state).heap t)) None) seen))
                ∙ sym (ap (under (meaning_in p world) (replacing ((head.ClassVar t 0, ternary head.Extend (alone (head.ClassVar t 0)) (alone P) (alone C)) ∷ [])) u) (head_eq-true k (head.ClassVar t 0) same)
                ∙ class_then p f world here entry state start t seen cell content fit new content_fit (placed p (routine_in p here.routine) q.supply d).supply at.wider at.widens.is_window u u_val u_shows P C refl refl at_P at_C)
            by_class other false none =
                sym (else_then p f world here entry state start t seen cell content fit new content_fit (placed p (routine_in p here.routine) q.supply d).supply at.wider at.widens.is_window u u_val u_shows P C refl refl at_P at_C k none
                ∙ (u_else k (not_new q.supply (placed p (routine_in p here.routine) q.supply d).supply k at.widens.later old)
                ∙ (ap (λ o. unwrap_or (shown_or (both here.entry (now_view p here.routine state) k) o) (v k)) (at.widens.adds k old)
                ∙ same_shown p (forms_right p f.typed) world here entry q.supply window is state (put (with_new_cell (pointer_of cell) t content state) fixed.place cell) v k (else_same k other ∙ class_same k none) shows)))

            by_root : (b : Bool) → head_eq k (placed p (routine_in p here.routine) q.supply d).target.root ≡ b → v k ≡ value_under (meaning_in p world) (under (meaning_in p world) (replacing ((head.ClassVar t 0, ternary head.Extend (alone (head.ClassVar t 0)) (alone P) (alone C)) ∷ [])) u) (cond b (Some (whole_with (placed p (routine_in p here.routine) q.supply d).target (alone P))) None) (under (meaning_in p world) (replacing ((head.ClassVar t 0, ternary head.Extend (alone (head.ClassVar t 0)) (alone P) (alone C)) ∷ [])) u k)
            by_root true same = ap v (head_eq-true k _ same) ∙ shown_now (placed p (routine_in p here.routine) q.supply d).target.root _ root_now
            by_root false other = by_class other (head_eq k (head.ClassVar t 0)) refl

        all_true : all_follow (meaning_in p world) v q.conditions ≡ true
        all_true =
            let m = meaning_in p world in
            let target = (placed p (routine_in p here.routine) q.supply d).target in
            let n = (placed p (routine_in p here.routine) q.supply d).supply in
            let one = (head.ClassVar t 0, ternary head.Extend (alone (head.ClassVar t 0)) (alone P) (alone C)) ∷ [] in
            let two = (target.root, whole_with target (alone P)) ∷ [] in
            let not_nil_there = no_nil p f world here entry state start t seen cell content fit new content_fit n at.wider at.widens.is_window u u_val u_shows P C refl refl at_P at_C in
            let none_there = none_before p f world here entry state start t seen cell content fit new content_fit n at.wider at.widens.is_window u u_val u_shows P C refl refl at_P at_C in
            let known = assumed m u (negated (binary head.PointerTo (alone P) (alone (head.ClassVar t 0)))) (replaced one (replaced two q.conditions)) none_there
            (assumed m u (negated (binary head.Eq (alone P) (alone (head.Nil t)))) (all_assuming (negated (binary head.PointerTo (alone P) (alone (head.ClassVar t 0)))) (replaced one (replaced two q.conditions))) not_nil_there (at.widens.true_there u u_val u_shows)) in
            ignores.alike v _ (λ k variable old. agrees k old)
            ∙ (sym (follow-replaced m (under m (replacing one) u) two q.conditions) ∙ (sym (follow-replaced m u one (replaced two q.conditions)) ∙ known))

      ends_well : EndsWell p world here window (may_change p here (New line d t)) q.conditions state (put (with_new_cell (pointer_of cell) t content state) fixed.place cell)
      ends_well = record {
        is_start = after_start p f here (with_new_cell (pointer_of cell) t content state) more_right (root_of (is_own (routine_in p here.routine)) d) (placed p (routine_in p here.routine) q.supply d).target.root is_root fixed.place (sort_of p.forms pointed.type) cell place_now cell_fit inside;
        true_there = all_true;
        same = λ k leaves. by_root k leaves (head_eq k (placed p (routine_in p here.routine) q.supply d).target.root) refl (head_eq k (head.ClassVar t 0)) refl;
      }
        where
          by_root : (k : Head) → may_change p here (New line d t) k ≡ false → (b : Bool) → head_eq k (placed p (routine_in p here.routine) q.supply d).target.root ≡ b → (c : Bool) → head_eq k (head.ClassVar t 0) ≡ c → now_view p here.routine (put (with_new_cell (pointer_of cell) t content state) fixed.place cell) k ≡ now_view p here.routine state k
          by_root k leaves true same c e = absurd (false≢true (sym leaves ∙ (ap (may_change p here (New line d t)) (head_eq-true k _ same) ∙ root_changes)))
          by_root k leaves false other true same = absurd (false≢true (sym leaves ∙ (ap (may_change p here (New line d t)) (head_eq-true k _ same) ∙ class_changes)))
          by_root k leaves false other false none = else_same k other ∙ class_same k none

  pub new_right : IsRight p world all_allowed here (New line d t) (walk p (below p turns) here (New line d t))
  new_right q ignores window is state start from choices =
      let place = placed p (routine_in p here.routine) q.supply d in
      let pointer = fresh_variable (first_name d) (sort.Ptr t) place.supply in
      let content = fresh_variable (title_of p t) (sort_of p.forms t) pointer.supply in
      let Q = EndsWell p world here window (may_change p here (New line d t)) q.conditions state in
      reach_then p world all_allowed _ Q (fix p (below p turns) here d state choices) _
      (reach_with p world _ (fix p (below p turns) here d state choices)
      (fixed_at p world here (below p turns) state (ready q ignores window is state start) d pointed.type pointed.is calls true place_uses q.supply window (before_creation t place.target (alone pointer.head) (alone content.head) q.conditions) (record { is_window = is; true_there = from }) state refl choices))
      (λ fixed given rest.
      let at = given.passes in
      reach_then p world all_allowed _ Q (take_choice (shapes p) (sort.Ptr t) rest) _ (taken p world (sort.Ptr t) rest)
      (λ cell fit more. checked_then p world Q (is_new_cell fixed.state.heap (pointer_of cell)) fault.Choice cell more _
      (λ new. reach_then p world all_allowed _ Q (take_choice (shapes p) (sort_of p.forms t) more) _ (taken p world (sort_of p.forms t) more)
      (λ w content_fit last. reach_ends p world all_allowed Q _ last
      (subst (λ (s : State). EndsWell p world here window (may_change p here (New line d t)) q.conditions state (put (with_new_cell (pointer_of cell) t w s) fixed.place cell)) (sym at.passes.state_is)
      (ends_well q ignores window is state start choices fixed given.ended at cell w fit (subst (λ (s : State). is_new_cell s.heap (pointer_of cell) ≡ true) at.passes.state_is new) content_fit))))))
