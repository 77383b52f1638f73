-- What a root shows after writing at or below one of its places.
use Rattle.std.proofs.Common.{◌≡◌, ℕ, true, cond, List, map, pos, refl, sym, ap, subst, ◌∙◌, Option, Some, None}
use Rattle.std.specs.Option.{option_and_then}
use Rattle.std.proofs.lemmas.Bool.{false≢true}
use Rattle.spv_logic.specs.declared.types.TypeId.{TypeId}
use Rattle.spv_logic.specs.declared.types.Sort.{Sort}
use Rattle.spv_logic.specs.declared.operators.Head.{Head}
use Rattle.spv_logic.specs.declared.operators.Head.TheVariants as head
use Rattle.spv_logic.specs.Values.{Value, Pointer, members_of, rows_in, default_in, row_at, pointer_of}
use Rattle.spv_logic.specs.Terms.{Term, class_with, eval}
use Rattle.spv_logic.specs.Conditions.{Meaning, Valuation, View, Shows}
use Rattle.spv_program.specs.Types.{sort_of}
use Rattle.spv_program.specs.Places.{Step, base, changed_part, in_root}
use Rattle.spv_program.specs.Programs.{Program, shapes}
use Rattle.spv_program.specs.Terms.{alone, binary}
use Rattle.spv_meaning.specs.Places.{PathStep, Place, HeapRow, State, CellOf, whole, row_of, part_at, with_part, look, value_or_zero}
use Rattle.spv_meaning.specs.Views.{place_of, class_of, now_view}
use Rattle.spv_meaning.specs.Levels.{Here}
use Rattle.spv_meaning.specs.Evaluation.{is_cell_of}
use Rattle.spv_meaning.specs.FrameTypes.{row_type}
use Rattle.spv_meaning.specs.Starts.{Area, IsStart}
use Rattle.spv_preservation.specs.facts.Places.{IsPlace}
use Rattle.spv_rule_soundness.specs.statements.Truth.{meaning_in}
use Rattle.spv_rule_soundness.proofs.evaluation.Settings.{forms_right, view_name}
use Rattle.spv_rule_soundness.proofs.evaluation.Values.{same_types, cell_there}
use Rattle.spv_writes.specs.Writes.{Writes, part_of, is_touched_below, is_touched_in}
use Rattle.spv_writes.proofs.Parts.{part_written}
use Rattle.spv_writes.proofs.Classes.{one_cell_written}
use Rattle.spv_frame_law.specs.Laws.{IsFramed}
use Rattle.spv_frame_law.proofs.Views.{place_stays}
use Rattle.spv_call_evaluation.specs.Known.{Knows}
use Rattle.spv_call_evaluation.specs.Lying.{step_at, BeginsAt, AtName, AtCell}
use Rattle.spv_program_soundness.proofs.Parts.{changed_worth, look_joined}

-- a cell of a type
pub cell_typed : (c : TypeId) (o : Option HeapRow) → is_cell_of c o ≡ true → option_and_then row_type o ≡ Some c
cell_typed c None h = absurd (false≢true h)
cell_typed c (Some r) h = ap Some (same_types r.type c h)

-- of the areas that are written in, those that overlap where the steps of a place begin lie at or below the place; and where that is
-- in a cell, those that overlap the cells of its type lie in that cell
pub record OnlyThere (heap : List HeapRow) (areas : List Area) (h : Head) (beginning : Place) (path : List PathStep) : Type 0 where
  pub below : is_touched_below heap areas beginning path ≡ true
  pub cell : (c : TypeId) (cell : ℕ) → h ≡ head.ClassVar c 0 → beginning ≡ whole (CellOf cell) → is_touched_in heap areas c cell ≡ true

module _ (p : Program) (f : IsFramed p) (here : Here) (state : State) (start : IsStart p here.routine state) (areas : List Area) (after : State) (wrote : Writes p areas state after) (a : Place) (s : Sort) (place : IsPlace (shapes p) state a s) (w : Value) (held : look after a ≡ Some w)
    (world : Meaning) (window : View) (u : Valuation) (knows : Knows p (meaning_in p world) here state window u) (shows : Shows (now_view p here.routine state) u) (t : Term) (worth : eval (meaning_in p world) u t ≡ w) where
  abbrev steps : List Step → List PathStep
  steps path = map (step_at (meaning_in p world) u) path

  -- what is where the steps begin, afterwards
  written : (beginning : Place) (path : List PathStep) → a ≡ part_of beginning path → is_touched_below state.heap areas beginning path ≡ true → (x : Value) → look state beginning ≡ Some x → look after beginning ≡ Some (with_part x path w)
  written beginning path is below x there =
      part_written p areas state after wrote beginning path s (subst (λ (b : Place). IsPlace (shapes p) state b s) is place) below x there
      ∙ ap (λ o. Some (with_part x path (value_or_zero o))) (ap (look after) (sym is) ∙ held)

  -- the part that was there
  part_was : (beginning : Place) (path : List PathStep) → a ≡ part_of beginning path → (x y : Value) → look state beginning ≡ Some x → look state a ≡ Some y → part_at x path ≡ Some y
  part_was beginning path is x y there holds =
      sym (ap (option_and_then (λ w. part_at w path)) there) ∙ (sym (look_joined state beginning path) ∙ (sym (ap (look state) is) ∙ holds))

  pub root_after : (k : Head) (pointer : Option Term) (path : List Step) (beginning : Place) → BeginsAt p (meaning_in p world) u here state k pointer beginning → a ≡ part_of beginning (map (step_at (meaning_in p world) u) path)
      → OnlyThere state.heap areas k beginning (map (step_at (meaning_in p world) u) path) → (y : Value) → look state a ≡ Some y
      → now_view p here.routine after k ≡ Some (eval (meaning_in p world) u (in_root k pointer (changed_part (base k pointer) path t)))
  root_after _ _ path _ (AtName x type told seen) is only y holds =
      let beginning = place_of here.routine state x in
      let key = head.Var x (sort_of p.forms type) 0 in
      let there = knows.setting.named x type told seen in
      let changed = changed_worth (meaning_in p world) u path (alone key) t y (part_was beginning (map (step_at (meaning_in p world) u) path) is (u key) y there holds) in
      view_name p here.routine after x type _ told seen (ap (look after) (place_stays p areas here.routine state after wrote x) ∙ written beginning (map (step_at (meaning_in p world) u) path) is only.below (u key) there)
      ∙ ap Some (sym (changed ∙ ap (λ z. with_part (u key) (map (step_at (meaning_in p world) u) path) z) worth))
  root_after _ _ path _ (AtCell c q seen found) is only y holds =
      let cell = pointer_of (eval (meaning_in p world) u q) in
      let beginning = whole (CellOf cell) in
      let key = head.ClassVar c 0 in
      let content = row_at (rows_in (u key)) (pos cell) (default_in (u key)) in
      let there : look state beginning ≡ Some content = cell_there p (meaning_in p world) u here state knows.setting c cell seen (row_of state.heap cell) refl found in
      let rel = map (step_at (meaning_in p world) u) path in
      let changed = changed_worth (meaning_in p world) u path (binary head.Cell (alone key) q) t y (part_was beginning rel is content y there holds) in
      let class : u key ≡ class_of (shapes p) state.heap c = shows key (class_of (shapes p) state.heap c) (ap (λ b. cond b (Some (class_of (shapes p) state.heap c)) None) seen) in
      let now = one_cell_written p (forms_right p f.typed) start.right.types areas state after wrote start.right.right c cell (cell_typed c (row_of state.heap cell) found) (only.cell c cell refl refl) in
      let held_now = written beginning rel is only.below content there in
      ap (λ b. cond b (Some (class_of (shapes p) after.heap c)) None) seen
      ∙ ap Some (now
      ∙ (ap (λ o. class_with (members_of (class_of (shapes p) state.heap c)) (class_of (shapes p) state.heap c) (Pointer cell) (value_or_zero o)) held_now
      ∙ (ap (λ z. class_with (members_of z) z (Pointer cell) (with_part content rel w)) (sym class)
      ∙ ap (λ z. class_with (members_of (u key)) (u key) (Pointer cell) z) (sym (changed ∙ ap (λ z. with_part content rel z) worth)))))
