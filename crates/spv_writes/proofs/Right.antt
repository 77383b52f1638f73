-- Right states stay right.
use Rattle.std.proofs.Common.{◌≡◌, ℕ, Bool, true, false, cond, not, List, [], ◌∷◌, length, refl, sym, ap, subst, ◌∙◌, nat_eq, Option, Some, None}
use Rattle.std.specs.Option.{option_and_then}
use Rattle.std.proofs.lemmas.Bool.{false≢true}
use Rattle.spv_logic.proofs.list.Tests.{left_true}
use Rattle.spv_logic.specs.declared.names.names.Symbol.{Symbol}
use Rattle.spv_logic.specs.declared.types.TypeId.{TypeId}
use Rattle.spv_logic.specs.declared.types.Sort.{Sort}
use Rattle.spv_logic.specs.Values.{Value}
use Rattle.spv_logic.specs.Fits.{fits}
use Rattle.spv_program.specs.Lists.{same_name, found, changed}
use Rattle.spv_program.specs.Types.{sort_of}
use Rattle.spv_program.specs.Programs.{Program, shapes}
use Rattle.spv_program.proofs.SortFacts.{nothing_there, behind}
use Rattle.spv_meaning.specs.Places.{Root, Place, Frame, HeapRow, State, ProgramVariable, OwnValue, CellOf, Holding, Referring, held, own_value, frame_at, row_of, content_of, root_value, with_root, with_part, value_or_zero, put}
use Rattle.spv_meaning.specs.FrameTypes.{FrameType, frame_type, frames_right, kept_type, own_type, root_type, row_type, slot_in}
use Rattle.spv_meaning.specs.Starts.{Area, IsRight, is_of_type}
use Rattle.spv_meaning.proofs.Maps.{same_names, found-changed-other}
use Rattle.spv_preservation.specs.facts.Places.{IsPlace}
use Rattle.spv_preservation.proofs.facts.Parts.{with_fits}
use Rattle.spv_preservation.proofs.Roots.{FirstFrame, first_frame, root_there}
use Rattle.spv_preservation.proofs.Puts.{root_put}
use Rattle.spv_preservation.proofs.Names.{Bound, Missing, There, bound}
use Rattle.spv_preservation.proofs.Frames.{leaves_now}
use Rattle.spv_preservation.proofs.Statements.{with_cell_right}
use Rattle.spv_writes.specs.Writes.{Writes}
use Rattle.spv_writes.proofs.Kept.{kept}
use Rattle.spv_writes.proofs.Agreeing.{sorts_agree}

-- ---- roots that have a type

-- the type of something that is there
record Typed (o : Option TypeId) : Type 0 where
  type : TypeId
  is : o ≡ Some type

own_typed : (p : Program) (types : List FrameType) (heap : List HeapRow) (frames : List Frame) (number : ℕ) (x : Symbol) (u : Value) → frames_right p types heap frames ≡ true → option_and_then (own_value x) (frame_at frames number) ≡ Some u → Typed (option_and_then (own_type x) (frame_type types number))
own_typed p [] heap [] number x u right there = absurd (nothing_there there)
own_typed p [] heap (f ∷ frames) number x u right there = absurd (false≢true right)
own_typed p (t ∷ types) heap [] number x u right there = absurd (nothing_there there)
own_typed p (t ∷ types) heap (f ∷ frames) number x u right there =
    by_number (nat_eq number (length types)) (ap (λ n. option_and_then (own_value x) (cond (nat_eq number n) (Some f) (frame_at frames number))) (sym first.number) ∙ there)
    (λ there. own_typed p types heap frames number x u first.others there)
  where
    first : FirstFrame p t types heap f frames
    first = first_frame p t types heap f frames right

    by_bound : Bound p types heap t.slots f.names x → option_and_then held (found f.names x) ≡ Some u → Typed (option_and_then kept_type (slot_in t.slots x))
    by_bound (Missing e h) there = absurd (nothing_there (sym (ap (option_and_then held) h) ∙ there))
    by_bound (There s (Referring a) e h right) there = absurd (nothing_there (sym (ap (option_and_then held) h) ∙ there))
    by_bound (There s (Holding v) e h right) there = record { type = s.of; is = ap (option_and_then kept_type) e ∙ by_kind s.by_place (left_true (not s.by_place) (fits (shapes p) v (sort_of p.forms s.of)) right) }
      where
        by_kind : (b : Bool) → not b ≡ true → cond b None (Some s.of) ≡ Some s.of
        by_kind true h = absurd (false≢true h)
        by_kind false h = refl

    by_number : (b : Bool) → option_and_then (own_value x) (cond b (Some f) (frame_at frames number)) ≡ Some u → (option_and_then (own_value x) (frame_at frames number) ≡ Some u → Typed (option_and_then (own_type x) (frame_type types number)))
        → Typed (option_and_then (own_type x) (cond b (Some t) (frame_type types number)))
    by_number true there later = by_bound (bound p types heap t.slots f.names x first.names) there
    by_number false there later = later there

-- ---- a put

-- a root with another value of a sort that it has
put_typed : (p : Program) (types : List FrameType) (state : State) → IsRight p types state → (r : Root) (whole w : Value) (s : Sort) → root_value state r ≡ Some whole → fits (shapes p) whole s ≡ true → fits (shapes p) w s ≡ true → (t : TypeId) → root_type p types state.heap r ≡ Some t → IsRight p types (with_root state r w)
put_typed p types state right r whole w s there fit ok t told =
    (root_put p types state right r t w told
    (sorts_agree (shapes p) whole s (sort_of p.forms t) fit (ap (is_of_type p t) (sym there) ∙ root_there p types state right r t told) w ok)).right

root_right : (p : Program) (types : List FrameType) (state : State) → IsRight p types state → (r : Root) (whole w : Value) (s : Sort) → root_value state r ≡ Some whole → fits (shapes p) whole s ≡ true → fits (shapes p) w s ≡ true → IsRight p types (with_root state r w)
root_right p types state right (ProgramVariable x) whole w s there fit ok = by_type (found p.variables x) refl
  where
    undeclared : found p.variables x ≡ None → (y : Symbol) (u : TypeId) → found p.variables y ≡ Some u → is_of_type p u (found (changed state.variables x w) y) ≡ true
    undeclared none y u is = by_name (same_name x y) refl
      where
        by_name : (b : Bool) → same_name x y ≡ b → is_of_type p u (found (changed state.variables x w) y) ≡ true
        by_name true same = absurd (nothing_there (sym none ∙ (ap (found p.variables) (same_names x y same) ∙ is)))
        by_name false other = ap (is_of_type p u) (found-changed-other state.variables x y w other) ∙ right.variables y u is

    by_type : (o : Option TypeId) → found p.variables x ≡ o → IsRight p types (with_root state (ProgramVariable x) w)
    by_type None none = record { variables = undeclared none; frames = right.frames; heap = right.heap }
    by_type (Some t) told = put_typed p types state right (ProgramVariable x) whole w s there fit ok t told
root_right p types state right (OwnValue n x) whole w s there fit ok =
    let q = own_typed p types state.heap state.frames n x whole right.frames there in
    put_typed p types state right (OwnValue n x) whole w s there fit ok q.type q.is
root_right p types state right (CellOf cell) whole w s there fit ok =
    let r = behind content_of (row_of state.heap cell) whole there in
    put_typed p types state right (CellOf cell) whole w s there fit ok r.item.type (ap (option_and_then row_type) r.is)

-- a put of a value of the place's sort leaves a right state
pub put_stays_right : (p : Program) (types : List FrameType) (state : State) → IsRight p types state → (a : Place) (e : Sort) (v : Value) → IsPlace (shapes p) state a e → fits (shapes p) v e ≡ true → IsRight p types (put state a v)
put_stays_right p types state right a e v place ok =
    subst (λ o. IsRight p types (with_root state a.root (with_part (value_or_zero o) a.path v))) (sym place.is)
    (root_right p types state right a.root place.whole (with_part place.whole a.path v) place.sort place.is place.fit
    (with_fits (shapes p) a.path place.whole place.sort e place.leads place.fit v ok))

-- ---- writing

pub right_stays : (p : Program) (types : List FrameType) (areas : List Area) (s t : State) → Writes p areas s t → IsRight p types s → IsRight p types t
right_stays p types areas s t w right =
    kept p areas (IsRight p types)
    (record {
      put = λ x a e v place fit inside h. put_stays_right p types x h a e v place fit;
      new = λ x cell u v new fit has h. (with_cell_right p types x.heap x cell u v (leaves_now p types x h) new fit).right;
    }) s t w right
