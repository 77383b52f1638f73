-- What stays right where the heap grows.
use Rattle.spv_meaning.specs.FrameTypes.{FrameType, Slot, binding_right, frames_right, names_right, path_sort, place_sort, root_type}
use Rattle.std.proofs.Common.{◌≡◌, true, ◌&&◌, List, [], ◌∷◌, refl, ap, ◌∙◌, Some}
use Rattle.std.specs.Option.{option_and_then}
use Rattle.std.specs.Cmp.Derive.{both_true}
use Rattle.std.proofs.lemmas.Bool.{false≢true}
use Rattle.spv_logic.proofs.list.Tests.{left_true, right_true}
use Rattle.spv_logic.specs.declared.names.names.Symbol.{Symbol}
use Rattle.spv_logic.specs.declared.types.TypeId.{TypeId}
use Rattle.spv_logic.specs.declared.types.Sort.{Sort}
use Rattle.spv_program.specs.Lists.{same_name}
use Rattle.spv_program.specs.Types.{sort_of}
use Rattle.spv_program.specs.Programs.{Program, shapes}
use Rattle.spv_program.proofs.SortFacts.{is_sort-true, behind}
use Rattle.spv_meaning.specs.Places.{Root, Place, Binding, Frame, HeapRow, ProgramVariable, OwnValue, CellOf, Holding, Referring}
use Rattle.spv_preservation.specs.Right.{Grows}
use Rattle.spv_meaning.proofs.RightFrames.{is_sort-of}
use Rattle.spv_preservation.proofs.Roots.{first_frame, frames_from}

pub grows_not : (heap : List HeapRow) → Grows heap heap
grows_not heap = record { keeps = λ cell t e. e }

pub grows_on : (one two three : List HeapRow) → Grows one two → Grows two three → Grows one three
grows_on one two three first second = record { keeps = λ cell t e. second.keeps cell t (first.keeps cell t e) }

module _ (p : Program) (before after : List HeapRow) (grows : Grows before after) where
  root_grows : (types : List FrameType) (r : Root) (t : TypeId) → root_type p types before r ≡ Some t → root_type p types after r ≡ Some t
  root_grows types (ProgramVariable x) t e = e
  root_grows types (OwnValue number x) t e = e
  root_grows types (CellOf cell) t e = grows.keeps cell t e

  pub place_grows : (types : List FrameType) (a : Place) (s : Sort) → place_sort p types before a ≡ Some s → place_sort p types after a ≡ Some s
  place_grows types a s e =
      let r = behind (λ t. path_sort (shapes p) (sort_of p.forms t) a.path) (root_type p types before a.root) s e in
      ap (option_and_then (λ t. path_sort (shapes p) (sort_of p.forms t) a.path)) (root_grows types a.root r.item r.is) ∙ r.gives

  pub binding_grows : (older : List FrameType) (s : Slot) (b : Binding) → binding_right p older before s b ≡ true → binding_right p older after s b ≡ true
  binding_grows older s (Holding v) h = h
  binding_grows older s (Referring a) h =
      let told = is_sort-true (sort_of p.forms s.of) (place_sort p older before a) (right_true s.by_place _ h) in
      both_true (left_true s.by_place _ h) (is_sort-of (sort_of p.forms s.of) (place_sort p older after a) (place_grows older a (sort_of p.forms s.of) told))

  pub names_grow : (older : List FrameType) (slots : List Slot) (names : List (Symbol × Binding)) → names_right p older before slots names ≡ true → names_right p older after slots names ≡ true
  names_grow older [] [] h = refl
  names_grow older [] (n ∷ names) h = absurd (false≢true h)
  names_grow older (s ∷ slots) [] h = absurd (false≢true h)
  names_grow older (s ∷ slots) (n ∷ names) h =
      let rest = right_true (same_name s.name n.0) (binding_right p older before s n.1 && names_right p older before slots names) h in
      both_true (left_true (same_name s.name n.0) _ h)
      (both_true (binding_grows older s n.1 (left_true (binding_right p older before s n.1) _ rest))
      (names_grow older slots names (right_true (binding_right p older before s n.1) _ rest)))

  pub frames_grow : (types : List FrameType) (frames : List Frame) → frames_right p types before frames ≡ true → frames_right p types after frames ≡ true
  frames_grow [] [] h = refl
  frames_grow [] (f ∷ frames) h = absurd (false≢true h)
  frames_grow (t ∷ types) [] h = absurd (false≢true h)
  frames_grow (t ∷ types) (f ∷ frames) h =
      let first = first_frame p t types before f frames h in
      frames_from p t types after f frames first.routine (names_grow types t.slots f.names first.names) (frames_grow types frames first.others)
