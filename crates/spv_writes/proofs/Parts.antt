-- A whole of which one part was written.
use Rattle.std.proofs.Common.{◌≡◌, Bool, true, false, ◌&&◌, ◌||◌, not, List, [], ◌∷◌, ◌++◌, pos, refl, sym, ap, subst, ◌∙◌, Option, Some, None}
use Rattle.std.specs.Option.{option_and_then, unwrap_or}
use Rattle.std.proofs.lemmas.Bool.{false≢true}
use Rattle.spv_logic.proofs.list.Tests.{left_true, right_true}
use Rattle.spv_logic.specs.declared.types.Sort.{Sort}
use Rattle.spv_logic.specs.declared.types.Shape.{Shape}
use Rattle.spv_logic.specs.Values.{Value, Rows, Number, ArrayOf, RecordOf, row_at, rows_in, default_in, put_row}
use Rattle.spv_logic.specs.Shapes.{element_sort}
use Rattle.spv_logic.specs.Fits.{ascend, lacks, fits, rows_fit}
use Rattle.spv_logic.proofs.Sorting.{array_parts, selected, stored}
use Rattle.spv_logic.proofs.Changes.{array_same}
use Rattle.spv_program.specs.Programs.{Program, shapes}
use Rattle.spv_program.proofs.SortFacts.{nothing_there, some_is, Behind, behind}
use Rattle.spv_meaning.specs.Places.{PathStep, Place, State, IndexStep, FieldStep, step_part, part_at, with_step, with_part, root_value, look, put, value_or_zero}
use Rattle.spv_meaning.specs.FrameTypes.{step_sort, path_sort}
use Rattle.spv_meaning.specs.Starts.{Area, At, CellsOf, same_step, overlap}
use Rattle.spv_rule_soundness.proofs.evaluation.Steps.{array_step}
use Rattle.spv_preservation.specs.facts.Places.{IsPlace}
use Rattle.spv_preservation.proofs.facts.Values.{record_is}
use Rattle.spv_preservation.proofs.facts.Parts.{step_there, with_fits, part_same}
use Rattle.spv_preservation.proofs.facts.Places.{root_after}
use Rattle.spv_writes.specs.Writes.{Writes, begins_with, is_below, is_in, part_of, lies_below, is_touched_below}
use Rattle.spv_writes.proofs.Lists.{chosen_from, all_same}
use Rattle.spv_writes.proofs.Places.{steps_same, below_root, below_path, below_on, in_apart}
use Rattle.spv_writes.proofs.Steps.{put_beside, put_overlaps, new_look, new_overlap}
use Rattle.spv_writes.proofs.Kept.{Steps, kept}
use Rattle.spv_writes.proofs.Agreeing.{sort_there, sorts_agree}
use Rattle.spv_writes.proofs.Rows.{InOrder, put_twice, put_back, set_twice, set_back}

-- ---- steps

module _ (shapes : List Shape) where
  array_order : (d : Value) (rows : Rows) (s : Sort) → fits shapes (ArrayOf d rows) s ≡ true → InOrder d rows
  array_order d rows s h =
      let q = sort_there (element_sort shapes s) _ h in
      let rest = right_true (rows_fit shapes rows q.item) (ascend rows && lacks d rows) (right_true (fits shapes d q.item) _ q.passes) in
      record { ascends = left_true (ascend rows) (lacks d rows) rest; lacks_it = right_true (ascend rows) (lacks d rows) rest }

  -- the second value behind a step counts
  step_twice : (u : Value) (s e : Sort) (x : PathStep) → step_sort shapes s x ≡ Some e → fits shapes u s ≡ true → (v w : Value) → fits shapes v e ≡ true → fits shapes w e ≡ true → with_step (with_step u x v) x w ≡ with_step u x w
  step_twice u s e (IndexStep i) told fit v w one two =
      let d : Value = default_in u in
      let first : Value = ArrayOf d (put_row (rows_in u) i v d) in
      let fit_first = stored shapes u s e i v told fit one in
      ap (ArrayOf d)
      (put_twice d (rows_in u) i v w (array_order d (put_row (put_row (rows_in u) i v d) i w d) s (stored shapes first s e i w told fit_first two)) (array_order d (put_row (rows_in u) i w d) s (stored shapes u s e i w told fit two))
      (array_same shapes s e first w i told fit_first) (array_same shapes s e u w i told fit))
  step_twice u s e (FieldStep f) told fit v w one two = ap RecordOf (set_twice (rows_in u) (pos f.0) v w)

  -- the part behind a step, put there again
  step_back : (u : Value) (s e : Sort) (x : PathStep) → step_sort shapes s x ≡ Some e → fits shapes u s ≡ true → (v : Value) → step_part u x ≡ Some v → with_step u x v ≡ u
  step_back u s e (IndexStep i) told fit v there =
      let q = array_parts shapes u s e told fit in
      let d : Value = default_in u in
      let now : row_at (rows_in u) i d ≡ v = some_is (sym (array_step shapes u (Number i) s e told fit) ∙ there) in
      let held = selected shapes u s e i told fit in
      let rows : put_row (rows_in u) i (row_at (rows_in u) i d) d ≡ rows_in u = put_back d (rows_in u) i (array_order d (put_row (rows_in u) i (row_at (rows_in u) i d) d) s (stored shapes u s e i (row_at (rows_in u) i d) told fit held))
      (array_order d (rows_in u) s (subst (λ k. fits shapes (ArrayOf (default_in k) (rows_in k)) s ≡ true) (sym q.is) (subst (λ k. fits shapes k s ≡ true) q.is fit))) (array_same shapes s e u (row_at (rows_in u) i d) i told fit) in
      ap (λ k. ArrayOf d (put_row (rows_in u) i k d)) (sym now) ∙ (ap (ArrayOf d) rows ∙ whole u q.other q.rows q.is)
    where
      whole : (u d : Value) (rows : Rows) → u ≡ ArrayOf d rows → ArrayOf (default_in u) (rows_in u) ≡ u
      whole u d rows is = ap (λ k. ArrayOf (default_in k) (rows_in k)) is ∙ sym is
  step_back u s e (FieldStep f) told fit v there =
      let is = record_is shapes u s e f told fit in
      ap RecordOf (set_back (rows_in u) (pos f.0) v (sym (ap (λ k. step_part k (FieldStep f)) is) ∙ there)) ∙ sym is

  -- ---- paths

  before_path : (s e : Sort) (x : PathStep) (path : List PathStep) → path_sort shapes s (x ∷ path) ≡ Some e → Behind (λ k. path_sort shapes k path) (step_sort shapes s x) e
  before_path s e x path leads = behind (λ k. path_sort shapes k path) (step_sort shapes s x) e leads

  -- a path in two pieces
  pub path_split : (path more : List PathStep) (s e : Sort) → path_sort shapes s (path ++ more) ≡ Some e → Behind (λ k. path_sort shapes k more) (path_sort shapes s path) e
  path_split [] more s e leads = record { item = s; is = refl; gives = leads }
  path_split (x ∷ path) more s e leads =
      let r = before_path s e x (path ++ more) leads in
      let k = path_split path more r.item e r.gives in
      record { item = k.item; is = ap (option_and_then (λ k. path_sort shapes k path)) r.is ∙ k.is; gives = k.gives }

  -- what is at the end of a path
  pub record PartThere (u : Value) (path : List PathStep) (e : Sort) : Type 0 where
    pub part : Value
    pub is : part_at u path ≡ Some part
    pub fit : fits shapes part e ≡ true

  pub part_there : (path : List PathStep) (u : Value) (s e : Sort) → path_sort shapes s path ≡ Some e → fits shapes u s ≡ true → PartThere u path e
  part_there [] u s e leads fit = record { part = u; is = refl; fit = ap (fits shapes u) (sym (some_is leads)) ∙ fit }
  part_there (x ∷ path) u s e leads fit =
      let r = before_path s e x path leads in
      let k = step_there shapes u s r.item x r.is fit in
      let q = part_there path k.part r.item e r.gives k.fit in
      record { part = q.part; is = ap (option_and_then (λ w. part_at w path)) k.is ∙ q.is; fit = q.fit }

  with_first : (u : Value) (x : PathStep) (path : List PathStep) (part w : Value) → step_part u x ≡ Some part → with_part u (x ∷ path) w ≡ with_step u x (with_part part path w)
  with_first u x path part w is = ap (λ o. with_step u x (with_part (unwrap_or o u) path w)) is

  -- the part at the end of a path, put there again
  part_back : (path : List PathStep) (u : Value) (s e : Sort) → path_sort shapes s path ≡ Some e → fits shapes u s ≡ true → (v : Value) → part_at u path ≡ Some v → with_part u path v ≡ u
  part_back [] u s e leads fit v there = sym (some_is there)
  part_back (x ∷ path) u s e leads fit v there =
      let r = before_path s e x path leads in
      let k = step_there shapes u s r.item x r.is fit in
      with_first u x path k.part v k.is
      ∙ (ap (with_step u x) (part_back path k.part r.item e r.gives k.fit v (sym (ap (option_and_then (λ w. part_at w path)) k.is) ∙ there))
      ∙ step_back u s r.item x r.is fit k.part k.is)

  one_step : (o : Option Value) (w : Value) → option_and_then (λ k. part_at k []) o ≡ Some w → o ≡ Some w
  one_step None w e = absurd (nothing_there e)
  one_step (Some v) w e = e

  -- the second value at the end of a path counts
  part_twice : (path : List PathStep) (u : Value) (s e : Sort) → path_sort shapes s path ≡ Some e → fits shapes u s ≡ true → (v w : Value) → fits shapes v e ≡ true → fits shapes w e ≡ true → with_part (with_part u path v) path w ≡ with_part u path w
  part_twice [] u s e leads fit v w one two = refl
  part_twice (x ∷ path) u s e leads fit v w one two =
      let r = before_path s e x path leads in
      let k = step_there shapes u s r.item x r.is fit in
      let a : Value = with_part k.part path v in
      let b : Value = with_part k.part path w in
      let fit_a = with_fits shapes path k.part r.item e r.gives k.fit v one in
      let fit_b = with_fits shapes path k.part r.item e r.gives k.fit w two in
      let first = with_first u x path k.part v k.is in
      let there = one_step (step_part (with_step u x a) x) a (part_same shapes (x ∷ []) u s r.item (ap (option_and_then (λ k. path_sort shapes k [])) r.is) fit a) in
      ap (λ q. with_part q (x ∷ path) w) first
      ∙ (with_first (with_step u x a) x path a w there
      ∙ (ap (with_step (with_step u x a) x) (part_twice path k.part r.item e r.gives k.fit v w one two)
      ∙ (step_twice u s r.item x r.is fit a b fit_a fit_b ∙ sym (with_first u x path k.part w k.is))))

  -- a value below a part changes the part
  part_below : (path more : List PathStep) (u : Value) (s e : Sort) → path_sort shapes s path ≡ Some e → fits shapes u s ≡ true → (part : Value) → part_at u path ≡ Some part → (v : Value) → with_part u (path ++ more) v ≡ with_part u path (with_part part more v)
  part_below [] more u s e leads fit part there v = ap (λ k. with_part k more v) (some_is there)
  part_below (x ∷ path) more u s e leads fit part there v =
      let r = before_path s e x path leads in
      let k = step_there shapes u s r.item x r.is fit in
      with_first u x (path ++ more) k.part v k.is
      ∙ (ap (with_step u x) (part_below path more k.part r.item e r.gives k.fit part (sym (ap (option_and_then (λ w. part_at w path)) k.is) ∙ there) v)
      ∙ sym (with_first u x path k.part (with_part part more v) k.is))

  -- a part of a whole that is an old value with something in it, and what becomes of that
  record Renewed (old : Value) (rel : List PathStep) (e : Sort) (part : Option Value) : Type 0 where
    now : Value
    ok : fits shapes now e ≡ true
    is : part ≡ Some (with_part old rel now)

  -- a value put below that renews it
  renewed : (path rel more : List PathStep) (w : Value) (t f : Sort) → path_sort shapes t (path ++ (rel ++ more)) ≡ Some f → fits shapes w t ≡ true
      → (u : Value) (s e : Sort) → path_sort shapes s rel ≡ Some e → fits shapes u s ≡ true → (now : Value) → fits shapes now e ≡ true → part_at w path ≡ Some (with_part u rel now)
      → (v : Value) → fits shapes v f ≡ true → Renewed u rel e (part_at (with_part w (path ++ (rel ++ more)) v) path)
  renewed path rel more w t f leads fit u s e leads_u fit_u now ok there v ok_v =
      let one = path_split path (rel ++ more) t f leads in
      let two = path_split rel more one.item f one.gives in
      let old : Value = with_part u rel now in
      let whole = part_there path w t one.item one.is fit in
      let old_fit : fits shapes old one.item ≡ true = ap (λ k. fits shapes k one.item) (some_is (sym there ∙ whole.is)) ∙ whole.fit in
      let part : part_at old rel ≡ Some now = part_same shapes rel u s e leads_u fit_u now in
      let here = part_there rel old one.item two.item two.is old_fit in
      let now_fit : fits shapes now two.item ≡ true = ap (λ k. fits shapes k two.item) (some_is (sym part ∙ here.is)) ∙ here.fit in
      let next : Value = with_part now more v in
      let next_ok = sorts_agree shapes now two.item e now_fit ok next (with_fits shapes more now two.item f two.gives now_fit v ok_v) in
      record {
        now = next;
        ok = next_ok;
        is = ap (λ k. part_at k path) (part_below path (rel ++ more) w t one.item one.is fit old there v)
            ∙ (part_same shapes path w t one.item one.is fit (with_part old (rel ++ more) v)
            ∙ ap Some (part_below rel more old one.item two.item two.is old_fit now part v ∙ part_twice rel u s e leads_u fit_u now next ok next_ok));
      }

-- what is behind two pieces of a path
part_behind : (path more : List PathStep) (u : Value) → part_at u (path ++ more) ≡ option_and_then (λ k. part_at k more) (part_at u path)
part_behind [] more u = refl
part_behind (x ∷ path) more u = by_part (step_part u x) (part_behind path more)
  where
    by_part : (o : Option Value) → ((u : Value) → part_at u (path ++ more) ≡ option_and_then (λ k. part_at k more) (part_at u path)) → option_and_then (λ k. part_at k (path ++ more)) o ≡ option_and_then (λ k. part_at k more) (option_and_then (λ k. part_at k path) o)
    by_part None later = refl
    by_part (Some u) later = later u

-- ---- paths that go on

record GoesOn (path front rel : List PathStep) : Type 0 where
  more : List PathStep
  is : path ≡ front ++ (rel ++ more)

goes_on : (path front rel : List PathStep) → begins_with path (front ++ rel) ≡ true → GoesOn path front rel
goes_on path [] [] h = record { more = path; is = refl }
goes_on [] [] (s ∷ rel) h = absurd (false≢true h)
goes_on (t ∷ path) [] (s ∷ rel) h =
    let r = goes_on path [] rel (right_true (same_step s t) (begins_with path rel) h) in
    record { more = r.more; is = λ i. sym (steps_same s t (left_true (same_step s t) (begins_with path rel) h)) i ∷ r.is i }
goes_on [] (s ∷ front) rel h = absurd (false≢true h)
goes_on (t ∷ path) (s ∷ front) rel h =
    let r = goes_on path front rel (right_true (same_step s t) (begins_with path (front ++ rel)) h) in
    record { more = r.more; is = λ i. sym (steps_same s t (left_true (same_step s t) (begins_with path (front ++ rel)) h)) i ∷ r.is i }

-- what a place holds, by what its root holds
looked : (path : List PathStep) (o : Option Value) (w : Value) → o ≡ Some w → option_and_then (λ k. part_at k path) o ≡ part_at w path
looked path o w is = ap (option_and_then (λ k. part_at k path)) is

held_part : (path : List PathStep) (o : Option Value) (w old : Value) → o ≡ Some w → option_and_then (λ k. part_at k path) o ≡ Some old → part_at w path ≡ Some old
held_part path o w old is holds = sym (looked path o w is) ∙ holds

-- ---- writing

module _ (p : Program) (areas : List Area) (a : Place) (rel : List PathStep) (u : Value) (s e : Sort) (leads : path_sort (shapes p) s rel ≡ Some e) (fit : fits (shapes p) u s ≡ true) where
  -- the whole is the old one with what the part is now
  record Parted (x : State) : Type 0 where
    now : Value
    ok : fits (shapes p) now e ≡ true
    is : look x a ≡ Some (with_part u rel now)
    below : is_touched_below x.heap areas a rel ≡ true

  -- a put below the part
  put_part : (x : State) (b : Place) (f : Sort) (v : Value) → IsPlace (shapes p) x b f → fits (shapes p) v f ≡ true → Parted x → is_below b (part_of a rel) ≡ true → Parted (put x b v)
  put_part x b f v place ok_v q below =
      let root : a.root ≡ b.root = below_root b (part_of a rel) below in
      let way = goes_on b.path a.path rel (below_path b (part_of a rel) below) in
      let next = renewed (shapes p) a.path rel way.more place.whole place.sort f (sym (ap (path_sort (shapes p) place.sort) way.is) ∙ place.leads) place.fit u s e leads fit q.now q.ok
      (held_part a.path (root_value x a.root) place.whole (with_part u rel q.now) (ap (root_value x) root ∙ place.is) q.is) v ok_v in
      record {
        now = next.now;
        ok = next.ok;
        is = looked a.path (root_value (put x b v) a.root) (with_part place.whole b.path v) (ap (root_value (put x b v)) root ∙ root_after (shapes p) x b f place v)
            ∙ (ap (λ k. part_at (with_part place.whole k v) a.path) way.is ∙ next.is);
        below = still x b v q.below;
      }
    where
      still : (x : State) (b : Place) (v : Value) → is_touched_below x.heap areas a rel ≡ true → is_touched_below (put x b v).heap areas a rel ≡ true
      still x b v h = all_same _ (λ c. not (overlap x.heap c (At a)) || lies_below (part_of a rel) c) (λ c. ap (λ t. not t || lies_below (part_of a rel) c) (put_overlaps x b.root (with_part (value_or_zero (root_value x b.root)) b.path v) c (At a))) areas ∙ h

  parted_steps : Steps p areas Parted
  parted_steps = record {
    put = λ x b f v place ok inside q.
        let c = chosen_from (is_in x.heap b) (λ c. not (overlap x.heap c (At a)) || lies_below (part_of a rel) c) areas inside q.below in
        by_area x b f v place ok q c.item c.one (overlap x.heap c.item (At a)) refl c.two;
    new = λ x cell t v new ok has q.
        let r = behind (λ w. part_at w a.path) (root_value x a.root) (with_part u rel q.now) q.is in
        record {
          now = q.now;
          ok = q.ok;
          is = new_look x cell t v new a (with_part u rel q.now) q.is;
          below = all_same _ (λ c. not (overlap x.heap c (At a)) || lies_below (part_of a rel) c) (λ c. ap (λ t. not t || lies_below (part_of a rel) c) (new_overlap x cell t v new a r.item r.is c)) areas ∙ q.below;
        };
  }
    where
      under : (x : State) (b : Place) (c : Area) → is_in x.heap b c ≡ true → lies_below (part_of a rel) c ≡ true → is_below b (part_of a rel) ≡ true
      under x b (At c) inside h = below_on b c (part_of a rel) inside h
      under x b (CellsOf t) inside h = absurd (false≢true h)

      by_area : (x : State) (b : Place) (f : Sort) (v : Value) → IsPlace (shapes p) x b f → fits (shapes p) v f ≡ true → Parted x → (c : Area) → is_in x.heap b c ≡ true → (t : Bool) → overlap x.heap c (At a) ≡ t → (not t || lies_below (part_of a rel) c) ≡ true → Parted (put x b v)
      by_area x b f v place ok q c inside true e h = put_part x b f v place ok q (under x b c inside h)
      by_area x b f v place ok q c inside false e h = record {
        now = q.now;
        ok = q.ok;
        is = put_beside p x b f place v a (in_apart x.heap b a c inside e) ∙ q.is;
        below = all_same _ (λ c. not (overlap x.heap c (At a)) || lies_below (part_of a rel) c) (λ c. ap (λ t. not t || lies_below (part_of a rel) c) (put_overlaps x b.root (with_part (value_or_zero (root_value x b.root)) b.path v) c (At a))) areas ∙ q.below;
      }

-- where each area that overlaps a place lies at or below a part of it, the whole afterwards is the old whole with that part
pub part_written : (p : Program) (areas : List Area) (s t : State) → Writes p areas s t → (a : Place) (rel : List PathStep) (e : Sort) → IsPlace (shapes p) s (part_of a rel) e → is_touched_below s.heap areas a rel ≡ true
    → (u : Value) → look s a ≡ Some u → look t a ≡ Some (with_part u rel (value_or_zero (look t (part_of a rel))))
part_written p areas s t w a rel e place below u there =
    let one = path_split (shapes p) a.path rel place.sort e place.leads in
    by_sort one.item one.gives (fits_there one.item (part_there (shapes p) a.path place.whole place.sort one.item one.is place.fit))
  where
    -- what is at the place has the sort that its path leads to
    fits_there : (f : Sort) → PartThere (shapes p) place.whole a.path f → fits (shapes p) u f ≡ true
    fits_there f k = subst (λ v. fits (shapes p) v f ≡ true) (sym (some_is (sym (held_part a.path (root_value s a.root) place.whole u place.is there) ∙ k.is))) k.fit

    behind_root : (o : Option Value) (now : Value) → option_and_then (λ w. part_at w a.path) o ≡ Some (with_part u rel now) → part_at (with_part u rel now) rel ≡ Some now → option_and_then (λ w. part_at w (a.path ++ rel)) o ≡ Some now
    behind_root None now is there = absurd (nothing_there is)
    behind_root (Some w) now is there = part_behind a.path rel w ∙ (ap (option_and_then (λ k. part_at k rel)) is ∙ there)

    told : (f : Sort) (leads : path_sort (shapes p) f rel ≡ Some e) (fit : fits (shapes p) u f ≡ true) → Parted p areas a rel u f e leads fit t → look t a ≡ Some (with_part u rel (value_or_zero (look t (part_of a rel))))
    told f leads fit q = q.is ∙ ap (λ o. Some (with_part u rel (value_or_zero o))) (sym (behind_root (root_value t a.root) q.now q.is (part_same (shapes p) rel u f e leads fit q.now)))

    begun : (f : Sort) (leads : path_sort (shapes p) f rel ≡ Some e) (fit : fits (shapes p) u f ≡ true) → PartThere (shapes p) u rel e → Parted p areas a rel u f e leads fit s
    begun f leads fit k = record { now = k.part; ok = k.fit; is = there ∙ ap Some (sym (part_back (shapes p) rel u f e leads fit k.part k.is)); below = below }

    by_sort : (f : Sort) → path_sort (shapes p) f rel ≡ Some e → fits (shapes p) u f ≡ true → look t a ≡ Some (with_part u rel (value_or_zero (look t (part_of a rel))))
    by_sort f leads fit =
        told f leads fit (kept p areas (Parted p areas a rel u f e leads fit) (parted_steps p areas a rel u f e leads fit) s t w (begun f leads fit (part_there (shapes p) rel u f e leads fit)))
