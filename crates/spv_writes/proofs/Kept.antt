-- What writing in areas keeps.
use Rattle.std.proofs.Common.{◌≡◌, ℕ, true, false, List, [], refl, ap, ◌∙◌, Option, Some, None, is_some}
use Rattle.std.proofs.lemmas.Bool.{false≢true}
use Rattle.spv_logic.specs.declared.types.TypeId.{TypeId}
use Rattle.spv_logic.specs.declared.types.Sort.{Sort}
use Rattle.spv_logic.specs.Values.{Value}
use Rattle.spv_logic.specs.Fits.{fits}
use Rattle.spv_program.specs.Types.{sort_of}
use Rattle.spv_program.specs.Programs.{Program, shapes}
use Rattle.spv_program.proofs.SortFacts.{behind}
use Rattle.spv_meaning.specs.Places.{Place, HeapRow, State, root_value, part_at, look, exists, put}
use Rattle.spv_meaning.specs.Views.{class_of}
use Rattle.spv_meaning.specs.Walks.{is_new, with_new_cell}
use Rattle.spv_meaning.specs.Starts.{Area, At, CellsOf}
use Rattle.spv_preservation.specs.facts.Places.{IsPlace}
use Rattle.spv_preservation.proofs.facts.Places.{put_exists}
use Rattle.spv_preservation.specs.Right.{Grows}
use Rattle.spv_preservation.proofs.Growing.{grows_on, grows_not}
use Rattle.spv_writes.specs.Writes.{Writes, nothing, puts, creates, is_in_one, has_cells_of, is_touched}
use Rattle.spv_writes.proofs.Places.{one_apart, one_no_class, new_no_class}
use Rattle.spv_writes.proofs.Steps.{put_beside, put_grows, put_touches, put_class, new_grows, new_look, new_touches, new_touches_class, new_class}

-- ---- one step, and all

-- what each put and each new cell keeps is kept
pub record Steps (p : Program) (areas : List Area) (Q : State → Type 0) : Type 0 where
  pub put : (s : State) (a : Place) (e : Sort) (v : Value) → IsPlace (shapes p) s a e → fits (shapes p) v e ≡ true → is_in_one s.heap areas a ≡ true → Q s → Q (put s a v)
  pub new : (s : State) (cell : ℕ) (u : TypeId) (v : Value) → is_new s.heap cell ≡ true → fits (shapes p) v (sort_of p.forms u) ≡ true → has_cells_of areas u ≡ true → Q s → Q (with_new_cell cell u v s)

pub kept : (p : Program) (areas : List Area) (Q : State → Type 0) → Steps p areas Q → (s t : State) → Writes p areas s t → Q s → Q t
kept p areas Q steps _ _ (nothing s) q = q
kept p areas Q steps _ _ (puts s t a e v place fit inside more) q = kept p areas Q steps _ t more (steps.put s a e v place fit inside q)
kept p areas Q steps _ _ (creates s t cell u v new fit has more) q = kept p areas Q steps _ t more (steps.new s cell u v new fit has q)

pub one_put : (p : Program) (areas : List Area) (s : State) (a : Place) (e : Sort) (v : Value) → IsPlace (shapes p) s a e → fits (shapes p) v e ≡ true → is_in_one s.heap areas a ≡ true → Writes p areas s (put s a v)
one_put p areas s a e v place fit inside = puts s (put s a v) a e v place fit inside (nothing (put s a v))

pub chain : (p : Program) (areas : List Area) (s t u : State) → Writes p areas s t → Writes p areas t u → Writes p areas s u
chain p areas _ _ u (nothing s) later = later
chain p areas _ _ u (puts s t a e v place fit inside more) later = puts s u a e v place fit inside (chain p areas (put s a v) t u more later)
chain p areas _ _ u (creates s t cell w v new fit has more) later = creates s u cell w v new fit has (chain p areas (with_new_cell cell w v s) t u more later)

-- ---- cells

-- the cells that were there are there, with the types that they had
pub grows : (p : Program) (areas : List Area) (s t : State) → Writes p areas s t → Grows s.heap t.heap
grows p areas s t w =
    kept p areas (λ x. Grows s.heap x.heap)
    (record {
      put = λ x a e v place fit inside g. grows_on s.heap x.heap (put x a v).heap g (put_grows x a v);
      new = λ x cell u v new fit has g. grows_on s.heap x.heap (with_new_cell cell u v x).heap g (new_grows x cell u v new);
    }) s t w (grows_not s.heap)

-- ---- places

pub existing : (p : Program) (areas : List Area) (s t : State) → Writes p areas s t → (a : Place) → exists s a ≡ true → exists t a ≡ true
existing p areas s t w a there =
    kept p areas (λ x. exists x a ≡ true)
    (record {
      put = λ x b e v place fit inside h. put_exists (shapes p) x b e place v fit a ∙ h;
      new = λ x cell u v new fit has h. beside x cell u v new (look x a) refl h;
    }) s t w there
  where
    beside : (x : State) (cell : ℕ) (u : TypeId) (v : Value) → is_new x.heap cell ≡ true → (o : Option Value) → look x a ≡ o → is_some o ≡ true → exists (with_new_cell cell u v x) a ≡ true
    beside x cell u v new None e h = absurd (false≢true h)
    beside x cell u v new (Some y) e h = ap is_some (new_look x cell u v new a y e)

-- a place that is there and is touched by no area
record Still (areas : List Area) (a : Place) (w : Value) (x : State) : Type 0 where
  holds : look x a ≡ Some w
  untouched : is_touched x.heap areas (At a) ≡ false

still_steps : (p : Program) (areas : List Area) (a : Place) (w : Value) → Steps p areas (Still areas a w)
still_steps p areas a w = record {
  put = λ x b e v place fit inside q. record {
    holds = put_beside p x b e place v a (one_apart x.heap areas b a inside q.untouched) ∙ q.holds;
    untouched = put_touches x b v areas (At a) ∙ q.untouched;
  };
  new = λ x cell u v new fit has q.
      let r = behind (λ y. part_at y a.path) (root_value x a.root) w q.holds in
      record {
        holds = new_look x cell u v new a w q.holds;
        untouched = new_touches x cell u v new areas a r.item r.is ∙ q.untouched;
      };
}

pub untouched_stays : (p : Program) (areas : List Area) (s t : State) → Writes p areas s t → (a : Place) (v : Value) → look s a ≡ Some v → is_touched s.heap areas (At a) ≡ false → look t a ≡ Some v
untouched_stays p areas s t w a v there apart =
    (kept p areas (Still areas a v) (still_steps p areas a v) s t w (record { holds = there; untouched = apart })).holds

-- ---- classes

record Unchanged (p : Program) (areas : List Area) (u : TypeId) (c : Value) (x : State) : Type 0 where
  class : class_of (shapes p) x.heap u ≡ c
  untouched : is_touched x.heap areas (CellsOf u) ≡ false

unchanged_steps : (p : Program) (areas : List Area) (u : TypeId) (c : Value) → Steps p areas (Unchanged p areas u c)
unchanged_steps p areas u c = record {
  put = λ x b e v place fit inside q. record {
    class = put_class p x b v place.whole u place.is (one_no_class x.heap areas b u inside q.untouched) ∙ q.class;
    untouched = put_touches x b v areas (CellsOf u) ∙ q.untouched;
  };
  new = λ x cell t v new fit has q. record {
    class = new_class p x cell t u v (new_no_class x.heap areas t u has q.untouched) ∙ q.class;
    untouched = new_touches_class x cell t u v (new_no_class x.heap areas t u has q.untouched) areas q.untouched;
  };
}

pub class_stays : (p : Program) (areas : List Area) (s t : State) → Writes p areas s t → (u : TypeId) → is_touched s.heap areas (CellsOf u) ≡ false → class_of (shapes p) t.heap u ≡ class_of (shapes p) s.heap u
class_stays p areas s t w u apart =
    (kept p areas (Unchanged p areas u (class_of (shapes p) s.heap u)) (unchanged_steps p areas u (class_of (shapes p) s.heap u)) s t w
    (record { class = refl; untouched = apart })).class

-- ---- wider areas

-- from a heap on, what lies in some areas lies in others
pub record IsCovered (heap : List HeapRow) (areas others : List Area) : Type 0 where
  pub places : (later : List HeapRow) → Grows heap later → (a : Place) → is_in_one later areas a ≡ true → is_in_one later others a ≡ true
  pub cells : (u : TypeId) → has_cells_of areas u ≡ true → has_cells_of others u ≡ true

pub widen : (p : Program) (areas others : List Area) (heap : List HeapRow) → IsCovered heap areas others → (s t : State) → Writes p areas s t → Grows heap s.heap → Writes p others s t
widen p areas others heap covers _ _ (nothing s) g = nothing s
widen p areas others heap covers _ _ (puts s t a e v place fit inside more) g =
    puts s t a e v place fit (covers.places s.heap g a inside)
    (widen p areas others heap covers (put s a v) t more (grows_on heap s.heap (put s a v).heap g (put_grows s a v)))
widen p areas others heap covers _ _ (creates s t cell u v new fit has more) g =
    creates s t cell u v new fit (covers.cells u has)
    (widen p areas others heap covers (with_new_cell cell u v s) t more (grows_on heap s.heap (with_new_cell cell u v s).heap g (new_grows s cell u v new)))

-- without areas nothing is written
pub unwritten : (p : Program) (s t : State) → Writes p [] s t → t ≡ s
unwritten p _ _ (nothing s) = refl
unwritten p _ _ (puts s t a e v place fit inside more) = absurd (false≢true inside)
unwritten p _ _ (creates s t cell u v new fit has more) = absurd (false≢true has)
