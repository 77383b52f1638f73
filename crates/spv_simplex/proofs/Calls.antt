-- Calls keep what a tableau keeps.
use Rattle.std.proofs.Common.{◌≡◌, ℕ, zero, suc, min, ◌+◌, ◌<◌, ◌≤◌, ◌^◌, Bool, true, false, ◌&&◌, List, [], ◌∷◌, ◌++◌, take, length, replicate, Option, Some, None, nat_eq, nat_lt, slice_index_or, refl, sym, ap, ◌∙◌, subst, arith, if◌then◌else◌}
use Rattle.std.specs.List.{list_all}
use Rattle.std.proofs.lemmas.Bool.{false≢true}
use Rattle.std.proofs.lemmas.List.{length-replicate, take-append-le}
use Rattle.std.proofs.lemmas.Grind.{common_steps}
use Rattle.spv_logic.specs.declared.conditions.TermId.{TermId}
use Rattle.spv_frac.specs.rational.Rational.{Rational, times}
use Rattle.spv_frac.proofs.rational.Field.{times_zero}
use Rattle.spv_atoms.specs.Linear.{IdForm}
use Rattle.spv_tableau_rules.specs.declared.tableaux.side.Side.{Side}
use Rattle.spv_tableau_rules.specs.declared.tableaux.side.Side.TheVariants.{Lower, Upper}
use Rattle.spv_tableau_rules.specs.tableaux.Numbers.{nothing, is_less}
use Rattle.spv_tableau_rules.specs.tableaux.Rows.{columns, Point}
use Rattle.spv_tableau_rules.specs.tableaux.Bounds.{Bound, same_side, other_side, bound_on, is_none}
use Rattle.spv_tableau_rules.specs.tableaux.Solved.{is_basic, row_places, row_entries, IsSolved}
use Rattle.spv_tableau_rules.specs.tableaux.Forms.{rows_of, part_ids}
use Rattle.spv_tableau_rules.specs.tableaux.Contradictions.{Multiple}
use Rattle.spv_tableau_rules.proofs.pivots.Sums.{sum_nothing, eq_is}
use Rattle.spv_tableau_rules.proofs.pivots.Starting.{rows_are_solved}
use Rattle.spv_tableau_rules.proofs.pivots.Stepping.{basis_alone, entries_alone}
use Rattle.spv_tableau_rules.proofs.pivots.Tests.{and_left, and_right, and_both}
use Rattle.spv_dictionary.specs.Cells.{cell}
use Rattle.spv_dictionary.specs.Dictionary.{Dictionary, entries, places, first}
use Rattle.spv_dictionary.proofs.First.{spot_total}
use Rattle.spv_dictionary.proofs.Lists.{length_listed}
use Rattle.spv_dictionary.proofs.FirstForm.{first_basis, is_first_form}
use Rattle.spv_simplex.specs.Cells.{AreRowsTo}
use Rattle.spv_simplex.specs.Evidence.{EvidenceValue, no_evidence}
use Rattle.spv_dictionary.specs.pivoting.Choosing.{are_met}
use Rattle.spv_simplex.specs.declared.evidence.Room.{Room}
use Rattle.spv_simplex.specs.State.{State, IsKept, IsOpened, MayAssert, clashes, rows_in, kept_point, room_in}
use Rattle.spv_dictionary.specs.pivoting.Trail.{Trail, KeepsApart, bound_of, more, first_of}
use Rattle.spv_dictionary.proofs.pivoting.Bounding.{is_on, found_other, found_here}

-- ---- other bounds

abbrev with_trail : State → Trail → State
with_trail s t = record s { trail = t.most; bounds = t.bounds }

-- a tableau keeps what it keeps where its bounds are others that obey the same
changed : (s : State) (ids : List TermId) (old new : Trail) (met capacity now : ℕ) → IsKept s ids old met capacity → new.rows ≡ old.rows → new.most ≡ s.trail → KeepsApart new
    → ((i : ℕ) (low high : Rational) → bound_on new.bounds i Lower ≡ Some low → bound_on new.bounds i Upper ≡ Some high → is_less high low ≡ false)
    → now ≤ length new.bounds → are_met (rows_in s).parts (kept_point s) (take now new.bounds) ≡ true → IsKept (with_trail s new) ids new now capacity
changed s ids old new met capacity now k same most apart ordered few are = record {
  tableau = record {
    few_columns = k.tableau.few_columns;
    few_pivots = k.tableau.few_pivots;
    few_bounds = apart.few;
    bounds = record {
      in_range = ap (λ n. list_all (λ b. nat_lt b.row n) new.bounds) (sym (same ∙ k.rows_are)) ∙ apart.in_range;
      apart = apart.apart;
      ordered = ordered;
    };
    solved = k.tableau.solved;
    spots = k.tableau.spots;
    width = k.tableau.width;
    count = k.tableau.count;
    solution = k.tableau.solution;
    parts = k.tableau.parts;
  };
  ids_are = k.ids_are;
  rows_are = same ∙ k.rows_are;
  room_is = k.room_is ∙ ap (λ n. room_in (record s { trail = n })) (sym most);
  combination_room = k.combination_room;
  within = few;
  known = are;
}

-- ---- undoing

-- what is found among the first bounds is found among all
first_found : (n : ℕ) (bounds : List Bound) (i : ℕ) (side : Side) (x : Rational) → bound_on (take n bounds) i side ≡ Some x → bound_on bounds i side ≡ Some x
first_found zero bounds i side x h = absurd (false≢true (sym (ap is_none h)))
first_found (suc n) [] i side x h = h
first_found (suc n) (b ∷ bounds) i side x h = by_case (first_found n bounds i side x) (is_on b i side) refl h
  where
    by_case : (bound_on (take n bounds) i side ≡ Some x → bound_on bounds i side ≡ Some x) → (here : Bool) → is_on b i side ≡ here
        → (if here then Some b.value else bound_on (take n bounds) i side) ≡ Some x → bound_on (b ∷ bounds) i side ≡ Some x
    by_case rest true e k = rw e k
    by_case rest false e k = rw e (rest k)

-- of bounds that are met the first ones are
first_met : (width : ℕ) (v : Point) (bounds : List Bound) (k m n : ℕ) → k ≤ m → k ≤ n → are_met width v (take m bounds) ≡ true → are_met width v (take k (take n bounds)) ≡ true
first_met width v bounds zero m n h g e = refl
first_met width v bounds (suc k) zero n h g e = absurd (no_less k h)
  where
    no_less : (k : ℕ) → suc k ≤ 0 → ⊥
    no_less k h = omega arith
first_met width v bounds (suc k) (suc m) zero h g e = absurd (no_less k g)
  where
    no_less : (k : ℕ) → suc k ≤ 0 → ⊥
    no_less k h = omega arith
first_met width v [] (suc k) (suc m) (suc n) h g e = refl
first_met width v (b ∷ bounds) (suc k) (suc m) (suc n) h g e =
    and_both _ _ (and_left _ _ e) (first_met width v bounds k m n (less k m h) (less k n g) (and_right _ _ e))
  where
    less : (k m : ℕ) → suc k ≤ suc m → k ≤ m
    less k m h = omega arith

pub undone : (s : State) (ids : List TermId) (old new : Trail) (met capacity n m : ℕ) → IsKept s ids old met capacity → s.bounds ≡ old.bounds → s.trail ≡ old.most → new ≡ first_of old n
    → n ≤ length old.bounds → m ≡ min met n → KeepsApart new → IsKept (with_trail s new) ids new m capacity
undone s ids old new met capacity n m k same most is few least apart =
    changed s ids old new met capacity m k (ap (λ (t : Trail). t.rows) is) (ap (λ (t : Trail). t.most) is ∙ sym most) apart ordered few_left are
  where
    at_most : (m a b : ℕ) → m ≡ min a b → m ≤ b
    at_most m a b e = grind (arith, e)

    at_least : (m a b : ℕ) → m ≡ min a b → m ≤ a
    at_least m a b e = grind (arith, e)

    taken : (n : ℕ) (xs : List Bound) → n ≤ length xs → length (take n xs) ≡ n
    taken n xs h = grind (arith, common_steps)

    few_left : m ≤ length new.bounds
    few_left = subst (λ (i : ℕ). m ≤ i) (sym (ap (λ (t : Trail). length t.bounds) is ∙ taken n old.bounds few)) (at_most m met n least)

    are : are_met (rows_in s).parts (kept_point s) (take m new.bounds) ≡ true
    are =
        ap (λ (t : Trail). are_met (rows_in s).parts (kept_point s) (take m t.bounds)) is
        ∙ first_met (rows_in s).parts (kept_point s) old.bounds m met n (at_least m met n least) (at_most m met n least)
        (ap (λ bounds. are_met (rows_in s).parts (kept_point s) (take met bounds)) (sym same) ∙ k.known)

    found : (i : ℕ) (side : Side) (x : Rational) → bound_on new.bounds i side ≡ Some x → bound_on s.bounds i side ≡ Some x
    found i side x h =
        ap (λ bounds. bound_on bounds i side) same
        ∙ first_found n old.bounds i side x (ap (λ bounds. bound_on bounds i side) (sym (ap (λ (t : Trail). t.bounds) is)) ∙ h)

    ordered : (i : ℕ) (low high : Rational) → bound_on new.bounds i Lower ≡ Some low → bound_on new.bounds i Upper ≡ Some high → is_less high low ≡ false
    ordered i low high h g = k.tableau.bounds.ordered i low high (found i Lower low h) (found i Upper high g)

-- ---- asserting

some_is : (x y : Rational) → Some x ≡ Some y → x ≡ y
some_is x y e = ap value e
  where
    value : Option Rational → Rational
    value None = nothing
    value (Some z) = z

pub asserted : (s : State) (ids : List TermId) (old new : Trail) (met capacity : ℕ) (b : Bound) → IsKept s ids old met capacity → s.bounds ≡ old.bounds → s.trail ≡ old.most → MayAssert s b
    → new ≡ more old b → KeepsApart new → IsKept (with_trail s new) ids new met capacity
asserted s ids old new met capacity b k same most may is apart =
    changed s ids old new met capacity met k (ap (λ (t : Trail). t.rows) is) (ap (λ (t : Trail). t.most) is ∙ sym most) apart ordered few are
  where
    bounds_are : new.bounds ≡ s.bounds ++ b ∷ []
    bounds_are = ap (λ (t : Trail). t.bounds) is ∙ ap (λ bounds. bounds ++ b ∷ []) (sym same)

    few : met ≤ length new.bounds
    few = subst (λ bounds. met ≤ length bounds) (sym bounds_are) (longer met s.bounds b k.within)
      where
        longer : (n : ℕ) (xs : List Bound) (x : Bound) → n ≤ length xs → n ≤ length (xs ++ x ∷ [])
        longer n xs x h = grind (arith, common_steps)

    are : are_met (rows_in s).parts (kept_point s) (take met new.bounds) ≡ true
    are =
        ap (λ bounds. are_met (rows_in s).parts (kept_point s) (take met bounds)) bounds_are
        ∙ ap (are_met (rows_in s).parts (kept_point s)) (take-append-le met s.bounds (b ∷ []) k.within) ∙ k.known

    Ordered : ℕ → Rational → Rational → Type 0
    Ordered i low high = is_less high low ≡ false

    now : (i : ℕ) (side : Side) → bound_on new.bounds i side ≡ bound_on (s.bounds ++ b ∷ []) i side
    now i side = ap (λ bounds. bound_on bounds i side) bounds_are

    -- what the new bound's own side has
    own : (i : ℕ) (side : Side) (x : Rational) → is_on b i side ≡ true → bound_on new.bounds i side ≡ Some x → x ≡ b.value
    own i side x on h =
        some_is x b.value (sym h ∙ now i side ∙ ap (λ n. bound_on (s.bounds ++ b ∷ []) n side) (sym (eq_is b.row i (and_left (nat_eq b.row i) (same_side b.side side) on)))
        ∙ ap (bound_on (s.bounds ++ b ∷ []) b.row) (sym (same_is b.side side (and_right (nat_eq b.row i) (same_side b.side side) on))) ∙ found_here s.bounds b may.free)
      where
        same_is : (x y : Side) → same_side x y ≡ true → x ≡ y
        same_is Lower Lower h = refl
        same_is Lower Upper h = absurd (false≢true h)
        same_is Upper Lower h = absurd (false≢true h)
        same_is Upper Upper h = refl

    before : (i : ℕ) (side : Side) (x : Rational) → is_on b i side ≡ false → bound_on new.bounds i side ≡ Some x → bound_on s.bounds i side ≡ Some x
    before i side x off h = sym (found_other s.bounds b i side off) ∙ sym (now i side) ∙ h

    off_other : (i : ℕ) (side : Side) → is_on b i side ≡ true → is_on b i (other_side side) ≡ false
    off_other i side on = no_and (nat_eq b.row i) b.side side (and_right (nat_eq b.row i) (same_side b.side side) on)
      where
        no_and : (x : Bool) (p q : Side) → same_side p q ≡ true → (x && same_side p (other_side q)) ≡ false
        no_and true Lower Lower h = refl
        no_and true Upper Upper h = refl
        no_and true Lower Upper h = absurd (false≢true h)
        no_and true Upper Lower h = absurd (false≢true h)
        no_and false p q h = refl

    side_of : (i : ℕ) (side : Side) → is_on b i side ≡ true → b.side ≡ side
    side_of i side on = same_is b.side side (and_right (nat_eq b.row i) (same_side b.side side) on)
      where
        same_is : (x y : Side) → same_side x y ≡ true → x ≡ y
        same_is Lower Lower h = refl
        same_is Lower Upper h = absurd (false≢true h)
        same_is Upper Lower h = absurd (false≢true h)
        same_is Upper Upper h = refl

    -- it does not clash with the other side's
    no_clash : (i : ℕ) (side : Side) (other : Rational) → is_on b i side ≡ true → bound_on new.bounds i (other_side side) ≡ Some other → clashes side b.value other ≡ false
    no_clash i side other on h =
        ap (λ s. clashes s b.value other) (sym (side_of i side on))
        ∙ may.ordered other (ap (λ s2. bound_on s.bounds b.row (other_side s2)) (side_of i side on)
        ∙ ap (λ n. bound_on s.bounds n (other_side side)) (eq_is b.row i (and_left (nat_eq b.row i) (same_side b.side side) on))
        ∙ before i (other_side side) other (off_other i side on) h)

    ordered : (i : ℕ) (low high : Rational) → bound_on new.bounds i Lower ≡ Some low → bound_on new.bounds i Upper ≡ Some high → is_less high low ≡ false
    ordered i low high h g = by_cases (is_on b i Lower) refl (is_on b i Upper) refl
      where
        by_cases : (p : Bool) → is_on b i Lower ≡ p → (q : Bool) → is_on b i Upper ≡ q → is_less high low ≡ false
        by_cases true p q e = ap (is_less high) (own i Lower low p h) ∙ no_clash i Lower high p g
        by_cases false p true q = ap (λ x. is_less x low) (own i Upper high q g) ∙ no_clash i Upper low q h
        by_cases false p false q = k.tableau.bounds.ordered i low high (before i Lower low p h) (before i Upper high q g)

pub asserted_as : (s now : State) (ids : List TermId) (old new : Trail) (met capacity : ℕ) (row : ℕ) (side : Side) (x y : Rational) → IsKept s ids old met capacity → s.bounds ≡ old.bounds
    → s.trail ≡ old.most → s ≡ now → x ≡ y → MayAssert now (bound_of row side y) → new ≡ more old (bound_of row side x) → KeepsApart new → IsKept (with_trail s new) ids new met capacity
asserted_as s now ids old new met capacity row side x y k same most e f may is apart =
    asserted s ids old new met capacity (bound_of row side x) k same most
    (subst (λ (z : Rational). MayAssert s (bound_of row side z)) (sym f) (subst (λ (t : State). MayAssert t (bound_of row side y)) (sym e) may)) is apart

-- ---- opening

zeros_are : (n c : ℕ) → slice_index_or (replicate n nothing) c nothing ≡ nothing
zeros_are zero c = refl
zeros_are (suc n) zero = refl
zeros_are (suc n) (suc c) = zeros_are n c

abbrev pub opened_state : List IdForm → ℕ → ℕ → List (List Rational) → List Multiple → EvidenceValue → State
opened_state forms trail pivots cells combination evidence = record {
  forms = forms;
  trail = trail;
  pivots = pivots;
  bounds = [];
  form = first (length (part_ids forms)) cells;
  values = replicate (length (part_ids forms) + length forms) nothing;
  answer = None;
  combination = combination;
  evidence = evidence;
}

abbrev pub opened_trail : List IdForm → ℕ → Trail
opened_trail forms trail = record { rows = length forms; most = trail; bounds = [] }

module _ (forms : List IdForm) (trail pivots : ℕ) (cells : List (List Rational)) (combination : List Multiple) (evidence : EvidenceValue)
    (count : length cells ≡ length forms) (rows : AreRowsTo forms (part_ids forms) cells) where
  abbrev s : State
  s = opened_state forms trail pivots cells combination evidence

  same : (i c : ℕ) → i < length forms → c < length (part_ids forms) → cell (slice_index_or cells i []) c ≡ (rows_of forms).coefficient i c
  same i c h g = rows.each i c (subst (λ (n : ℕ). i < n) (sym count) h) g

  basis_is : (c : ℕ) → c < columns (rows_of forms) → is_basic (places s.form c) ≡ is_basic (row_places (rows_of forms) c)
  basis_is c h = first_basis (rows_of forms) cells count same c h

  solved : IsSolved (rows_of forms) (places s.form) (entries s.form)
  solved =
      entries_alone (rows_of forms) (places s.form) (row_entries (rows_of forms)) (entries s.form) (λ b c inside basic c_in. is_first_form (rows_of forms) cells count same b c inside basic c_in)
      (basis_alone (rows_of forms) (row_places (rows_of forms)) (places s.form) (row_entries (rows_of forms)) basis_is (rows_are_solved (rows_of forms)))

  zero_point : (c : ℕ) → kept_point s c ≡ nothing
  zero_point c = zeros_are (length (part_ids forms) + length forms) c

  pub opened_keeps : (capacity : ℕ) → columns (rows_of forms) < 2 ^ 32 → pivots ≤ 1000000 → length forms ≤ capacity → evidence.room ≡ room_in s
      → IsKept s (part_ids forms) (opened_trail forms trail) 0 capacity
  opened_keeps capacity few_columns few_pivots enough room = record {
    tableau = record {
      few_columns = few_columns;
      few_pivots = few_pivots;
      few_bounds = omega arith;
      bounds = record { in_range = refl; apart = refl; ordered = λ i low high h g. absurd (false≢true (sym (ap is_none h))) };
      solved = solved;
      spots = spot_total (length (part_ids forms)) cells ∙ ap (λ n. length (part_ids forms) + n) count;
      width = length_listed (λ i. 0 + i) (length (part_ids forms));
      count = length-replicate (length (part_ids forms) + length forms) nothing;
      solution = λ i below. zero_point (length (part_ids forms) + i) ∙ sym (sum_nothing (length (part_ids forms)) _ (λ c h. ap (times ((rows_of forms).coefficient i c)) (zero_point c) ∙ times_zero ((rows_of forms).coefficient i c)));
      parts = λ c below out. zero_point c;
    };
    ids_are = refl;
    rows_are = refl;
    room_is = room;
    combination_room = enough;
    within = omega arith;
    known = refl;
  }

  pub opened_is : IsOpened forms trail pivots s
  opened_is = record {
    forms_are = refl;
    trail_is = refl;
    pivots_are = refl;
    no_bounds = refl;
    all_rows = basis_is;
    zeros = zero_point;
    not_checked = refl;
  }

-- the same with the parts as they were made
pub record Opened (s : State) (ids : List TermId) (t : Trail) (forms : List IdForm) (trail pivots capacity : ℕ) : Type 0 where
  pub kept : IsKept s ids t 0 capacity
  pub opened : IsOpened forms trail pivots s

pub opened_as : (f forms : List IdForm) (trail pivots : ℕ) (ids : List TermId) (cells : List (List Rational)) (t : Trail) (width : ℕ) (d : Dictionary) (v : List Rational)
    (combination : List Multiple) (evidence : EvidenceValue) (capacity : ℕ) → f ≡ forms → ids ≡ part_ids forms → length cells ≡ length forms → AreRowsTo forms ids cells → width ≡ length ids
    → d ≡ first width cells → v ≡ replicate (length ids + length forms) nothing → t ≡ opened_trail forms trail → columns (rows_of forms) < 2 ^ 32 → pivots ≤ 1000000
    → length forms ≤ capacity → evidence ≡ no_evidence (record { bounds = trail; basis = length forms; held = width; steps = pivots })
    → Opened (record { forms = f; trail = t.most; pivots = pivots; bounds = t.bounds; form = d; values = v; answer = None; combination = combination; evidence = evidence }) ids t forms trail pivots capacity
opened_as f forms trail pivots ids cells t width d v combination evidence capacity ef ei count rows ew ed ev et few_columns few_pivots enough ee =
    rw (ef, et, ed ∙ ap (λ w. first w cells) (ew ∙ ap (λ i. length i) ei), ev ∙ ap (λ i. replicate (length i + length forms) nothing) ei, ei) (record {
      kept = opened_keeps forms trail pivots cells combination evidence count (subst (λ (i : List TermId). AreRowsTo forms i cells) ei rows) capacity few_columns few_pivots enough
          (ap (λ (e : EvidenceValue). e.room) ee ∙ ap (λ n. room_of n) (ew ∙ ap (λ i. length i) ei));
      opened = opened_is forms trail pivots cells combination evidence count (subst (λ (i : List TermId). AreRowsTo forms i cells) ei rows);
    })
  where
    room_of : ℕ → Room
    room_of n = record { bounds = trail; basis = length forms; held = n; steps = pivots }
