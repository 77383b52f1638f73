-- Which column leaves the basis.
use Rattle.std.proofs.Common.{◌≡◌, ℕ, zero, suc, ◌+◌, ◌-◌, ◌<◌, Bool, get_or, take, true, false, ◌||◌, not, List, [], ◌∷◌, length, Option, Some, None, IfSome, IfNone, Result, Ok, Err, IfOk, nat_eq, nat_lt, slice_get, slice_index_or, refl, sym, ap, ◌∙◌, subst, arith, if◌then◌else◌}
use Rattle.std.proofs.lemmas.Bool.{false≢true}
use Rattle.std.proofs.lemmas.Bool.Decides.{nat_tests}
use Rattle.std.proofs.lemmas.List.{get_or_default}
use Rattle.std.proofs.lemmas.Option.{slice_get_within, slice_get_past, slice_get-get_or}
use mathlib.Core.Path.{ap₂}
use Rattle.spv_frac.specs.rational.Rational.{Rational}
use Rattle.spv_frac.specs.declared.frac.Op.TheVariants.{Cmp}
use Rattle.spv_tableau_rules.specs.declared.tableaux.side.Side.{Side}
use Rattle.spv_tableau_rules.specs.declared.tableaux.side.Side.TheVariants.{Lower, Upper}
use Rattle.spv_tableau_rules.specs.tableaux.Numbers.{nothing}
use Rattle.spv_tableau_rules.specs.tableaux.Rows.{Point}
use Rattle.spv_tableau_rules.specs.tableaux.Bounds.{Bound, same_side, bound_on, is_none, are_apart, Limits, limit_from, breaks, breaks_limit, is_out}
use Rattle.spv_tableau_rules.specs.tableaux.Solved.{is_basic}
use Rattle.spv_tableau_rules.specs.tableaux.Steps.{none_to, may_leave, may_enter}
use Rattle.spv_tableau_rules.specs.tableaux.Operations.{Operation, operation, Compares, comparing}
use Rattle.spv_tableau_rules.proofs.pivots.Starting.{above_is}
use Rattle.spv_tableau_rules.proofs.pivots.Algebra.{false_of}
use Rattle.spv_tableau_rules.proofs.pivots.Sums.{eq_is, eq_self}
use Rattle.spv_tableau_rules.proofs.pivots.Tests.{and_left, and_right, and_both, not_false}
use Rattle.spv_dictionary.specs.declared.spot.Spot.{Spot}
use Rattle.spv_dictionary.specs.declared.spot.Spot.TheVariants as spot
use Rattle.spv_dictionary.specs.Dictionary.{Dictionary, IsDictionary, IsSpot, spot_of, basic_at, outside_at, entries, place_of, places}
use Rattle.spv_dictionary.specs.updates.Shifts.{value_in}
use Rattle.spv_dictionary.proofs.pivoting.Bounding.{is_on}
use Rattle.spv_dictionary.specs.declared.pivoting.choosing.Chosen.{Chosen}
use Rattle.spv_dictionary.specs.declared.pivoting.entering.Entry.{Entry}
use Rattle.spv_dictionary.specs.pivoting.Choosing.{limits_of, is_broken, are_met, IsComparing, with_lower, with_upper, IsBoundAt, CanLeave, IsLeaving, leaves_by, is_broken_inside, LeavesFirst, LeavesNext, keeps, finds, CanEnter, IsEntering, enters_by, EntersFirst, EntersNext, slot_may_enter}

none≢some : (x : Rational) → None ≡ Some x → ⊥
none≢some x e = false≢true (sym (ap is_there e))
  where
    is_there : Option Rational → Bool
    is_there None = true
    is_there (Some y) = false

pub of_lower : (lower upper : Option Rational) (value : Rational) (o : Operation) → IsComparing lower None value o → IsComparing lower upper value o
of_lower lower upper value o (with_lower b e) = with_lower b e
of_lower lower upper value o (with_upper b e) = absurd (none≢some b e)

pub of_upper : (lower upper : Option Rational) (value : Rational) (o : Operation) → IsComparing None upper value o → IsComparing lower upper value o
of_upper lower upper value o (with_lower b e) = absurd (none≢some b e)
of_upper lower upper value o (with_upper b e) = with_upper b e

pub if_ok : {T : Type 0} (r : Result T Operation) (P Q : T → Type 0) → IfOk r P → ((t : T) → P t → Q t) → IfOk r Q
if_ok (Ok t) P Q h more = more t h
if_ok (Err o) P Q h more = tt

-- ---- limits of columns

pub limit_here : (width : ℕ) (bounds : List Bound) (row : ℕ) (side : Side) → limits_of width bounds (width + row) side ≡ bound_on bounds row side
limit_here width bounds row side = ap (λ b. limit_from b bounds (width + row - width) side) (above_is width row) ∙ ap (λ k. bound_on bounds k side) (back width row)
  where
    back : (p i : ℕ) → p + i - p ≡ i
    back p i = omega arith

pub limit_of_part : (width : ℕ) (bounds : List Bound) (c : ℕ) (side : Side) → nat_lt c width ≡ true → limits_of width bounds c side ≡ None
limit_of_part width bounds c side h = ap (λ b. limit_from b bounds (c - width) side) h

-- a column's value compared with its bound on a side
compares_on : (limits : Limits) (v : Point) (column : ℕ) (side : Side) (bound : Option Rational) (value : Rational) (o : Operation) → bound ≡ limits column side → value ≡ v column
    → IsComparing bound bound value o → Compares limits v o
compares_on limits v column side bound value o eb ev (with_lower b e) = subst (λ (x : Rational). Compares limits v (operation Cmp x b)) (sym ev) (comparing column side b (sym eb ∙ e))
compares_on limits v column side bound value o eb ev (with_upper b e) = subst (λ (x : Rational). Compares limits v (operation Cmp x b)) (sym ev) (comparing column side b (sym eb ∙ e))

pub column_compares : (width : ℕ) (bounds : List Bound) (values : List Rational) (column : ℕ) (side : Side) (bound : Option Rational) (value : Rational) (o : Operation)
    → bound ≡ limits_of width bounds column side → column < length values → value ≡ slice_index_or values column value → IsComparing bound bound value o
    → Compares (limits_of width bounds) (value_in values) o
column_compares width bounds values column side bound value o eb below read is =
    compares_on (limits_of width bounds) (value_in values) column side bound value o eb (read ∙ get_or_default values column value nothing below) is

pub column_in : (n p m q i s r : ℕ) → n ≡ p + m → q ≡ m → i < q → s ≡ p → r ≡ i → s + r < n
column_in n p m q i s r a b c d e = omega (arith, a, b, d, e)

pub read_value : (values : List Rational) (c : ℕ) (value : Rational) → c < length values → value ≡ slice_index_or values c value → value ≡ value_in values c
read_value values c value below read = read ∙ get_or_default values c value nothing below

-- ---- what is found in a list of bounds

none≢bound : (b : Bound) → None ≡ Some b → ⊥
none≢bound b e = false≢true (sym (ap is_there e))
  where
    is_there : Option Bound → Bool
    is_there None = true
    is_there (Some y) = false

one_of : (x y : Bound) → Some x ≡ Some y → x ≡ y
one_of x y e = ap (value x) e
  where
    value : Bound → Option Bound → Bound
    value d None = d
    value d (Some z) = z

value_of : (x y : Rational) → Some x ≡ Some y → x ≡ y
value_of x y e = ap (value x) e
  where
    value : Rational → Option Rational → Rational
    value d None = d
    value d (Some z) = z

on_itself : (b : Bound) → is_on b b.row b.side ≡ true
on_itself b = and_both _ _ (eq_self b.row) (side_self b.side)
  where
    side_self : (side : Side) → same_side side side ≡ true
    side_self Lower = refl
    side_self Upper = refl

side_is : (x y : Side) → same_side x y ≡ true → x ≡ y
side_is Lower Lower h = refl
side_is Lower Upper h = absurd (false≢true h)
side_is Upper Lower h = absurd (false≢true h)
side_is Upper Upper h = refl

-- the bound at a place is that on its side of its row
pub found_at : (bounds : List Bound) (k : ℕ) (b : Bound) → are_apart bounds ≡ true → slice_get bounds k ≡ Some b → bound_on bounds b.row b.side ≡ Some b.value
found_at [] k b h e = absurd (none≢bound b (sym (slice_get_past [] k (omega arith)) ∙ e))
found_at (x ∷ bounds) zero b h e = subst (λ (y : Bound). bound_on (x ∷ bounds) y.row y.side ≡ Some y.value) (one_of x b e) (rw (on_itself x) refl)
found_at (x ∷ bounds) (suc k) b h e = behind x bounds b h (found_at bounds k b (and_right _ _ h) e)
  where
    behind : (x : Bound) (bounds : List Bound) (b : Bound) → are_apart (x ∷ bounds) ≡ true → bound_on bounds b.row b.side ≡ Some b.value → bound_on (x ∷ bounds) b.row b.side ≡ Some b.value
    behind x bounds b h rest = by_case (is_on x b.row b.side) refl
      where
        by_case : (c : Bool) → is_on x b.row b.side ≡ c → bound_on (x ∷ bounds) b.row b.side ≡ Some b.value
        by_case false c = rw c rest
        by_case true c =
            let row : x.row ≡ b.row = eq_is x.row b.row (and_left (nat_eq x.row b.row) (same_side x.side b.side) c) in
            let side : x.side ≡ b.side = side_is x.side b.side (and_right (nat_eq x.row b.row) (same_side x.side b.side) c) in
            absurd (false≢true (sym (ap is_none rest) ∙ ap is_none (ap₂ (λ (i : ℕ) (s : Side). bound_on bounds i s) (sym row) (sym side)) ∙ and_left _ _ h))

-- a bound in a list, on a side of a row
pub record IsIn (bounds : List Bound) (i : ℕ) (side : Side) (x : Rational) : Type 0 where
  pub place : ℕ
  pub bound : Bound
  pub there : slice_get bounds place ≡ Some bound
  pub row : bound.row ≡ i
  pub on : bound.side ≡ side
  pub value : bound.value ≡ x

pub is_in : (bounds : List Bound) (i : ℕ) (side : Side) (x : Rational) → bound_on bounds i side ≡ Some x → IsIn bounds i side x
is_in [] i side x h = absurd (none≢some x h)
is_in (b ∷ bounds) i side x h = by_case (is_in bounds i side x) (is_on b i side) refl h
  where
    by_case : (bound_on bounds i side ≡ Some x → IsIn bounds i side x) → (c : Bool) → is_on b i side ≡ c → (if c then Some b.value else bound_on bounds i side) ≡ Some x → IsIn (b ∷ bounds) i side x
    by_case rest true c e = record {
      place = 0;
      bound = b;
      there = refl;
      row = eq_is b.row i (and_left (nat_eq b.row i) (same_side b.side side) c);
      on = side_is b.side side (and_right (nat_eq b.row i) (same_side b.side side) c);
      value = value_of b.value x e;
    }
    by_case rest false c e = let r = rest e in record { place = suc r.place; bound = r.bound; there = r.there; row = r.row; on = r.on; value = r.value }

-- ---- the side that a column breaks

-- a bound of a column that is broken there
pub record Breaks (limits : Limits) (v : Point) (c : ℕ) : Type 0 where
  pub side : Side
  pub bound : Rational
  pub bound_is : limits c side ≡ Some bound
  pub breaks : breaks side bound (v c) ≡ true

some_broken : (limits : Limits) (v : Point) (c : ℕ) (side : Side) (o : Option Rational) → limits c side ≡ o → breaks_limit side o (v c) ≡ true → Breaks limits v c
some_broken limits v c side None e h = absurd (false≢true h)
some_broken limits v c side (Some x) e h = record { side = side; bound = x; bound_is = e; breaks = h }

pub out_breaks : (limits : Limits) (v : Point) (c : ℕ) → is_out limits v c ≡ true → Breaks limits v c
out_breaks limits v c h = by_side (breaks_limit Lower (limits c Lower) (v c)) refl h
  where
    by_side : (b : Bool) → breaks_limit Lower (limits c Lower) (v c) ≡ b → (b || breaks_limit Upper (limits c Upper) (v c)) ≡ true → Breaks limits v c
    by_side true e k = some_broken limits v c Lower (limits c Lower) refl e
    by_side false e k = some_broken limits v c Upper (limits c Upper) refl k

-- a column with a limit is a row's
pub record IsRows (width : ℕ) (bounds : List Bound) (c : ℕ) (side : Side) (x : Rational) : Type 0 where
  pub at : width + (c - width) ≡ c
  pub bound : bound_on bounds (c - width) side ≡ Some x

pub is_rows : (width : ℕ) (bounds : List Bound) (c : ℕ) (side : Side) (x : Rational) → limits_of width bounds c side ≡ Some x → IsRows width bounds c side x
is_rows width bounds c side x h = by_case (nat_lt c width) refl h
  where
    back : (c w : ℕ) → nat_lt c w ≡ false → w + (c - w) ≡ c
    back c w e = grind (arith, nat_tests)

    by_case : (b : Bool) → nat_lt c width ≡ b → limit_from b bounds (c - width) side ≡ Some x → IsRows width bounds c side x
    by_case true e k = absurd (none≢some x k)
    by_case false e k = record { at = back c width e; bound = k }

-- ---- bounds that are met

pub met_more : (width : ℕ) (v : Point) (bounds : List Bound) (n m : ℕ) (b : Bound) → are_met width v (take n bounds) ≡ true → slice_get bounds n ≡ Some b
    → breaks b.side b.value (v (width + b.row)) ≡ false → m ≡ suc n → are_met width v (take m bounds) ≡ true
met_more width v bounds n m b h e k s = ap (λ i. are_met width v (take i bounds)) s ∙ more bounds n h e
  where
    more : (xs : List Bound) (i : ℕ) → are_met width v (take i xs) ≡ true → slice_get xs i ≡ Some b → are_met width v (take (suc i) xs) ≡ true
    more [] i h e = refl
    more (x ∷ xs) zero h e = and_both _ _ (not_false _ (ap (λ (y : Bound). is_broken width v y) (one_of x b e) ∙ k)) refl
    more (x ∷ xs) (suc i) h e = and_both _ _ (and_left _ _ h) (more xs i (and_right _ _ h) e)

-- ---- the least one

pub none_from : (n : ℕ) (test : ℕ → Bool) → ((c : ℕ) → c < n → test c ≡ false) → none_to n test ≡ true
none_from zero test h = refl
none_from (suc n) test h = and_both _ _ (none_from n test (λ c k. h c (omega arith))) (not_false _ (h n (omega arith)))

not_less : (c k : ℕ) → c < k → not (nat_lt c k) ≡ false
not_less c k h = grind (arith, nat_tests)

at_least : (c k : ℕ) → not (nat_lt c k) ≡ false → c < k
at_least c k h = grind (arith, nat_tests)

by_itself : (c k : ℕ) → k ≡ c → not (nat_lt c k) ≡ true
by_itself c k h = grind (arith, nat_tests)

by_less : (c k m : ℕ) → not (nat_lt c m) ≡ false → not (nat_lt c k) ≡ true → k < m
by_less c k m h g = grind (arith, nat_tests)

by_lower : (c k m : ℕ) → k < m → not (nat_lt c m) ≡ true → not (nat_lt c k) ≡ true
by_lower c k m h g = grind (arith, nat_tests)

abbrev chosen_of : ℕ → ℕ → Side → Rational → Chosen
chosen_of column row side bound = record { column = column; row = row; side = side; bound = bound }

module _ (d : Dictionary) (v : Point) (bounds : List Bound) where
  abbrev width : ℕ
  width = length d.outside

  abbrev l : Limits
  l = limits_of width bounds

  pub leaves_none : LeavesFirst l d v bounds 0 None
  leaves_none = record { can = λ x e. absurd (none≢chosen x e); least = λ k b h. absurd (no_less k h) }
    where
      none≢chosen : (x : Chosen) → None ≡ Some x → ⊥
      none≢chosen x e = false≢true (sym (ap is_empty e))
        where
          is_empty : Option Chosen → Bool
          is_empty None = true
          is_empty (Some y) = false

      no_less : (k : ℕ) → k < 0 → ⊥
      no_less k h = omega arith

  pub leaves_found : (place : ℕ) (b : Bound) (found : Option Chosen) (column row : ℕ) (side : Side) (bound : Rational) → are_apart bounds ≡ true → slice_get bounds place ≡ Some b
      → column ≡ width + b.row → side ≡ b.side → bound ≡ b.value → spot_of d column ≡ spot.Row row → column < length d.spots → breaks b.side b.value (v column) ≡ true
      → leaves_by found column ≡ false
      → IsBoundAt bounds place (λ x. LeavesNext l d v x found (Some (record { column = column; row = row; side = side; bound = bound })))
  leaves_found place b found column row side bound apart there column_is side_is bound_is at inside broken free x x_there =
      subst (λ (y : Bound). LeavesNext l d v y found (Some (chosen_of column row side bound))) (one_of b x (sym there ∙ x_there)) (finds (chosen_of column row side bound) refl can column_is (ap (leaves_by found) (sym column_is) ∙ free))
    where
      can : CanLeave l d v (chosen_of column row side bound)
      can = record {
        inside = inside;
        row_is = at;
        bound_is = ap₂ (λ (c : ℕ) (s : Side). l c s) column_is side_is ∙ limit_here width bounds b.row b.side ∙ found_at bounds place b apart there ∙ ap Some (sym bound_is);
        breaks = ap₂ (λ (s : Side) (z : Rational). breaks s z (v column)) side_is bound_is ∙ broken;
      }

  pub bound_compares : (place : ℕ) (b : Bound) (column : ℕ) → are_apart bounds ≡ true → slice_get bounds place ≡ Some b → column ≡ width + b.row
      → (o : Operation) → o ≡ operation Cmp (v column) b.value → Compares l v o
  bound_compares place b column apart there column_is o is =
      subst (λ (x : Operation). Compares l v x) (sym is)
      (comparing column b.side b.value (ap (λ c. l c b.side) column_is ∙ limit_here width bounds b.row b.side ∙ found_at bounds place b apart there))

  chosen_is : (x y : Chosen) → Some x ≡ Some y → x ≡ y
  chosen_is x y e = ap (value x) e
    where
      value : Chosen → Option Chosen → Chosen
      value z None = z
      value z (Some y) = y

  -- what was found before the next one is no more than that
  lower : (found : Option Chosen) (x : Chosen) (c k : ℕ) → x.column ≡ c → leaves_by found c ≡ false → leaves_by found k ≡ true → leaves_by (Some x) k ≡ true
  lower None x c k e h g = absurd (false≢true g)
  lower (Some y) x c k e h g = by_lower k x.column y.column (subst (λ (n : ℕ). n < y.column) (sym e) (at_least c y.column h)) g

  pub leaves_more : (n m : ℕ) (found next : Option Chosen) → LeavesFirst l d v bounds n found → n < length bounds → IsBoundAt bounds n (λ b. LeavesNext l d v b found next) → m ≡ suc n
      → LeavesFirst l d v bounds m next
  leaves_more n m found next f n_in is e = by_bound (slice_get bounds n) refl
    where
      last : (k n m : ℕ) → k < m → m ≡ suc n → nat_eq k n ≡ false → k < n
      last k n m h e g = grind arith

      with : (b : Bound) → slice_get bounds n ≡ Some b → LeavesNext l d v b found next → LeavesFirst l d v bounds m next
      with b at (keeps same covers) = record {
        can = λ x is_some. f.can x (sym same ∙ is_some);
        least = λ k y below there broken. ap (λ o. leaves_by o (width + y.row)) same ∙ by_place k y below there broken (nat_eq k n) refl;
      }
        where
          by_place : (k : ℕ) (y : Bound) → k < m → slice_get bounds k ≡ Some y → is_broken_inside d v y ≡ true → (q : Bool) → nat_eq k n ≡ q → leaves_by found (width + y.row) ≡ true
          by_place k y below there broken false q = f.least k y (last k n m below e q) there broken
          by_place k y below there broken true q =
              let y_is : b ≡ y = one_of b y (sym at ∙ ap (slice_get bounds) (sym (eq_is k n q)) ∙ there) in
              subst (λ (z : Bound). is_broken_inside d v z ≡ true → leaves_by found (width + z.row) ≡ true) y_is covers broken
      with b at (finds x x_is can column_is free) = record {
        can = λ y is_some. subst (CanLeave l d v) (chosen_is x y (sym x_is ∙ is_some)) can;
        least = λ k y below there broken. ap (λ o. leaves_by o (width + y.row)) x_is ∙ by_place k y below there broken (nat_eq k n) refl;
      }
        where
          by_place : (k : ℕ) (y : Bound) → k < m → slice_get bounds k ≡ Some y → is_broken_inside d v y ≡ true → (q : Bool) → nat_eq k n ≡ q → leaves_by (Some x) (width + y.row) ≡ true
          by_place k y below there broken false q = lower found x (width + b.row) (width + y.row) column_is free (f.least k y (last k n m below e q) there broken)
          by_place k y below there broken true q =
              let y_is : b ≡ y = one_of b y (sym at ∙ ap (slice_get bounds) (sym (eq_is k n q)) ∙ there) in
              by_itself (width + y.row) x.column (column_is ∙ ap (λ (z : Bound). width + z.row) y_is)

      no_bound : Bound
      no_bound = record { row = 0; side = Lower; value = nothing }

      by_bound : (o : Option Bound) → slice_get bounds n ≡ o → LeavesFirst l d v bounds m next
      by_bound None g = absurd (none≢bound (get_or bounds n no_bound) (sym g ∙ slice_get-get_or bounds n no_bound n_in))
      by_bound (Some b) g = with b g (is b g)

  -- every column that may leave is at least what was found
  pub covered : (found : Option Chosen) → LeavesFirst l d v bounds (length bounds) found → (c : ℕ) → may_leave l (places d) v c ≡ true → leaves_by found c ≡ true
  covered found f c h =
      let b = out_breaks l v c (and_right (is_basic (places d c)) (is_out l v c) h) in
      let r = is_rows width bounds c b.side b.bound b.bound_is in
      let i = is_in bounds (c - width) b.side b.bound r.bound in
      let column : width + i.bound.row ≡ c = ap (λ n. width + n) i.row ∙ r.at in
      ap (leaves_by found) (sym column)
      ∙ f.least i.place i.bound (slice_get_within bounds i.place i.bound i.there) i.there
      (and_both _ _ (ap (λ n. is_basic (places d n)) column ∙ and_left (is_basic (places d c)) (is_out l v c) h) (broken c b.side b.bound i.bound column i.on i.value b.breaks))
    where
      broken : (c : ℕ) (side : Side) (x : Rational) (b : Bound) → width + b.row ≡ c → b.side ≡ side → b.value ≡ x → breaks side x (v c) ≡ true → is_broken width v b ≡ true
      broken c side x b column on value e =
          ap (λ n. breaks b.side b.value (v n)) column ∙ ap₂ (λ (s : Side) (y : Rational). breaks s y (v c)) on value ∙ e

  pub none_leaves : (found : Option Chosen) → LeavesFirst l d v bounds (length bounds) found → found ≡ None → none_to (length d.spots) (may_leave l (places d) v) ≡ true
  none_leaves found f e = none_from (length d.spots) (may_leave l (places d) v) (λ c h. false_of _ (λ may. false≢true (ap (λ o. leaves_by o c) (sym e) ∙ covered found f c may)))

  pub least_leaves : (found : Option Chosen) → LeavesFirst l d v bounds (length bounds) found → (x : Chosen) → found ≡ Some x → IsLeaving l d v x
  least_leaves found f x e = record {
    can = can;
    least = and_both _ _ may (none_from x.column (may_leave l (places d) v) (λ c h. false_of _ (λ m. false≢true (sym (not_less c x.column h) ∙ ap (λ o. leaves_by o c) (sym e) ∙ covered found f c m))));
  }
    where
      can : CanLeave l d v x
      can = f.can x e

      out_by : (side : Side) (c : ℕ) → breaks_limit side (l c side) (v c) ≡ true → is_out l v c ≡ true
      out_by Lower c h = rw h refl
      out_by Upper c h = ap (λ b. breaks_limit Lower (l c Lower) (v c) || b) h ∙ or_true (breaks_limit Lower (l c Lower) (v c))
        where
          or_true : (b : Bool) → (b || true) ≡ true
          or_true true = refl
          or_true false = refl

      may : may_leave l (places d) v x.column ≡ true
      may = and_both _ _ (ap (λ s. is_basic (place_of s)) can.row_is) (out_by x.side x.column (ap (λ o. breaks_limit x.side o (v x.column)) can.bound_is ∙ can.breaks))

-- ---- the column that enters

pub if_some : {T : Type 0} (o : Option T) (P : T → Type 0) → ((t : T) → o ≡ Some t → P t) → IfSome o P
if_some None P h = tt
if_some (Some t) P h = h t refl

pub if_none : {T : Type 0} (o : Option T) (P : Type 0) → (o ≡ None → P) → IfNone o P
if_none None P h = h refl
if_none (Some t) P h = tt

module _ (limits : Limits) (d : Dictionary) (known : IsDictionary d) (v : Point) (row : ℕ) (side : Side) where
  abbrev may : ℕ → Bool
  may = may_enter limits (places d) v (entries d) (basic_at d row) side

  pub enters_none : EntersFirst limits d v row side 0 None
  enters_none = record { can = λ x e. absurd (none≢entry x e); least = λ j h. absurd (no_less j h) }
    where
      none≢entry : (x : Entry) → None ≡ Some x → ⊥
      none≢entry x e = false≢true (sym (ap is_empty e))
        where
          is_empty : Option Entry → Bool
          is_empty None = true
          is_empty (Some y) = false

      no_less : (k : ℕ) → k < 0 → ⊥
      no_less k h = omega arith

  pub enters_found : (slot : ℕ) (found : Option Entry) (column : ℕ) → slot < length d.outside → column ≡ outside_at d slot → slot_may_enter limits d v row side slot ≡ true
      → enters_by found column ≡ false → EntersNext limits d v row side slot found (Some (record { column = column; slot = slot }))
  enters_found slot found column inside column_is h free =
      subst (λ (c : ℕ). EntersNext limits d v row side slot found (Some (record { column = c; slot = slot }))) (sym column_is)
      (finds (record { column = outside_at d slot; slot = slot }) refl can refl (ap (enters_by found) (sym column_is) ∙ free))
    where
      can : CanEnter limits d v row side (record { column = outside_at d slot; slot = slot })
      can = record { inside = (known.slots slot inside).0; spot = (known.slots slot inside).1; may = h }

  entry_is : (x y : Entry) → Some x ≡ Some y → x ≡ y
  entry_is x y e = ap (value x) e
    where
      value : Entry → Option Entry → Entry
      value z None = z
      value z (Some y) = y

  lower_entry : (found : Option Entry) (x : Entry) (c k : ℕ) → x.column ≡ c → enters_by found c ≡ false → enters_by found k ≡ true → enters_by (Some x) k ≡ true
  lower_entry None x c k e h g = absurd (false≢true g)
  lower_entry (Some y) x c k e h g = by_lower k x.column y.column (subst (λ (n : ℕ). n < y.column) (sym e) (at_least c y.column h)) g

  pub enters_more : (n m : ℕ) (found next : Option Entry) → EntersFirst limits d v row side n found → EntersNext limits d v row side n found next → m ≡ suc n → EntersFirst limits d v row side m next
  enters_more n m found next f (keeps same covers) e = record {
    can = λ x is_some. f.can x (sym same ∙ is_some);
    least = λ j below m_j. ap (λ o. enters_by o (outside_at d j)) same ∙ by_place j below m_j (nat_eq j n) refl;
  }
    where
      last : (k n m : ℕ) → k < m → m ≡ suc n → nat_eq k n ≡ false → k < n
      last k n m h e g = grind arith

      by_place : (j : ℕ) → j < m → may (outside_at d j) ≡ true → (q : Bool) → nat_eq j n ≡ q → enters_by found (outside_at d j) ≡ true
      by_place j below h false q = f.least j (last j n m below e q) h
      by_place j below h true q = subst (λ (k : ℕ). may (outside_at d k) ≡ true → enters_by found (outside_at d k) ≡ true) (sym (eq_is j n q)) covers h
  enters_more n m found next f (finds x x_is can column_is free) e = record {
    can = λ y is_some. subst (CanEnter limits d v row side) (entry_is x y (sym x_is ∙ is_some)) can;
    least = λ j below m_j. ap (λ o. enters_by o (outside_at d j)) x_is ∙ by_place j below m_j (nat_eq j n) refl;
  }
    where
      last : (k n m : ℕ) → k < m → m ≡ suc n → nat_eq k n ≡ false → k < n
      last k n m h e g = grind arith

      by_place : (j : ℕ) → j < m → may (outside_at d j) ≡ true → (q : Bool) → nat_eq j n ≡ q → enters_by (Some x) (outside_at d j) ≡ true
      by_place j below h false q = lower_entry found x (outside_at d n) (outside_at d j) column_is free (f.least j (last j n m below e q) h)
      by_place j below h true q = by_itself (outside_at d j) x.column (column_is ∙ ap (outside_at d) (sym (eq_is j n q)))

  covered_entry : (found : Option Entry) → EntersFirst limits d v row side (length d.outside) found → (c : ℕ) → c < length d.spots → may c ≡ true → enters_by found c ≡ true
  covered_entry found f c inside h = by_spot (spot_of d c) refl
    where
      by_spot : (s : Spot) → spot_of d c ≡ s → enters_by found c ≡ true
      by_spot (spot.Row k) e =
          absurd (false≢true (sym (ap (λ s. not (is_basic (place_of s))) e) ∙ and_left (not (is_basic (places d c))) _ h))
      by_spot (spot.Slot j) e =
          let at : IsSpot d c (spot.Slot j) = subst (IsSpot d c) e (known.columns c inside) in
          ap (enters_by found) (sym at.1) ∙ f.least j at.0 (ap may at.1 ∙ h)

  pub none_enters : (found : Option Entry) → EntersFirst limits d v row side (length d.outside) found → found ≡ None → none_to (length d.spots) may ≡ true
  none_enters found f e = none_from (length d.spots) may (λ c h. false_of _ (λ m. false≢true (ap (λ o. enters_by o c) (sym e) ∙ covered_entry found f c h m)))

  pub least_enters : (found : Option Entry) → EntersFirst limits d v row side (length d.outside) found → (x : Entry) → found ≡ Some x → IsEntering limits d v row side x
  least_enters found f x e = record {
    can = can;
    least = and_both _ _ can.may (none_from x.column may (λ c h. false_of _ (λ m. false≢true (sym (not_less c x.column h) ∙ ap (λ o. enters_by o c) (sym e) ∙ covered_entry found f c (less c x.column (length d.spots) h can.inside) m))));
  }
    where
      can : CanEnter limits d v row side x
      can = f.can x e

      less : (c k n : ℕ) → c < k → k < n → c < n
      less c k n h g = omega arith
