-- Where the columns are along a walk, and what they hold.
use Rattle.std.proofs.Common.{◌≡◌, ℕ, ◌+◌, ◌<◌, Bool, true, false, ◌||◌, List, length, Option, Some, None, ◌⊎◌, inl, inr, nat_eq, nat_lt, refl, sym, ap, ◌∙◌, subst, arith, if◌then◌else◌}
use Rattle.std.proofs.lemmas.Bool.{false≢true}
use Rattle.std.proofs.lemmas.Bool.Decides.{nat_tests}
use Rattle.spv_frac.specs.rational.Rational.{Rational}
use Rattle.spv_tableau_rules.specs.declared.tableaux.side.Side.{Side}
use Rattle.spv_tableau_rules.specs.declared.tableaux.side.Side.TheVariants.{Lower, Upper}
use Rattle.spv_tableau_rules.specs.tableaux.Numbers.{nothing}
use Rattle.spv_tableau_rules.specs.tableaux.Rows.{Rows, columns, Point}
use Rattle.spv_tableau_rules.specs.tableaux.Bounds.{Limits, limits, or_nothing, breaks_limit, is_out}
use Rattle.spv_tableau_rules.specs.tableaux.Solved.{Place, Basic, Held, At, Places, is_basic, basis_of, point, at_rest, resting, exchanged}
use Rattle.spv_tableau_rules.specs.tableaux.Steps.{may_leave, placed_inside, inside, inside_of}
use Rattle.spv_tableau_rules.specs.tableaux.Walks.{Exchange, Start, held_at, Walk, stays, goes}
use Rattle.spv_tableau_rules.proofs.pivots.Algebra.{false_of}
use Rattle.spv_tableau_rules.proofs.pivots.Points.{point_outside, point_solves}
use Rattle.spv_tableau_rules.proofs.pivots.Stepping.{basis_alone}
use Rattle.spv_tableau_rules.proofs.pivots.Sums.{eq_is}
use Rattle.spv_tableau_rules.proofs.pivots.Tests.{and_both, none_below, limit_part}
use Rattle.spv_dictionary.specs.Dictionary as form
use Rattle.spv_dictionary.specs.Dictionary.{Dictionary, entries}
use Rattle.spv_dictionary.specs.updates.Shifts.{value_in}
use Rattle.spv_dictionary.proofs.pivoting.Choices.{out_breaks}
use Rattle.spv_simplex.specs.pivot_runs.Along.{IsAt}
use Rattle.spv_simplex.specs.pivot_runs.Derivation.{ArePlaced}
use Rattle.spv_simplex.specs.pivot_runs.Arrivals.{SetsOut, IsUnderway, Rests, as_before, at_bound, Stands, PlacedStands, UnderwayStands, NoneLeavesMeets}
use Rattle.spv_simplex.proofs.pivot_runs.Agreeing.{solution_same}
use Rattle.spv_simplex.proofs.pivot_runs.Placing.{moved_to, placed_at, are_moved, basis_is}
use Rattle.spv_simplex.proofs.pivot_runs.Ranges.{limit_in, bound_inside}

-- ---- where a column has come to

-- it is where it was, or in the basis, or at one of its bounds
pub data Came (limits : Limits) (start : Places) (c : ℕ) (place : Place) : Type 0 where
  stayed : place ≡ start c → Came limits start c place
  entered : place ≡ Basic → Came limits start c place
  left : (side : Side) (bound : Rational) → place ≡ At side → limits c side ≡ Some bound → Came limits start c place

-- a bound that is broken is there
pub record HasLimit (limits : Limits) (c : ℕ) (side : Side) : Type 0 where
  pub bound : Rational
  pub is : limits c side ≡ Some bound

pub broken_some : (limits : Limits) (c : ℕ) (side : Side) (v : Rational) → breaks_limit side (limits c side) v ≡ true → HasLimit limits c side
broken_some limits c side v h = by_limit (limits c side) refl h
  where
    by_limit : (o : Option Rational) → limits c side ≡ o → breaks_limit side o v ≡ true → HasLimit limits c side
    by_limit None e k = absurd (false≢true k)
    by_limit (Some x) e k = record { bound = x; is = e }

module _ (rows : Rows) (limits : Limits) (held : Point) where
  came_on : (start places : Places) (c : ℕ) (leaving : ℕ) (side : Side) (entering : ℕ) → HasLimit limits leaving side → Came limits start c (places c)
      → Came limits start c (exchanged places leaving side entering c)
  came_on start places c leaving side entering has before = by_cases (nat_eq c entering) refl (nat_eq c leaving) refl
    where
      by_cases : (a : Bool) → nat_eq c entering ≡ a → (b : Bool) → nat_eq c leaving ≡ b → Came limits start c (if a then Basic else if b then At side else places c)
      by_cases true e b f = entered refl
      by_cases false e true f = left side has.bound refl (ap (λ n. limits n side) (eq_is c leaving f) ∙ has.is)
      by_cases false e false f = before

  pub walk_came : (start : Places) (made : List Exchange) (places : Places) → Walk rows limits held start made places → (c : ℕ) → Came limits start c (places c)
  walk_came _ _ _ (stays start) c = stayed refl
  walk_came _ _ _ (goes start made places t leaving side entering w s step) c =
      came_on start places c leaving side entering (broken_some limits leaving side (point rows limits held places t leaving) step.breaks) (walk_came start made places w c)

-- ---- what it holds there

-- outside the basis a column holds what it held, where it was outside before, or a bound
pub data Holds (limits : Limits) (basis : List ℕ) (c : ℕ) (place : Place) : Type 0 where
  basic : place ≡ Basic → Holds limits basis c place
  kept : place ≡ Held → basis_of basis c ≡ Held → Holds limits basis c place
  bounded : (side : Side) (bound : Rational) → place ≡ At side → limits c side ≡ Some bound → Holds limits basis c place

held≢basic : Held ≡ Basic → ⊥
held≢basic e = false≢true (ap is_basic e)

held≢at : (side : Side) → Held ≡ At side → ⊥
held≢at side e = false≢true (sym (ap is_held e))
  where
    is_held : Place → Bool
    is_held Basic = false
    is_held Held = true
    is_held (At s) = false

holds_inside : (limits : Limits) (held : Point) (basis : List ℕ) (c : ℕ) (place : Place) → basis_of basis c ≡ Held → place ≡ placed_inside limits held c → Holds limits basis c place
holds_inside limits held basis c place h is = by_cases (breaks_limit Lower (limits c Lower) (held c)) refl (breaks_limit Upper (limits c Upper) (held c)) refl is
  where
    by_cases : (a : Bool) → breaks_limit Lower (limits c Lower) (held c) ≡ a → (b : Bool) → breaks_limit Upper (limits c Upper) (held c) ≡ b
        → place ≡ (if a then At Lower else if b then At Upper else Held) → Holds limits basis c place
    by_cases true e b f k = let has = broken_some limits c Lower (held c) e in bounded Lower has.bound k has.is
    by_cases false e true f k = let has = broken_some limits c Upper (held c) f in bounded Upper has.bound k has.is
    by_cases false e false f k = kept k h

holds_in : (limits : Limits) (held : Point) (basis : List ℕ) (c : ℕ) (place : Place) → place ≡ inside limits held (basis_of basis) c → Holds limits basis c place
holds_in limits held basis c place is = by_basis (basis_of basis c) refl
  where
    not_at : (side : Side) → basis_of basis c ≡ At side → ⊥
    not_at side e = by_case _ e
      where
        by_case : (b : Bool) → (if b then Basic else Held) ≡ At side → ⊥
        by_case true e = false≢true (sym (ap is_basic e))
        by_case false e = held≢at side e

    by_basis : (p : Place) → basis_of basis c ≡ p → Holds limits basis c place
    by_basis Basic e = basic (is ∙ ap (inside_of limits held c) e)
    by_basis Held e = holds_inside limits held basis c place e (is ∙ ap (inside_of limits held c) e)
    by_basis (At side) e = absurd (not_at side e)

holds_start : (limits : Limits) (basis : List ℕ) (c : ℕ) (place : Place) → place ≡ basis_of basis c → Holds limits basis c place
holds_start limits basis c place is = by_case _ is refl
  where
    by_case : (b : Bool) → place ≡ (if b then Basic else Held) → basis_of basis c ≡ (if b then Basic else Held) → Holds limits basis c place
    by_case true e f = basic e
    by_case false e f = kept e f

pub came_holds : (limits : Limits) (held : Point) (basis : List ℕ) (c : ℕ) (place : Place) → Came limits (inside limits held (basis_of basis)) c place → Holds limits basis c place
came_holds limits held basis c place (stayed e) = holds_in limits held basis c place e
came_holds limits held basis c place (entered e) = basic e
came_holds limits held basis c place (left side bound e k) = bounded side bound e k

-- a column that still holds what it held is in its bounds
came_inside : (limits : Limits) (held : Point) (basis : List ℕ) (c : ℕ) (place : Place) → Came limits (inside limits held (basis_of basis)) c place → place ≡ Held
    → is_out limits held c ≡ false
came_inside limits held basis c place (entered e) h = absurd (held≢basic (sym h ∙ e))
came_inside limits held basis c place (left side bound e k) h = absurd (held≢at side (sym h ∙ e))
came_inside limits held basis c place (stayed e) h = by_basis (basis_of basis c) (sym h ∙ e)
  where
    by_cases : (a b : Bool) → Held ≡ (if a then At Lower else if b then At Upper else Held) → (a || b) ≡ false
    by_cases true b k = absurd (held≢at Lower k)
    by_cases false true k = absurd (held≢at Upper k)
    by_cases false false k = refl

    by_basis : (p : Place) → Held ≡ inside_of limits held c p → is_out limits held c ≡ false
    by_basis Basic k = absurd (held≢basic k)
    by_basis Held k = by_cases (breaks_limit Lower (limits c Lower) (held c)) (breaks_limit Upper (limits c Upper) (held c)) k
    by_basis (At side) k = absurd (held≢at side k)

-- ---- what is so wherever a check ends

module _ (rows : Rows) (start : Start) (d : Dictionary) (before : List Rational) (out : SetsOut rows start d before) where
  abbrev l : Limits
  l = limits rows start.bounds

  abbrev held : Point
  held = held_at start.held

  module _ (places : Places) (here : Dictionary) (now : List Rational) (at : IsAt rows l held places here now) (holds : (c : ℕ) → Holds l start.basis c (places c))
      (width : length here.outside ≡ rows.parts) where
    rest_is : (c : ℕ) → c < columns rows → is_basic (form.places here c) ≡ false → value_in now c ≡ at_rest l held places c
    rest_is c c_in outside = at.point_is c c_in ∙ point_outside rows l held places (entries here) c (sym (at.basis c c_in) ∙ outside)

    -- a column that is held was outside before
    held_before : (c : ℕ) → basis_of start.basis c ≡ Held → is_basic (form.places d c) ≡ false
    held_before c e = by_case (is_basic (form.places d c)) refl
      where
        by_case : (b : Bool) → is_basic (form.places d c) ≡ b → b ≡ false
        by_case true k = absurd (held≢basic (sym e ∙ basis_is rows start d before out c ∙ ap (λ b. if b then Basic else Held) k))
        by_case false k = refl

    kept_value : (c : ℕ) → c < columns rows → is_basic (form.places here c) ≡ false → places c ≡ Held → basis_of start.basis c ≡ Held → value_in now c ≡ value_in before c
    kept_value c c_in outside e f = rest_is c c_in outside ∙ ap (resting l held c) e ∙ out.held c c_in (held_before c f)

    bound_value : (c : ℕ) → c < columns rows → is_basic (form.places here c) ≡ false → (side : Side) (bound : Rational) → places c ≡ At side → l c side ≡ Some bound
        → value_in now c ≡ bound
    bound_value c c_in outside side bound e k = rest_is c c_in outside ∙ ap (resting l held c) e ∙ ap or_nothing k

    basic_out : (c : ℕ) → c < columns rows → is_basic (form.places here c) ≡ false → places c ≡ Basic → ⊥
    basic_out c c_in outside e = false≢true (sym outside ∙ at.basis c c_in ∙ ap is_basic e)

    rests : (c : ℕ) → c < columns rows → is_basic (form.places here c) ≡ false → Rests l d here before now c
    rests c c_in outside = by_place (holds c)
      where
        by_place : Holds l start.basis c (places c) → Rests l d here before now c
        by_place (basic e) = absurd (basic_out c c_in outside e)
        by_place (kept e f) = as_before (held_before c f) (kept_value c c_in outside e f)
        by_place (bounded side bound e k) = at_bound side (k ∙ ap Some (sym (bound_value c c_in outside side bound e k)))

    parts : (c : ℕ) → c < rows.parts → is_basic (form.places here c) ≡ false → value_in now c ≡ nothing
    parts c part outside = by_place (holds c)
      where
        below : (c p : ℕ) → c < p → nat_lt c p ≡ true
        below c p h = grind (arith, nat_tests)

        fewer : (c p n : ℕ) → c < p → c < p + n
        fewer c p n h = omega arith

        none≢some : (x : Rational) → None ≡ Some x → ⊥
        none≢some x e = false≢true (sym (ap is_there e))
          where
            is_there : Option Rational → Bool
            is_there None = true
            is_there (Some y) = false

        c_in : c < columns rows
        c_in = fewer c rows.parts rows.count part

        by_place : Holds l start.basis c (places c) → value_in now c ≡ nothing
        by_place (basic e) = absurd (basic_out c c_in outside e)
        by_place (kept e f) = kept_value c c_in outside e f ∙ out.parts c part (held_before c f)
        by_place (bounded side bound e k) = absurd (none≢some bound (sym (limit_part rows start.bounds c side (below c rows.parts part)) ∙ k))

    pub stands : Stands rows start d here before now
    stands = record {
      solved = basis_alone rows places (form.places here) (entries here) at.basis at.solved;
      spots = at.spots;
      width = width;
      count = at.count;
      solution = solution_same rows (point rows l held places (entries here)) (value_in now) (λ c h. sym (at.point_is c h)) (point_solves rows l held places (entries here) at.solved);
      parts = parts;
      rests = rests;
    }

  pub placed_stands_here : (n : ℕ) (values : List Rational) → ArePlaced l d before n values → Stands rows start d d before values
  placed_stands_here n values p =
      stands (moved_to l held d n) d values (placed_at rows start d before out n values p) (λ c. by_move c (are_moved rows start d before out n c)) out.width
    where
      by_move : (c : ℕ) → (moved_to l held d n c ≡ basis_of start.basis c) ⊎ (moved_to l held d n c ≡ inside l held (basis_of start.basis) c)
          → Holds l start.basis c (moved_to l held d n c)
      by_move c (inl e) = holds_start l start.basis c (moved_to l held d n c) e
      by_move c (inr e) = holds_in l held start.basis c (moved_to l held d n c) e

  pub underway_stands_here : (made : List Exchange) (here : Dictionary) (now : List Rational) → IsUnderway rows start made here now → Stands rows start d here before now
  underway_stands_here made here now u =
      stands u.places here now u.at (λ c. came_holds l held start.basis c (u.places c) (walk_came rows l held (inside l held (basis_of start.basis)) made u.places u.walk c)) u.width

pub placed_stands : PlacedStands
placed_stands rows start d before out n values p = placed_stands_here rows start d before out n values p

pub underway_stands : UnderwayStands
underway_stands rows start d before out made here now u = underway_stands_here rows start d before out made here now u

-- ---- all bounds are met

pub none_leaves_meets : NoneLeavesMeets
none_leaves_meets rows start made d values u known none c = false_of _ (λ h. out_not h)
  where
    l : Limits
    l = limits rows start.bounds

    held : Point
    held = held_at start.held

    came : Came l (inside l held (basis_of start.basis)) c (u.places c)
    came = walk_came rows l held (inside l held (basis_of start.basis)) made u.places u.walk c

    true_is : (b : Bool) → b ≡ true → b ≡ false → ⊥
    true_is b h k = false≢true (sym k ∙ h)

    -- outside the basis
    inside_at : c < columns rows → is_basic (u.places c) ≡ false → (p : Place) → u.places c ≡ p → is_out l (value_in values) c ≡ false
    inside_at c_in outside Basic e = absurd (false≢true (sym outside ∙ ap is_basic e))
    inside_at c_in outside Held e =
        ap (λ x. breaks_limit Lower (l c Lower) x || breaks_limit Upper (l c Upper) x)
        (u.at.point_is c c_in ∙ point_outside rows l held u.places (entries d) c outside ∙ ap (resting l held c) e) ∙ came_inside l held start.basis c (u.places c) came e
    inside_at c_in outside (At side) e = by_came (came_holds l held start.basis c (u.places c) came)
      where
        at≢held : (s : Side) → At s ≡ Held → ⊥
        at≢held s f = held≢at s (sym f)

        at≢basic : (s : Side) → At s ≡ Basic → ⊥
        at≢basic s f = false≢true (ap is_basic f)

        by_came : Holds l start.basis c (u.places c) → is_out l (value_in values) c ≡ false
        by_came (basic f) = absurd (at≢basic side (sym e ∙ f))
        by_came (kept f g) = absurd (at≢held side (sym e ∙ f))
        by_came (bounded s bound f k) =
            bound_inside rows start.bounds known (value_in values) c s bound k
            (u.at.point_is c c_in ∙ point_outside rows l held u.places (entries d) c outside ∙ ap (resting l held c) f ∙ ap or_nothing k)

    out_not : is_out l (value_in values) c ≡ true → ⊥
    out_not h = by_basic (is_basic (form.places d c)) refl
      where
        b_in : c < columns rows
        b_in = let b = out_breaks l (value_in values) c h in limit_in rows start.bounds known c b.side b.bound b.bound_is

        by_basic : (b : Bool) → is_basic (form.places d c) ≡ b → ⊥
        by_basic true e =
            true_is (may_leave l (form.places d) (value_in values) c) (and_both _ _ e h)
            (none_below (length d.spots) (may_leave l (form.places d) (value_in values)) none c (subst (λ (n : ℕ). c < n) (sym u.at.spots) b_in))
        by_basic false e = true_is _ h (inside_at b_in (sym (u.at.basis c b_in) ∙ e) (u.places c) refl)
