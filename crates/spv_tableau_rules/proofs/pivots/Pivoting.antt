-- An exchange of two columns leads from a solved form to one.
use Rattle.std.proofs.Common.{◌≡◌, ℕ, ◌<◌, Bool, true, false, nat_eq, refl, sym, ap, ◌∙◌, if◌then◌else◌}
use Rattle.std.proofs.lemmas.Bool.{false≢true}
use mathlib.Core.Path.{ap₂}
use Rattle.spv_frac.specs.rational.Rational.{Rational, plus, times, opposite, is_zero}
use Rattle.spv_frac.proofs.rational.Field.{plus_zero, plus_opposite, times_zero, zero_times, times_comm, times_assoc, times_one, plus_times}
use Rattle.spv_tableau_rules.specs.declared.tableaux.side.Side.{Side}
use Rattle.spv_tableau_rules.specs.tableaux.Numbers.{nothing, one, minus_one, inverse, divided}
use Rattle.spv_tableau_rules.specs.tableaux.Rows.{Rows, columns, Point}
use Rattle.spv_tableau_rules.specs.tableaux.Solved.{Places, is_basic, Entries, equation_sum, MeetsEntries, IsBasis, IsSolved, exchanged, solved_for, pivot}
use Rattle.spv_tableau_rules.specs.pivots.Laws.{PivotSolves}
use Rattle.spv_tableau_rules.proofs.pivots.Algebra.{minus_one_is, opposite_nothing, opposite_times, both_opposite, times_inverse, divided_itself, nothing_divided, minus_one_times}
use Rattle.spv_tableau_rules.proofs.pivots.Sums.{sum_same, sum_plus, sum_times, count_more, eq_is, eq_self, eq_flip}
use Rattle.spv_tableau_rules.proofs.pivots.Directions.{differ}

-- ---- the entries of the pivot

pivot_entering : (t : Entries) (leaving entering b c : ℕ) → nat_eq b entering ≡ true → pivot t leaving entering b c ≡ solved_for t leaving entering c
pivot_entering t leaving entering b c e = rw e refl

pivot_other : (t : Entries) (leaving entering b c : ℕ) → nat_eq b entering ≡ false
    → pivot t leaving entering b c ≡ plus (t b c) (times (solved_for t leaving entering c) (t b entering))
pivot_other t leaving entering b c e = rw e refl

-- the leaving sum times this number is the one solved for the entering column
factor : Entries → ℕ → ℕ → Rational
factor t leaving entering = opposite (inverse (t leaving entering))

solved_is : (t : Entries) (leaving entering c : ℕ) → solved_for t leaving entering c ≡ times (factor t leaving entering) (t leaving c)
unfolding factor
solved_is t leaving entering c = ap opposite (times_comm (t leaving c) (inverse (t leaving entering))) ∙ sym (opposite_times (inverse (t leaving entering)) (t leaving c))

solved_back : (t : Entries) (leaving entering c : ℕ) → is_zero (t leaving entering) ≡ false
    → times (opposite (t leaving entering)) (solved_for t leaving entering c) ≡ t leaving c
unfolding factor
solved_back t leaving entering c h =
    ap (times (opposite (t leaving entering))) (solved_is t leaving entering c)
    ∙ sym (times_assoc (opposite (t leaving entering)) (factor t leaving entering) (t leaving c))
    ∙ ap (λ x. times x (t leaving c)) (both_opposite (t leaving entering) (inverse (t leaving entering)) ∙ times_inverse (t leaving entering) h)
    ∙ times_comm one (t leaving c) ∙ times_one (t leaving c)

solved_zero : (t : Entries) (leaving entering c : ℕ) → t leaving c ≡ nothing → solved_for t leaving entering c ≡ nothing
solved_zero t leaving entering c e =
    ap (λ x. opposite (divided x (t leaving entering))) e ∙ ap opposite (nothing_divided (t leaving entering)) ∙ opposite_nothing

solved_entering : (t : Entries) (leaving entering : ℕ) → is_zero (t leaving entering) ≡ false → solved_for t leaving entering entering ≡ minus_one
solved_entering t leaving entering h = ap opposite (divided_itself (t leaving entering) h) ∙ sym minus_one_is

-- ---- which columns are in the basis

pub entered : (places : Places) (leaving : ℕ) (side : Side) (entering c : ℕ) → nat_eq c entering ≡ true → is_basic (exchanged places leaving side entering c) ≡ true
entered places leaving side entering c e = rw e refl

pub left : (places : Places) (leaving : ℕ) (side : Side) (entering c : ℕ) → nat_eq c entering ≡ false → nat_eq c leaving ≡ true
    → is_basic (exchanged places leaving side entering c) ≡ false
left places leaving side entering c e h = rw (e, h) refl

pub stayed : (places : Places) (leaving : ℕ) (side : Side) (entering c : ℕ) → nat_eq c entering ≡ false → nat_eq c leaving ≡ false
    → is_basic (exchanged places leaving side entering c) ≡ is_basic (places c)
stayed places leaving side entering c e h = rw (e, h) refl

-- a column that is in the basis now, and didn't enter, was in it and did not leave
pub record Stayed (places : Places) (leaving c : ℕ) : Type 0 where
  pub basic : is_basic (places c) ≡ true
  pub other : nat_eq c leaving ≡ false

was_basic : (places : Places) (leaving : ℕ) (side : Side) (entering c : ℕ) → nat_eq c entering ≡ false
    → is_basic (exchanged places leaving side entering c) ≡ true → Stayed places leaving c
was_basic places leaving side entering c e h = by_case (nat_eq c leaving) refl
  where
    by_case : (l : Bool) → nat_eq c leaving ≡ l → Stayed places leaving c
    by_case true l = absurd (false≢true (sym (left places leaving side entering c e l) ∙ h))
    by_case false l = record { basic = sym (stayed places leaving side entering c e l) ∙ h; other = l }

-- ---- the pivot

module _ (rows : Rows) (places : Places) (t : Entries) (leaving : ℕ) (side : Side) (entering : ℕ) (s : IsSolved rows places t)
    (leaving_in : leaving < columns rows) (leaves : is_basic (places leaving) ≡ true) (entering_in : entering < columns rows)
    (enters : is_basic (places entering) ≡ false) (nonzero : is_zero (t leaving entering) ≡ false) where
  abbrev after : Places
  after = exchanged places leaving side entering

  abbrev u : Entries
  u = pivot t leaving entering

  -- the sum of the entering column is a multiple of what the leaving one's was
  entering_sum : (b : ℕ) → nat_eq b entering ≡ true → (v : Point) → equation_sum rows u b v ≡ times (factor t leaving entering) (equation_sum rows t leaving v)
  entering_sum b e v =
      sum_same (columns rows) _ (λ c. times (factor t leaving entering) (times (t leaving c) (v c)))
      (λ c below. ap (λ x. times x (v c)) (pivot_entering t leaving entering b c e ∙ solved_is t leaving entering c) ∙ times_assoc (factor t leaving entering) (t leaving c) (v c))
      ∙ sum_times (columns rows) (factor t leaving entering) (λ c. times (t leaving c) (v c))

  leaving_sum : (v : Point) → equation_sum rows t leaving v ≡ times (opposite (t leaving entering)) (equation_sum rows u entering v)
  leaving_sum v =
      sum_same (columns rows) _ (λ c. times (opposite (t leaving entering)) (times (u entering c) (v c)))
      (λ c below. ap (λ x. times x (v c)) (sym (ap (times (opposite (t leaving entering))) (pivot_entering t leaving entering entering c (eq_self entering)) ∙ solved_back t leaving entering c nonzero)) ∙ times_assoc (opposite (t leaving entering)) (u entering c) (v c))
      ∙ sum_times (columns rows) (opposite (t leaving entering)) (λ c. times (u entering c) (v c))

  -- the sums of the others have a multiple of the entering column's added
  other_sum : (b : ℕ) → nat_eq b entering ≡ false → (v : Point)
      → equation_sum rows u b v ≡ plus (equation_sum rows t b v) (times (t b entering) (equation_sum rows u entering v))
  other_sum b e v =
      sum_same (columns rows) _ (λ c. plus (times (t b c) (v c)) (times (t b entering) (times (u entering c) (v c)))) (λ c below. each c)
      ∙ sum_plus (columns rows) (λ c. times (t b c) (v c)) (λ c. times (t b entering) (times (u entering c) (v c)))
      ∙ ap (plus (equation_sum rows t b v)) (sum_times (columns rows) (t b entering) (λ c. times (u entering c) (v c)))
    where
      each : (c : ℕ) → times (u b c) (v c) ≡ plus (times (t b c) (v c)) (times (t b entering) (times (u entering c) (v c)))
      each c =
          ap (λ x. times x (v c)) (pivot_other t leaving entering b c e)
          ∙ plus_times (t b c) (times (solved_for t leaving entering c) (t b entering)) (v c)
          ∙ ap (λ x. plus (times (t b c) (v c)) x)
          (ap (λ x. times x (v c)) (times_comm (solved_for t leaving entering c) (t b entering)) ∙ times_assoc (t b entering) (solved_for t leaving entering c) (v c)
          ∙ ap (λ x. times (t b entering) (times x (v c))) (sym (pivot_entering t leaving entering entering c (eq_self entering))))

  entering_zero : (v : Point) → MeetsEntries rows places t v → (b : ℕ) → nat_eq b entering ≡ true → equation_sum rows u b v ≡ nothing
  entering_zero v m b e = entering_sum b e v ∙ ap (times (factor t leaving entering)) (m leaving leaving_in leaves) ∙ times_zero (factor t leaving entering)

  meets_after : (v : Point) → MeetsEntries rows places t v → MeetsEntries rows after u v
  meets_after v m b inside basic = by_case (nat_eq b entering) refl
    where
      by_case : (e : Bool) → nat_eq b entering ≡ e → equation_sum rows u b v ≡ nothing
      by_case true e = entering_zero v m b e
      by_case false e =
          other_sum b e v
          ∙ ap₂ plus (m b inside (was_basic places leaving side entering b e basic).basic) (ap (times (t b entering)) (entering_zero v m entering (eq_self entering)) ∙ times_zero (t b entering))
          ∙ plus_zero nothing

  meets_before : (v : Point) → MeetsEntries rows after u v → MeetsEntries rows places t v
  meets_before v m b inside basic = by_case (nat_eq b leaving) refl
    where
      entering_is : equation_sum rows u entering v ≡ nothing
      entering_is = m entering entering_in (entered places leaving side entering entering (eq_self entering))

      by_case : (l : Bool) → nat_eq b leaving ≡ l → equation_sum rows t b v ≡ nothing
      by_case true l =
          ap (λ x. equation_sum rows t x v) (eq_is b leaving l) ∙ leaving_sum v ∙ ap (times (opposite (t leaving entering))) entering_is ∙ times_zero (opposite (t leaving entering))
      by_case false l =
          let e : nat_eq b entering ≡ false = eq_flip entering b (differ places b entering basic enters) in
          sym (plus_zero (equation_sum rows t b v)) ∙ ap (plus (equation_sum rows t b v)) (sym (ap (times (t b entering)) entering_is ∙ times_zero (t b entering)))
          ∙ sym (other_sum b e v) ∙ m b inside (stayed places leaving side entering b e l ∙ basic)

  own_after : (b : ℕ) → b < columns rows → is_basic (after b) ≡ true → u b b ≡ minus_one
  own_after b inside basic = by_case (nat_eq b entering) refl
    where
      by_case : (e : Bool) → nat_eq b entering ≡ e → u b b ≡ minus_one
      by_case true e = pivot_entering t leaving entering b b e ∙ ap (solved_for t leaving entering) (eq_is b entering e) ∙ solved_entering t leaving entering nonzero
      by_case false e =
          let stays = was_basic places leaving side entering b e basic in
          pivot_other t leaving entering b b e
          ∙ ap₂ plus (s.own b inside stays.basic) (ap (λ x. times x (t b entering)) (solved_zero t leaving entering b (s.others leaving b leaving_in leaves inside stays.basic (eq_flip b leaving stays.other))) ∙ zero_times (t b entering))
          ∙ plus_zero minus_one

  others_after : (b c : ℕ) → b < columns rows → is_basic (after b) ≡ true → c < columns rows → is_basic (after c) ≡ true → nat_eq b c ≡ false → u b c ≡ nothing
  others_after b c inside basic c_in c_basic different = by_cases (nat_eq b entering) refl (nat_eq c entering) refl
    where
      solved_other : nat_eq c entering ≡ false → solved_for t leaving entering c ≡ nothing
      solved_other e =
          let stays = was_basic places leaving side entering c e c_basic in
          solved_zero t leaving entering c (s.others leaving c leaving_in leaves c_in stays.basic (eq_flip c leaving stays.other))

      by_cases : (e : Bool) → nat_eq b entering ≡ e → (f : Bool) → nat_eq c entering ≡ f → u b c ≡ nothing
      by_cases true e true f = absurd (false≢true (sym different ∙ ap₂ nat_eq (eq_is b entering e) (eq_is c entering f) ∙ eq_self entering))
      by_cases true e false f = pivot_entering t leaving entering b c e ∙ solved_other f
      by_cases false e true f =
          pivot_other t leaving entering b c e
          ∙ ap₂ plus (ap (t b) (eq_is c entering f)) (ap (λ x. times x (t b entering)) (ap (solved_for t leaving entering) (eq_is c entering f) ∙ solved_entering t leaving entering nonzero) ∙ minus_one_times (t b entering))
          ∙ plus_opposite (t b entering)
      by_cases false e false f =
          let stays = was_basic places leaving side entering b e basic in
          let c_stays = was_basic places leaving side entering c f c_basic in
          pivot_other t leaving entering b c e
          ∙ ap₂ plus (s.others b c inside stays.basic c_in c_stays.basic different) (ap (λ x. times x (t b entering)) (solved_other f) ∙ zero_times (t b entering))
          ∙ plus_zero nothing

  -- the basis without the leaving column
  abbrev without : ℕ → Bool
  without c = if nat_eq c leaving then false else is_basic (places c)

  basis_after : IsBasis rows after
  basis_after = count_more (columns rows) entering without (λ c. is_basic (after c)) entering_in without_entering (entered places leaving side entering entering (eq_self entering)) agree_after
      ∙ sym (count_more (columns rows) leaving without (λ c. is_basic (places c)) leaving_in without_leaving leaves agree_before) ∙ s.basis
    where
      without_leaving : without leaving ≡ false
      without_leaving = rw (eq_self leaving) refl

      without_other : (c : ℕ) → nat_eq c leaving ≡ false → without c ≡ is_basic (places c)
      without_other c l = rw l refl

      without_entering : without entering ≡ false
      without_entering = without_other entering (differ places leaving entering leaves enters) ∙ enters

      agree_before : (c : ℕ) → c < columns rows → nat_eq c leaving ≡ false → without c ≡ is_basic (places c)
      agree_before c below l = without_other c l

      agree_after : (c : ℕ) → c < columns rows → nat_eq c entering ≡ false → without c ≡ is_basic (after c)
      agree_after c below e = by_case (nat_eq c leaving) refl
        where
          by_case : (l : Bool) → nat_eq c leaving ≡ l → without c ≡ is_basic (after c)
          by_case true l = ap without (eq_is c leaving l) ∙ without_leaving ∙ sym (left places leaving side entering c e l)
          by_case false l = without_other c l ∙ sym (stayed places leaving side entering c e l)

  pub solved_after : IsSolved rows after u
  solved_after = record {
    basis = basis_after;
    own = own_after;
    others = others_after;
    meets = λ v solution. meets_after v (s.meets v solution);
    solves = λ v m. s.solves v (meets_before v m);
  }

pub pivot_solves : PivotSolves
pivot_solves rows places t leaving side entering s leaving_in leaves entering_in enters nonzero =
    solved_after rows places t leaving side entering s leaving_in leaves entering_in enters nonzero
