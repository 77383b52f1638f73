-- The direction in which a point goes where a column outside the basis moves; that there is one solved form.
use Rattle.std.proofs.Common.{◌≡◌, ℕ, ◌<◌, Bool, true, false, nat_eq, refl, sym, ap, ◌∙◌, if◌then◌else◌}
use Rattle.std.proofs.lemmas.Bool.{false≢true}
use mathlib.Core.Path.{ap₂}
use Rattle.spv_frac.specs.rational.Rational.{Rational, plus, times, opposite}
use Rattle.spv_frac.proofs.rational.Field.{plus_zero, zero_plus, plus_opposite, times_zero, zero_times, times_comm, times_one, times_plus}
use Rattle.spv_tableau_rules.specs.tableaux.Numbers.{nothing, one}
use Rattle.spv_tableau_rules.specs.tableaux.Rows.{Rows, columns, Point}
use Rattle.spv_tableau_rules.specs.tableaux.Solved.{Places, is_basic, Entries, equation_sum, MeetsEntries, IsSolved}
use Rattle.spv_tableau_rules.specs.pivots.Laws.{OneSolvedForm, MovedSolves}
use Rattle.spv_tableau_rules.specs.pivots.Moved.{moved}
use Rattle.spv_tableau_rules.proofs.pivots.Algebra.{one_times, minus_one_times, equal_of}
use Rattle.spv_tableau_rules.proofs.pivots.Sums.{sum_same, sum_plus, sum_two, only, only_here, only_there, eq_is, eq_flip}

-- how far each column goes where one moves by a distance
abbrev pub direction : Places → Entries → ℕ → Rational → Point
direction places t entering distance c =
    if nat_eq c entering then distance else if is_basic (places c) then times distance (t c entering) else nothing

direction_here : (places : Places) (t : Entries) (entering : ℕ) (k : Rational) (c : ℕ) → nat_eq c entering ≡ true → direction places t entering k c ≡ k
direction_here places t entering k c e = rw e refl

direction_basic : (places : Places) (t : Entries) (entering : ℕ) (k : Rational) (c : ℕ) → nat_eq c entering ≡ false → is_basic (places c) ≡ true
    → direction places t entering k c ≡ times k (t c entering)
direction_basic places t entering k c e h = rw (e, h) refl

direction_other : (places : Places) (t : Entries) (entering : ℕ) (k : Rational) (c : ℕ) → nat_eq c entering ≡ false → is_basic (places c) ≡ false
    → direction places t entering k c ≡ nothing
direction_other places t entering k c e h = rw (e, h) refl

pub differ : (places : Places) (b c : ℕ) → is_basic (places b) ≡ true → is_basic (places c) ≡ false → nat_eq c b ≡ false
differ places b c basic out = by_case (nat_eq c b) refl
  where
    by_case : (e : Bool) → nat_eq c b ≡ e → e ≡ false
    by_case true e = absurd (false≢true (sym out ∙ ap (λ x. is_basic (places x)) (eq_is c b e) ∙ basic))
    by_case false e = refl

-- the sum of another solved form for the basis, in a direction of this one
direction_sum : (rows : Rows) (places : Places) (t u : Entries) → IsSolved rows places u → (entering : ℕ) (k : Rational) (b : ℕ)
    → entering < columns rows → is_basic (places entering) ≡ false → b < columns rows → is_basic (places b) ≡ true
    → equation_sum rows u b (direction places t entering k) ≡ plus (times (u b entering) k) (opposite (times k (t b entering)))
direction_sum rows places t u s entering k b entering_in out inside basic =
    sum_two (columns rows) entering b (λ c. times (u b c) (direction places t entering k c)) (times (u b entering) k) (opposite (times k (t b entering))) entering_in inside (λ c below. by_place c below (nat_eq c entering) refl)
  where
    Goal : ℕ → Type 0
    Goal c = times (u b c) (direction places t entering k c) ≡ plus (only entering (times (u b entering) k) c) (only b (opposite (times k (t b entering))) c)

    at_entering : (c : ℕ) → nat_eq c entering ≡ true → Goal c
    at_entering c e =
        ap₂ times (ap (u b) (eq_is c entering e)) (direction_here places t entering k c e)
        ∙ sym (ap₂ plus (only_here entering c (times (u b entering) k) e) (only_there b c (opposite (times k (t b entering))) (differ places b c basic (ap (λ x. is_basic (places x)) (eq_is c entering e) ∙ out))) ∙ plus_zero (times (u b entering) k))

    at_own : (c : ℕ) → nat_eq c entering ≡ false → is_basic (places c) ≡ true → nat_eq c b ≡ true → Goal c
    at_own c e here own =
        ap₂ times (ap (u b) (eq_is c b own) ∙ s.own b inside basic) (direction_basic places t entering k c e here ∙ ap (λ x. times k (t x entering)) (eq_is c b own))
        ∙ minus_one_times (times k (t b entering))
        ∙ sym (ap₂ plus (only_there entering c (times (u b entering) k) e) (only_here b c (opposite (times k (t b entering))) own) ∙ zero_plus (opposite (times k (t b entering))))

    at_basic : (c : ℕ) → c < columns rows → nat_eq c entering ≡ false → is_basic (places c) ≡ true → nat_eq c b ≡ false → Goal c
    at_basic c below e here own =
        ap (λ x. times x (direction places t entering k c)) (s.others b c inside basic below here (eq_flip c b own)) ∙ zero_times (direction places t entering k c)
        ∙ sym (ap₂ plus (only_there entering c (times (u b entering) k) e) (only_there b c (opposite (times k (t b entering))) own) ∙ plus_zero nothing)

    at_other : (c : ℕ) → nat_eq c entering ≡ false → is_basic (places c) ≡ false → Goal c
    at_other c e here =
        ap (times (u b c)) (direction_other places t entering k c e here) ∙ times_zero (u b c)
        ∙ sym (ap₂ plus (only_there entering c (times (u b entering) k) e) (only_there b c (opposite (times k (t b entering))) (differ places b c basic here)) ∙ plus_zero nothing)

    by_own : (c : ℕ) → c < columns rows → nat_eq c entering ≡ false → is_basic (places c) ≡ true → (own : Bool) → nat_eq c b ≡ own → Goal c
    by_own c below e here true own = at_own c e here own
    by_own c below e here false own = at_basic c below e here own

    by_basic : (c : ℕ) → c < columns rows → nat_eq c entering ≡ false → (here : Bool) → is_basic (places c) ≡ here → Goal c
    by_basic c below e true here = by_own c below e here (nat_eq c b) refl
    by_basic c below e false here = at_other c e here

    by_place : (c : ℕ) → c < columns rows → (e : Bool) → nat_eq c entering ≡ e → Goal c
    by_place c below true e = at_entering c e
    by_place c below false e = by_basic c below e (is_basic (places c)) refl

direction_meets : (rows : Rows) (places : Places) (t : Entries) → IsSolved rows places t → (entering : ℕ) (k : Rational)
    → entering < columns rows → is_basic (places entering) ≡ false → MeetsEntries rows places t (direction places t entering k)
direction_meets rows places t s entering k entering_in out b inside basic =
    direction_sum rows places t t s entering k b entering_in out inside basic
    ∙ ap (λ x. plus x (opposite (times k (t b entering)))) (times_comm (t b entering) k) ∙ plus_opposite (times k (t b entering))

-- ---- one solved form

pub one_solved_form : OneSolvedForm
one_solved_form rows places t u s r b c inside basic c_in = by_place (is_basic (places c)) refl
  where
    at_own : (own : Bool) → nat_eq b c ≡ own → is_basic (places c) ≡ true → t b c ≡ u b c
    at_own true own here =
        ap (t b) (sym (eq_is b c own)) ∙ s.own b inside basic ∙ sym (ap (u b) (sym (eq_is b c own)) ∙ r.own b inside basic)
    at_own false own here = s.others b c inside basic c_in here own ∙ sym (r.others b c inside basic c_in here own)

    outside : is_basic (places c) ≡ false → t b c ≡ u b c
    outside out =
        let v : Point = direction places t c one in
        let zero_sum : equation_sum rows u b v ≡ nothing = r.meets v (s.solves v (direction_meets rows places t s c one c_in out)) b inside basic in
        sym (sym (times_one (u b c)) ∙ equal_of (times (u b c) one) (times one (t b c)) (sym (direction_sum rows places t u r c one b c_in out inside basic) ∙ zero_sum) ∙ one_times (t b c))

    by_place : (e : Bool) → is_basic (places c) ≡ e → t b c ≡ u b c
    by_place true e = at_own (nat_eq b c) refl e
    by_place false e = outside e

-- ---- a point that goes on

moved_is : (v : Point) (places : Places) (t : Entries) (entering : ℕ) (k : Rational) (c : ℕ) → moved v places t entering k c ≡ plus (v c) (direction places t entering k c)
moved_is v places t entering k c = by_cases (nat_eq c entering) (is_basic (places c))
  where
    by_cases : (e here : Bool)
        → (if e then plus (v c) k else if here then plus (v c) (times k (t c entering)) else v c) ≡ plus (v c) (if e then k else if here then times k (t c entering) else nothing)
    by_cases true here = refl
    by_cases false true = refl
    by_cases false false = sym (plus_zero (v c))

pub moved_solves : MovedSolves
moved_solves rows places t s v solution entering k entering_in out = s.solves (moved v places t entering k) meets
  where
    meets : MeetsEntries rows places t (moved v places t entering k)
    meets b inside basic =
        sum_same (columns rows) _ (λ c. plus (times (t b c) (v c)) (times (t b c) (direction places t entering k c))) (λ c below. ap (times (t b c)) (moved_is v places t entering k c) ∙ times_plus (t b c) (v c) (direction places t entering k c))
        ∙ sum_plus (columns rows) (λ c. times (t b c) (v c)) (λ c. times (t b c) (direction places t entering k c))
        ∙ ap₂ plus (s.meets v solution b inside basic) (direction_meets rows places t s entering k entering_in out b inside basic)
        ∙ plus_zero nothing
