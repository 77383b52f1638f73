-- What a check finds, step by step.
use Rattle.std.proofs.Common.{◌≡◌, ℕ, zero, suc, ◌+◌, ◌-◌, ◌<◌, ◌≤◌, false, List, [], ◌∷◌, ◌++◌, take, map, length, Option, Some, None, Result, Ok, Err, OnOk, slice_get, refl, sym, ap, ◌∙◌, subst, arith}
use Rattle.std.proofs.lemmas.List.{length-set, length-append}
use Rattle.std.proofs.lemmas.Option.{slice_get_within}
use mathlib.Core.Path.{ap₂}
use Rattle.spv_frac.specs.rational.Rational.{Rational}
use Rattle.spv_frac.specs.declared.frac.Op.TheVariants.{Cmp}
use Rattle.spv_tableau_rules.specs.declared.tableaux.side.Side.TheVariants.{Lower, Upper}
use Rattle.spv_tableau_rules.specs.tableaux.Rows.{Point}
use Rattle.spv_tableau_rules.specs.tableaux.Bounds.{Limits}
use Rattle.spv_tableau_rules.specs.tableaux.Operations.{Operation, operation, fits, Compares, comparing}
use Rattle.spv_tableau_rules.specs.tableaux.Contradictions.{Multiple}
use Rattle.spv_dictionary.specs.declared.spot.Spot.TheVariants as spot
use Rattle.spv_dictionary.specs.Exchanges.{IsExchanged}
use Rattle.spv_dictionary.specs.Dictionary.{Dictionary, IsDictionary, IsSpot, basic_at, outside_at, with_solved}
use Rattle.spv_dictionary.specs.updates.Shifts.{value_in}
use Rattle.spv_dictionary.specs.declared.pivoting.choosing.Chosen.{Chosen}
use Rattle.spv_dictionary.specs.declared.pivoting.entering.Entry.{Entry}
use Rattle.spv_dictionary.specs.pivoting.Choosing.{IsComparing, with_lower, with_upper}
use Rattle.spv_dictionary.specs.pivoting.Finding.{IsChosen}
use Rattle.spv_dictionary.specs.pivoting.Stepping.{IsMade}
use Rattle.spv_simplex.specs.pivot_runs.Derivation as derivation
use Rattle.spv_simplex.specs.pivot_runs.Derivation.{IsPlaced, IsPlacing, ArePlaced, Goes, IsNextOn}
use Rattle.spv_simplex.specs.declared.checked.Checked.{Checked}
use Rattle.spv_simplex.specs.declared.checked.Checked.TheVariants.{Wide}
use Rattle.spv_simplex.specs.Evidence.{EvidenceValue, exchange_of, with_step, with_operation}
use Rattle.spv_simplex.specs.Searching as searching
use Rattle.spv_simplex.specs.Searching.{PlacingEnds, IsTurn, Stops, HasStopped, Arrives, Ends}

-- ---- columns that move into their bounds

-- a column's value is compared with one of its bounds
pub side_compares : (limits : Limits) (v : Point) (column : ℕ) (lower upper : Option Rational) (value : Rational) (o : Operation) → lower ≡ limits column Lower → upper ≡ limits column Upper
    → value ≡ v column → IsComparing lower upper value o → Compares limits v o
side_compares limits v column lower upper value _ el eu ev (with_lower b e) = subst (λ (x : Rational). Compares limits v (operation Cmp x b)) (sym ev) (comparing column Lower b (sym el ∙ e))
side_compares limits v column lower upper value _ el eu ev (with_upper b e) = subst (λ (x : Rational). Compares limits v (operation Cmp x b)) (sym ev) (comparing column Upper b (sym eu ∙ e))

pub on_ok : {T E : Type 0} (r : Result T E) (P Q : Type 0) → OnOk r P → (P → Q) → OnOk r Q
on_ok (Ok t) P Q h f = f h
on_ok (Err e) P Q h f = tt

-- ---- steps

pub is_turn : (limits : Limits) (d : Dictionary) (values : List Rational) (e : EvidenceValue) (new : Dictionary) (after : List Rational) (evidence : EvidenceValue) (chosen : Chosen) (entry : Entry)
    (leaving entering : ℕ) → length e.steps < e.room.steps → IsDictionary d → IsDictionary new → IsChosen limits d (value_in values) chosen entry → IsMade d values chosen.row entry.slot chosen.bound new after
    → leaving ≡ basic_at d chosen.row → entering ≡ outside_at d entry.slot → evidence ≡ with_step e (exchange_of leaving entering) → IsTurn limits d values e new after evidence
is_turn limits d values e new after evidence chosen entry leaving entering room known known_new found made l_is e_is is = record {
  chosen = chosen;
  entry = entry;
  room = room;
  gone = record { old_form = known; new_form = known_new; chosen_is = found; made = made };
  evidence_is = is ∙ ap₂ (λ (l x : ℕ). with_step e (exchange_of l x)) (l_is ∙ row_at.1) (e_is ∙ slot_at.1);
}
  where
    row_at : IsSpot d chosen.column (spot.Row chosen.row)
    row_at = subst (IsSpot d chosen.column) found.leaves.can.row_is (known.columns chosen.column found.leaves.can.inside)

    slot_at : IsSpot d entry.column (spot.Slot entry.slot)
    slot_at = subst (IsSpot d entry.column) found.enters.can.spot (known.columns entry.column found.enters.can.inside)

-- an operation that does not fit
pub too_wide : (limits : Limits) (d : Dictionary) (values : List Rational) (e : EvidenceValue) (new : Dictionary) (after : List Rational) (combination : List Multiple) (evidence : EvidenceValue)
    (o : Operation) → IsNextOn limits d values o → fits o ≡ false → new ≡ with_solved d new.solved → after ≡ values → evidence ≡ with_operation e o
    → HasStopped limits d values e new after combination evidence Wide
too_wide limits d values e new after combination evidence o next unfit form same is = record {
  values_are = same;
  evidence_is = is ∙ ap (with_operation e) (sym o_is);
  stops = searching.wide (subst (IsNextOn limits d values) (sym o_is) next) (ap fits o_is ∙ unfit) form;
}
  where
    o_is : evidence.operation ≡ o
    o_is = ap (λ (x : EvidenceValue). x.operation) is

pub goes_on : (limits : Limits) (d : Dictionary) (values : List Rational) (e : EvidenceValue) (here : Dictionary) (now : List Rational) (new : Dictionary) (after : List Rational) (evidence : EvidenceValue)
    → Goes limits d values e.steps here now → IsTurn limits here now e new after evidence → Goes limits d values evidence.steps new after
goes_on limits d values e here now new after evidence g t =
    subst (λ (x : EvidenceValue). Goes limits d values x.steps new after) (sym t.evidence_is)
    (derivation.steps e.steps here now t.chosen t.entry new after g t.gone)

-- what is left of a dictionary after a step
pub record StaysFit (d new : Dictionary) (values after : List Rational) (e evidence : EvidenceValue) : Type 0 where
  pub width : length new.outside ≡ length d.outside
  pub basis : length new.basic ≡ length d.basic
  pub spots : length new.spots ≡ length d.spots
  pub count : length after ≡ length values
  pub start : evidence.start ≡ e.start
  pub room : evidence.room ≡ e.room
  pub operation : evidence.operation ≡ e.operation
  pub steps : length evidence.steps ≡ length e.steps + 1

pub stays_fit : (limits : Limits) (d : Dictionary) (values : List Rational) (e : EvidenceValue) (new : Dictionary) (after : List Rational) (evidence : EvidenceValue)
    → IsTurn limits d values e new after evidence → StaysFit d new values after e evidence
stays_fit limits d values e new after evidence t = record {
  width = ap (λ xs. length xs) x.outside ∙ length-set d.outside t.entry.slot (basic_at d t.chosen.row);
  basis = ap (λ xs. length xs) x.basic ∙ length-set d.basic t.chosen.row (outside_at d t.entry.slot);
  spots = ap (λ xs. length xs) x.spots ∙ length-set _ (outside_at d t.entry.slot) (spot.Row t.chosen.row) ∙ length-set d.spots (basic_at d t.chosen.row) (spot.Slot t.entry.slot);
  count = t.gone.made.stepped.count;
  start = ap (λ (y : EvidenceValue). y.start) t.evidence_is;
  room = ap (λ (y : EvidenceValue). y.room) t.evidence_is;
  operation = ap (λ (y : EvidenceValue). y.operation) t.evidence_is;
  steps = ap (λ (y : EvidenceValue). length y.steps) t.evidence_is ∙ length-append e.steps _;
}
  where
    x : IsExchanged (with_solved d t.gone.made.solved) new t.chosen.row t.entry.slot
    x = t.gone.made.exchanged

pub arrives : (limits : Limits) (d : Dictionary) (values : List Rational) (first e : EvidenceValue) (here : Dictionary) (now : List Rational) (new : Dictionary) (after : List Rational)
    (combination : List Multiple) (evidence : EvidenceValue) (answer : Checked) → Goes limits d values e.steps here now → e.start ≡ first.start → e.room ≡ first.room
    → HasStopped limits here now e new after combination evidence answer → Arrives limits d values first new after combination evidence answer
arrives limits d values first e here now new after combination evidence answer g start room s = record {
  here = here;
  goes = subst (λ (v : List Rational). Goes limits d values evidence.steps here v) (sym s.values_are)
      (subst (λ (x : EvidenceValue). Goes limits d values x.steps here now) (sym s.evidence_is) g);
  stops = subst (λ (v : List Rational). Stops limits here v new combination evidence answer) (sym s.values_are) s.stops;
  start_is = ap (λ (x : EvidenceValue). x.start) s.evidence_is ∙ start;
  room_is = ap (λ (x : EvidenceValue). x.room) s.evidence_is ∙ room;
}

-- ---- lists

pub take_next : {A : Type 0} (xs : List A) (n m : ℕ) (x : A) → slice_get xs n ≡ Some x → m ≡ suc n → take m xs ≡ take n xs ++ x ∷ []
take_next {A = A} xs n m x h e = ap (λ i. take i xs) e ∙ more xs n h
  where
    more : (ys : List A) (i : ℕ) → slice_get ys i ≡ Some x → take (suc i) ys ≡ take i ys ++ x ∷ []
    more [] i k = absurd (no_less i (slice_get_within [] i x k))
      where
        no_less : (i : ℕ) → i < 0 → ⊥
        no_less i h = omega arith
    more (y ∷ ys) zero k = ap (λ z. z ∷ []) (value y x k)
      where
        value : (y x : A) → Some y ≡ Some x → y ≡ x
        value y x e = ap (some_or y) e
          where
            some_or : A → Option A → A
            some_or d None = d
            some_or d (Some z) = z
    more (y ∷ ys) (suc i) k = ap (λ zs. y ∷ zs) (more ys i k)

pub smaller : (r s n m : ℕ) → s ≡ r → m ≡ n + 1 → n < r → s - m < r - n
smaller r s n m e f h = omega (arith, e, f, h)

pub le_refl : (n : ℕ) → n ≤ n
le_refl n = omega arith

pub le_trans : (a b c : ℕ) → a ≤ b → b ≤ c → a ≤ c
le_trans a b c h g = omega arith

pub enough : (n m c e : ℕ) → n ≡ m → m ≤ c → c ≤ e → n ≤ e
enough n m c e is h g = omega (arith, is, h, g)

pub map_push : {A B : Type 0} (f : A → B) (xs : List A) (x : A) → map f (xs ++ x ∷ []) ≡ map f xs ++ f x ∷ []
map_push f [] x = refl
map_push f (y ∷ xs) x = ap (λ zs. f y ∷ zs) (map_push f xs x)
