-- Whether the forms of a relation fit each way, by the constant of its row.
use Rattle.std.proofs.Common.{◌≡◌, Bool, true, false, ◌&&◌, ℤ, pos, negsuc, ◌+ℤ◌, ◌*ℤ◌, neg_ℤ, refl, sym, ap, ◌∙◌, subst, Option, Some, None, arith}
use mir.Val.{to_z, of_z}
use mir.Syntax.{w128}
use Rattle.std.proofs.lemmas.Int.{ints}
use Rattle.std.proofs.lemmas.Bool.{false≢true}
use Rattle.spv_logic.proofs.list.Tests.{left_true, right_true}
use Rattle.spv_logic.specs.declared.operators.Head.TheVariants.{Sub}
use Rattle.spv_logic.specs.declared.conditions.TermId.{TermId}
use Rattle.spv_logic.specs.Terms.{Term, term, no_terms, terms}
use Rattle.spv_term.specs.Arena.{Arena, IsArena}
use Rattle.spv_frac.specs.Range.{fits}
use Rattle.spv_atoms.specs.Forms.{form, form_fits, is_narrow}
use Rattle.spv_atoms.specs.Linear.{coefficient, IdForm, IsIdForm, IsFormOf}
use Rattle.spv_atoms.specs.Sums.{IsDifference, IsDifferenceOf}
use Rattle.spv_atoms.proofs.Sums.{narrow}
use Rattle.spv_atoms.proofs.Coefficients.{AreDifferent, minus-coefficient, form-different, both_true, coefficient-fits, all-coefficients-fit}
use Rattle.spv_proof_rules.specs.Sums.{difference}
use Rattle.spv_proof_rules.specs.Stops.{is_measured}
use Rattle.spv_proof.specs.sums.Differences.{IsMeasureOf}
use Rattle.spv_proof.proofs.sums.Negated.{negated-fits}
use Rattle.spv_proof.proofs.sums.Measures.{measured, too_wide}
use Rattle.spv_tableau_rules.specs.constraints.Relations.{fits_each_way}
use Rattle.spv_arithmetic_side.specs.bounds.Bounds.{has_room}
use Rattle.spv_arithmetic_side.specs.declared.slack_rows.row.RowFault.{RowFault}
use Rattle.spv_arithmetic_side.specs.declared.slack_rows.row.RowFault.TheVariants.{Wide, Memory}
use Rattle.spv_arithmetic_side.specs.slack_rows.Rows.{IsFittingRow, IsWideForm, IsMisfit}

-- ---- numbers

less : ℤ → ℤ → ℤ
less m n = m +ℤ negsuc 0 *ℤ n

exchanged : (m n : ℤ) → n +ℤ negsuc 0 *ℤ m ≡ negsuc 0 *ℤ (m +ℤ negsuc 0 *ℤ n)
exchanged m n = omega (arith, ints)

and_nothing : (z : ℤ) → z +ℤ pos 0 ≡ z
and_nothing z = omega (arith, ints)

one_above : (c d : ℤ) → d ≡ c +ℤ pos 0 → c +ℤ pos 1 ≡ d +ℤ pos 1
one_above c d e = omega (arith, ints)

one_above_opposite : (m n d : ℤ) → d ≡ m +ℤ negsuc 0 *ℤ n +ℤ pos 0 → n +ℤ negsuc 0 *ℤ m +ℤ pos 1 ≡ neg_ℤ d +ℤ pos 1
one_above_opposite m n d e = omega (arith, ints)

opposite : (m n d : ℤ) → d ≡ m +ℤ negsuc 0 *ℤ n +ℤ pos 0 → n +ℤ negsuc 0 *ℤ m +ℤ pos 0 ≡ negsuc 0 *ℤ d
opposite m n d e = omega (arith, ints)

-- ---- tests

right_false : (a b : Bool) → b ≡ false → (a && b) ≡ false
right_false true b h = h
right_false false b h = refl

left_false : (a b : Bool) → a ≡ false → (a && b) ≡ false
left_false a b h = ap (λ c. c && b) h

-- ---- forms that fit

module _ (x y : Term) where
  -- both sides are narrow, and the form of left - right fits
  narrow_left : is_measured x y (pos 0) ≡ true → is_narrow x ≡ true
  narrow_left h = left_true (is_narrow x) _ h

  narrow_right : is_measured x y (pos 0) ≡ true → is_narrow y ≡ true
  narrow_right h = left_true (is_narrow y) _ (right_true (is_narrow x) _ h)

  fitting : is_measured x y (pos 0) ≡ true → form_fits (difference x y (pos 0)) ≡ true
  fitting h = right_true (is_narrow y) _ (right_true (is_narrow x) _ h)

  different : (n : ℤ) → AreDifferent (difference x y n).parts
  different n = form-different (term Sub (terms x (terms y no_terms)))

-- the parts of right - left fit where those of left - right do
turned_at : (x y : Term) (t : Term) → coefficient (difference y x (pos 0)).parts t ≡ negsuc 0 *ℤ coefficient (difference x y (pos 0)).parts t
turned_at x y t =
    minus-coefficient (form y) (form x) t (form-different x)
    ∙ (exchanged (coefficient (form x).parts t) (coefficient (form y).parts t) ∙ ap (λ z. negsuc 0 *ℤ z) (sym (minus-coefficient (form x) (form y) t (form-different y))))

turned-fits : (x y : Term) → is_measured x y (pos 0) ≡ true → (n : ℤ) → fits ((difference y x (pos 0)).constant) ≡ true → is_measured y x (pos 0) ≡ true
turned-fits x y h n k =
    both_true _ _ (narrow_right x y h) (both_true _ _ (narrow_left x y h)
    (both_true _ _ (all-coefficients-fit (difference y x (pos 0)).parts (different y x (pos 0)) (λ t. ap fits (turned_at x y t) ∙ negated-fits (coefficient (difference x y (pos 0)).parts t) (coefficient-fits (difference x y (pos 0)).parts (left_true _ _ (fitting x y h)) t))) k))

-- one more fits where the constant has room
more-fits : (x y : Term) → is_measured x y (pos 0) ≡ true → fits ((difference x y (pos 1)).constant) ≡ true → is_measured x y (pos 1) ≡ true
more-fits x y h k = both_true _ _ (narrow_left x y h) (both_true _ _ (narrow_right x y h) (both_true _ _ (left_true _ _ (fitting x y h)) k))

constant-fits : (x y : Term) (n : ℤ) → is_measured x y n ≡ true → fits ((difference x y n).constant) ≡ true
constant-fits x y n h = right_true _ _ (right_true (is_narrow y) _ (right_true (is_narrow x) _ h))

module _ (x y : Term) (h : is_measured x y (pos 0) ≡ true) (d : ℤ) (e : d ≡ (difference x y (pos 0)).constant) where
  room-fits : has_room d ≡ true → fits_each_way (x, y) ≡ true
  room-fits k =
      let other : is_measured y x (pos 0) ≡ true =
      turned-fits x y h d (ap fits (opposite (form x).constant (form y).constant d e) ∙ negated-fits d (left_true (fits d) _ k)) in
      both_true _ _ h
      (both_true _ _ (more-fits x y h (ap fits (one_above ((form x).constant +ℤ negsuc 0 *ℤ (form y).constant) d e) ∙ left_true (fits (d +ℤ pos 1)) _ (right_true (fits d) _ k)))
      (both_true _ _ other
      (more-fits y x other (ap fits (one_above_opposite (form x).constant (form y).constant d e) ∙ right_true (fits (d +ℤ pos 1)) _ (right_true (fits d) _ k)))))

  fits-room : fits_each_way (x, y) ≡ true → has_room d ≡ true
  fits-room k =
      let behind = right_true (is_measured x y (pos 0)) (is_measured x y (pos 1) && (is_measured y x (pos 0) && is_measured y x (pos 1))) k in
      let first : is_measured x y (pos 1) ≡ true = left_true (is_measured x y (pos 1)) (is_measured y x (pos 0) && is_measured y x (pos 1)) behind in
      let last : is_measured y x (pos 1) ≡ true =
      right_true (is_measured y x (pos 0)) (is_measured y x (pos 1)) (right_true (is_measured x y (pos 1)) (is_measured y x (pos 0) && is_measured y x (pos 1)) behind) in
      both_true _ _ (ap fits e ∙ constant-fits x y (pos 0) h)
      (both_true _ _ (ap fits (sym (one_above ((form x).constant +ℤ negsuc 0 *ℤ (form y).constant) d e)) ∙ constant-fits x y (pos 1) first)
      (ap fits (sym (one_above_opposite (form x).constant (form y).constant d e)) ∙ constant-fits y x (pos 1) last))

  no_room : has_room d ≡ false → fits_each_way (x, y) ≡ false
  no_room k = by_case (fits_each_way (x, y)) refl
    where
      by_case : (b : Bool) → fits_each_way (x, y) ≡ b → fits_each_way (x, y) ≡ false
      by_case true f = absurd (false≢true (sym k ∙ fits-room f))
      by_case false f = f

-- ---- what was found

-- the room of a constant that was read
pub room_is : (k r : ℤ) (b : Bool) → r ≡ k → fits k ≡ true → b ≡ has_room (to_z w128 (of_z w128 r)) → has_room k ≡ b
room_is k r b is f e = sym (e ∙ ap has_room (narrow r (ap fits is ∙ f) ∙ is))

-- a form that does not fit, of a side or of the difference
pub wide_left : (x y : Term) (t : TermId) (e : RowFault) → IsWideForm x t e → IsMisfit (x, y) t e
wide_left x y t (Wide u) h = (h.0, left_false _ _ (left_false _ _ h.1))
wide_left x y t Memory h = tt

pub wide_right : (x y : Term) (t : TermId) (e : RowFault) → IsWideForm y t e → IsMisfit (x, y) t e
wide_right x y t (Wide u) h = (h.0, left_false _ _ (right_false (is_narrow x) _ (left_false _ _ h.1)))
wide_right x y t Memory h = tt

module _ (a : Arena) (ok : IsArena a) (x y : Term) (f g : IdForm) (left : IsFormOf a x f) (right : IsFormOf a y g) where
  pub wide_difference : (o : Option IdForm) → IsDifference f g o → o ≡ None → fits_each_way (x, y) ≡ false
  wide_difference None h e = left_false _ _ (too_wide a ok x y false f g left right (record { not_all = λ p q. h.not_all p (ap fits (sym (and_nothing (f.constant +ℤ negsuc 0 *ℤ g.constant))) ∙ q) }))
  wide_difference (Some d) h e = absurd (cc)

  difference_of : (o : Option IdForm) (d : IdForm) → IsDifference f g o → o ≡ Some d → IsDifferenceOf f g d
  difference_of None d h e = absurd (cc)
  difference_of (Some c) d h e = let same : c ≡ d = cc in subst (IsDifferenceOf f g) same h

  measure : (o : Option IdForm) (d : IdForm) → IsDifference f g o → o ≡ Some d → IsIdForm d → IsMeasureOf a x y false d
  measure o d h e k =
      let made : IsDifferenceOf f g d = difference_of o d h e in
      measured a ok x y false f g left right d k (record { parts = made.parts; constant = made.constant ∙ sym (and_nothing (f.constant +ℤ negsuc 0 *ℤ g.constant)) })

  pub fitting_row : (o : Option IdForm) (d : IdForm) → IsDifference f g o → o ≡ Some d → IsIdForm d → has_room d.constant ≡ true → IsFittingRow a (x, y) d
  fitting_row o d h e k room =
      let q : IsMeasureOf a x y false d = measure o d h e k in
      record { row = record { in_range = q.over.in_range; same = q.over.same }; kept = k; room = room; fits = room-fits x y q.fits d.constant q.over.same.constant room }

  pub without_room : (o : Option IdForm) (d : IdForm) → IsDifference f g o → o ≡ Some d → IsIdForm d → has_room d.constant ≡ false → fits_each_way (x, y) ≡ false
  without_room o d h e k room = let q : IsMeasureOf a x y false d = measure o d h e k in no_room x y q.fits d.constant q.over.same.constant room
