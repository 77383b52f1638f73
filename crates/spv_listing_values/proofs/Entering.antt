-- Terms that are entered piece by piece.
use Rattle.std.proofs.Common.{◌≡◌, ℕ, suc, ◌+◌, ◌-◌, ◌<◌, ◌≤◌, List, [], ◌∷◌, ◌++◌, length, take, drop, get_or, refl, sym, ap, subst, ◌∙◌, append_assoc, append-nil, add-zero, slice_range, arith}
use Rattle.std.proofs.lemmas.List.{take_at, drop_at, drop_more, length-append}
use Rattle.spv_listing_values.specs.declared.texts.Text.{Text}
use Rattle.spv_listing_values.specs.Written.{Head, Written, Writtens, written, no_written, writtens}
use Rattle.spv_listing_values.specs.Forms.{count}
use Rattle.spv_listing_values.specs.Places.{Flat, Entered, with_flat, place_of, entered, all_entered}
use Rattle.spv_listing_values.specs.Parts.{Piece, pieces, all_pieces}
use Rattle.spv_listing_values.specs.Interned.{piece_entered, pieces_entered}

abbrev pub entering : List Flat → List Text → Entered
entering fs ps = record { flats = fs; places = ps }

-- what was entered before stays in front
pub entered_front : (fs : List Flat) (front more : List Text) (t : Written)
    → entered (entering fs (front ++ more)) t ≡ entering (entered (entering fs more) t).flats (front ++ (entered (entering fs more) t).places)
entered_front fs front more (written h ts) =
    let a = all_entered (entering fs []) ts in
    ap (λ (ps : List Text). entering (with_flat a.flats (record { head = h; args = a.places })) ps) (append_assoc front more (place_of a.flats (record { head = h; args = a.places }) ∷ []))

pub one_count : (t : Written) (fs : List Flat) (ps : List Text) → length (entered (entering fs ps) t).places ≡ suc (length ps)
one_count (written h ts) fs ps =
    let a = all_entered (entering fs []) ts in
    let more = length-append ps (place_of a.flats (record { head = h; args = a.places }) ∷ []) in
    omega (arith, more)

pub all_count : (ts : Writtens) (fs : List Flat) (ps : List Text) → length (all_entered (entering fs ps) ts).places ≡ length ps + count ts
all_count no_written fs ps = sym (add-zero (length ps))
all_count (writtens t ts) fs ps =
    let e = entered (entering fs ps) t in
    let one = one_count t fs ps in
    let others = all_count ts e.flats e.places in
    omega (arith, one, others)

-- ---- a piece over the places that were entered last

over_last : (fs : List Flat) (front args : List Text) (h : Head) (n : ℕ) → length args ≡ n
    → piece_entered (record { head = h; args = n }) (entering fs (front ++ args))
    ≡ entering (with_flat fs (record { head = h; args = args })) (front ++ place_of fs (record { head = h; args = args }) ∷ [])
over_last fs front args h n e =
    let size = length-append front args in
    let place : length (front ++ args) - n ≡ length front = omega (arith, size, e) in
    let last : drop (length (front ++ args) - n) (front ++ args) ≡ args = ap (λ (k : ℕ). drop k (front ++ args)) place ∙ drop_at front args (length front) refl in
    let first : take (length (front ++ args) - n) (front ++ args) ≡ front = ap (λ (k : ℕ). take k (front ++ args)) place ∙ take_at front args (length front) refl in
    ap
    (λ (xs : List Text). entering (with_flat fs (record { head = h; args = xs })) (take (length (front ++ args) - n) (front ++ args) ++ place_of fs (record { head = h; args = xs }) ∷ []))
    last
    ∙ ap (λ (ps : List Text). entering (with_flat fs (record { head = h; args = args })) (ps ++ place_of fs (record { head = h; args = args }) ∷ [])) first

mutual
  -- the pieces of a term enter the term
  pub one_entered : (t : Written) (fs : List Flat) (front : List Text) (ps : List Piece)
      → pieces_entered (entering fs front) (pieces t ++ ps) ≡ pieces_entered (entered (entering fs front) t) ps
  one_entered (written h ts) fs front ps =
      let a = all_entered (entering fs []) ts in
      let size : length a.places ≡ count ts = all_count ts fs [] ∙ none (count ts) in
      ap (pieces_entered (entering fs front)) (append_assoc (all_pieces ts) (record { head = h; args = count ts } ∷ []) ps)
      ∙ (ap (λ (f : List Text). pieces_entered (entering fs f) (all_pieces ts ++ record { head = h; args = count ts } ∷ ps)) (sym (append-nil front))
      ∙ (all_pieces_entered ts fs front [] (record { head = h; args = count ts } ∷ ps)
      ∙ ap (λ (e : Entered). pieces_entered e ps) (over_last a.flats front a.places h (count ts) size)))
    where
      none : (n : ℕ) → 0 + n ≡ n
      none n = omega arith

  all_pieces_entered : (ts : Writtens) (fs : List Flat) (front more : List Text) (ps : List Piece)
      → pieces_entered (entering fs (front ++ more)) (all_pieces ts ++ ps)
      ≡ pieces_entered (entering (all_entered (entering fs more) ts).flats (front ++ (all_entered (entering fs more) ts).places)) ps
  all_pieces_entered no_written fs front more ps = refl
  all_pieces_entered (writtens t ts) fs front more ps =
      let e = entered (entering fs more) t in
      ap (pieces_entered (entering fs (front ++ more))) (append_assoc (pieces t) (all_pieces ts) ps)
      ∙ (one_entered t fs (front ++ more) (all_pieces ts ++ ps)
      ∙ (ap (λ (d : Entered). pieces_entered d (all_pieces ts ++ ps)) (entered_front fs front more t) ∙ all_pieces_entered ts e.flats front e.places ps))

pub term_entered : (t : Written) (fs : List Flat) → pieces_entered (entering fs []) (pieces t) ≡ entered (entering fs []) t
term_entered t fs = ap (pieces_entered (entering fs [])) (sym (append-nil (pieces t))) ∙ one_entered t fs [] []

-- ---- each piece finds its arguments

-- so many places are enough for pieces
abbrev pub AreEnough : ℕ → List Piece → Type 0
AreEnough n [] = Unit {0}
AreEnough n (p ∷ ps) = (p.args ≤ n) × AreEnough (suc (n - p.args)) ps

mutual
  pub enough_one : (t : Written) (n : ℕ) (ps : List Piece) → AreEnough (suc n) ps → AreEnough n (pieces t ++ ps)
  enough_one (written h ts) n ps h' =
      subst (AreEnough n) (sym (append_assoc (all_pieces ts) (record { head = h; args = count ts } ∷ []) ps))
      (enough_all ts n (record { head = h; args = count ts } ∷ ps) (behind n (count ts), subst (λ (k : ℕ). AreEnough (suc k) ps) (sym (left n (count ts))) h'))
    where
      behind : (n m : ℕ) → m ≤ n + m
      behind n m = omega arith

      left : (n m : ℕ) → n + m - m ≡ n
      left n m = omega arith

  enough_all : (ts : Writtens) (n : ℕ) (ps : List Piece) → AreEnough (n + count ts) ps → AreEnough n (all_pieces ts ++ ps)
  enough_all no_written n ps h = subst (λ (k : ℕ). AreEnough k ps) (add-zero n) h
  enough_all (writtens t ts) n ps h =
      subst (AreEnough n) (sym (append_assoc (pieces t) (all_pieces ts) ps)) (enough_one t n (all_pieces ts ++ ps) (enough_all ts (suc n) ps (subst (λ (k : ℕ). AreEnough k ps) (moved n (count ts)) h)))
    where
      moved : (n m : ℕ) → n + suc m ≡ suc n + m
      moved n m = omega arith

pub enough_term : (t : Written) → AreEnough 0 (pieces t)
enough_term t = subst (AreEnough 0) (append-nil (pieces t)) (enough_one t 0 [] tt)

-- ---- the parts of an item, one by one

pub range_more : {X : Type 0} (xs : List X) (k n : ℕ) (d : X) → k < n → n ≤ length xs → slice_range xs k n ≡ get_or xs k d ∷ slice_range xs (k + 1) n
range_more {X} xs k n d h le = ap (λ (l : List X). take (n - k) l) (drop_more xs k d (omega (arith, h, le))) ∙ ap (λ (m : ℕ). take m (get_or xs k d ∷ drop (k + 1) xs)) one_less
  where
    one_less : n - k ≡ suc (n - (k + 1))
    one_less = omega (arith, h)

pub range_none : {X : Type 0} (xs : List X) (k n : ℕ) → n ≤ k → slice_range xs k n ≡ []
range_none {X} xs k n h = ap (λ (m : ℕ). take m (drop k xs)) none
  where
    none : n - k ≡ 0
    none = omega (arith, h)
