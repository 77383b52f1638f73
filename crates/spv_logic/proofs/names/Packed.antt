-- Short texts as numbers.
use Rattle.std.proofs.Common.{◌≡◌, ◌≢◌, ◌<◌, ◌≤◌, ◌+◌, ◌*◌, ◌^◌, drop, ℕ, zero, suc, Bool, true, false, List, [], ◌∷◌, length, nat_cmp, nat_eq, is_eq, refl, sym, ap, ap₂, subst, ◌∙◌, arith}
use Rattle.std.specs.Str.{bytes_eq}
use Rattle.std.proofs.lemmas.Bool.{false≢true, eqb-true, eq-eqb}
use Rattle.std.proofs.lemmas.Bool.Decides.{nat_tests}
use Rattle.std.proofs.lemmas.List.{length-drop}
use Rattle.std.proofs.lemmas.Slice.Eq.{bytes_eq-Decides}
use Rattle.spv_logic.specs.names.Names.{AreBytes, packed}

pub bytes_behind : (b : ℕ) (text : List ℕ) → AreBytes (b ∷ text) → AreBytes text
bytes_behind b text bytes = record { each = λ k. bytes.each (suc k) }

one_is_there : (text : List ℕ) → 1 ≤ packed text
one_is_there [] = omega arith
one_is_there (b ∷ text) = let h = one_is_there text in omega (arith, h)

-- texts with one number are one
same_text : (s t : List ℕ) → AreBytes s → AreBytes t → packed s ≡ packed t → s ≡ t
same_text [] [] small low e = refl
same_text [] (c ∷ t) small low e = let h = one_is_there t in absurd (omega (arith, h, e))
same_text (b ∷ s) [] small low e = let h = one_is_there s in absurd (omega (arith, h, e))
same_text (b ∷ s) (c ∷ t) small low e =
    let left : b < 256 = small.each 0 in
    let right : c < 256 = low.each 0 in
    let digits : b ≡ c = omega (arith, left, right, e) in
    let others : packed s ≡ packed t = omega (arith, left, right, e) in
    ap₂ ◌∷◌ digits (same_text s t (bytes_behind b s small) (bytes_behind c t low) others)

same_number : (m n : ℕ) → is_eq (nat_cmp m n) ≡ nat_eq m n
same_number m n = grind (arith, nat_tests)

-- so their numbers tell them apart
pub by_number : (s t : List ℕ) → AreBytes s → AreBytes t → is_eq (nat_cmp (packed s) (packed t)) ≡ bytes_eq s t
by_number s t small low = same_number (packed s) (packed t) ∙ by (nat_eq (packed s) (packed t)) refl (bytes_eq s t) refl
  where
    by : (b : Bool) → nat_eq (packed s) (packed t) ≡ b → (c : Bool) → bytes_eq s t ≡ c → nat_eq (packed s) (packed t) ≡ bytes_eq s t
    by true e true f = e ∙ sym f
    by false e false f = e ∙ sym f
    by true e false f =
        absurd (false≢true (sym f ∙ (bytes_eq-Decides s t).1 (same_text s t small low (eqb-true (packed s) (packed t) e))))
    by false e true f = absurd (false≢true (sym e ∙ eq-eqb (packed s) (packed t) (ap packed ((bytes_eq-Decides s t).0 f))))

-- ---- the number's size

-- what the number of a text of so many bytes is below
abbrev pub limit : ℕ → ℕ
limit zero = 2
limit (suc n) = 256 * limit n

pub limit-grows : (m n : ℕ) → m ≤ n → limit m ≤ limit n
limit-grows zero zero h = omega arith
limit-grows zero (suc n) h = let k = limit-grows zero n (omega arith) in omega (arith, k)
limit-grows (suc m) zero h = absurd (omega (arith, h))
limit-grows (suc m) (suc n) h = let k = limit-grows m n (omega (arith, h)) in omega (arith, k)

pub below_limit : (text : List ℕ) → AreBytes text → packed text < limit (length text)
below_limit [] bytes = omega arith
below_limit (b ∷ text) bytes =
    let small : b < 256 = bytes.each 0 in
    let h = below_limit text (bytes_behind b text bytes) in
    omega (arith, small, h)

pub bytes_dropped : (n : ℕ) (text : List ℕ) → AreBytes text → AreBytes (drop n text)
bytes_dropped zero text bytes = bytes
bytes_dropped (suc n) [] bytes = bytes
bytes_dropped (suc n) (b ∷ text) bytes = bytes_dropped n text (bytes_behind b text bytes)

-- the number of what stands behind the first byte of a short text has room for one digit more
pub has_room : (text : List ℕ) (left : ℕ) → AreBytes text → length text ≤ 15 → 0 < left → left ≤ length text → packed (drop left text) < 2 ^ 113
has_room text left bytes short some within =
    let size = length-drop left text in
    let few : length (drop left text) ≤ 14 = omega (arith, size, short, some, within) in
    let below = below_limit (drop left text) (bytes_dropped left text bytes) in
    let most = limit-grows (length (drop left text)) 14 few in
    let top : limit 14 ≡ 2 ^ 113 = refl in
    omega (arith, below, most, top)
