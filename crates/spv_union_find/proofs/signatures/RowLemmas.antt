-- Rows whose labels stand one behind the other.
use Rattle.std.proofs.Common.{◌≡◌, ℕ, zero, suc, ◌+◌, ◌-◌, ◌<◌, ◌≤◌, Bool, true, false, nat_eq, List, [], ◌∷◌, ◌++◌, take, drop, map, length, min, get_or, slice_get, Some, None, refl, sym, ap, subst, ◌∙◌, arith, if◌then◌else◌}
use Rattle.std.proofs.lemmas.List.{length-append, length-take-le, length-drop, length-map, take-append-le, drop-append-le, map_push, take-map, take-append-drop, take_all, drop_at}
use Rattle.std.proofs.lemmas.List.Sums.{fold_push}
use Rattle.std.proofs.Math.Nat.{min-le_left, min-le_right, le-min}
use Rattle.spv_logic.specs.declared.conditions.TermId.{TermId}
use Rattle.std.specs.Cmp.Lexicographic.{pointwise}
use Rattle.std.proofs.lemmas.Bool.{false≢true, eqb-true}
use Rattle.std.proofs.lemmas.Bool.Decides.{nat_tests}
use Rattle.spv_logic.proofs.list.Tests.{left_true, right_true}
use Rattle.spv_logic.specs.declared.operators.Head.{Head}
use Rattle.spv_logic.specs.Terms.{head_eq}
use Rattle.spv_logic.proofs.Equality.{head_eq-true}
use Rattle.spv_union_find.specs.declared.signatures.rows.Row.{Row}
use Rattle.spv_union_find.specs.signatures.Chains.{last_where, last_below}
use Rattle.spv_union_find.specs.signatures.Signatures.{Signature, is_for, or_this, held, cells_of, signature, Laid, hash, hash_of}
use Rattle.spv_union_find.proofs.signatures.ChainLemmas.{last_is, last_not, IsLast, is_last}

pub held_push : (rows : List Signature) (r : Signature) (h : Head) (ls : List ℕ) → held (rows ++ r ∷ []) h ls ≡ or_this h ls (held rows h ls) r
held_push rows r h ls = fold_push (or_this h ls) None rows r

abbrev pub row : Head → ℕ → ℕ → TermId → Row
row h start size t = record { head = h; start = start; size = size; term = t }

abbrev pub sig : Head → List ℕ → TermId → Signature
sig h ls t = record { head = h; labels = ls; term = t }

-- the rows end behind where they start
pub ends : (start : ℕ) (rows : List Row) (end : ℕ) → Laid start rows end → start ≤ end
ends start [] end e = omega (arith, e)
ends start (r ∷ rows) end laid = let h = ends (start + r.size) rows end laid.1 in omega (arith, h)

-- a row ends before the end
pub row_within : (start : ℕ) (rows : List Row) (end : ℕ) → Laid start rows end → (i : ℕ) (r : Row) → slice_get rows i ≡ Some r → r.start + r.size ≤ end
row_within start [] end laid i r at = absurd (cc)
row_within start (x ∷ rows) end laid zero r at =
    let e : x ≡ r = one x r at in
    let h = ends (start + x.size) rows end laid.1 in
    let f = laid.0 in
    let s = ap (λ y. y.start + y.size) e in
    omega (arith, h, f, s)
  where
    one : (x r : Row) → Some x ≡ Some r → x ≡ r
    one x r e = cc
row_within start (x ∷ rows) end laid (suc i) r at = row_within (start + x.size) rows end laid.1 i r at

pub laid_push : (start : ℕ) (rows : List Row) (end : ℕ) (r : Row) → Laid start rows end → r.start ≡ end → Laid start (rows ++ r ∷ []) (end + r.size)
laid_push start [] end r e f = (f ∙ sym e, ap (λ n. n + r.size) e)
laid_push start (x ∷ rows) end r laid f = (laid.0, laid_push (start + x.size) rows end r laid.1 f)

-- the rows before a row end where it starts
pub laid_take : (start : ℕ) (rows : List Row) (end : ℕ) → Laid start rows end → (i : ℕ) (r : Row) → slice_get rows i ≡ Some r → Laid start (take i rows) r.start
laid_take start [] end laid i r at = absurd (cc)
laid_take start (x ∷ rows) end laid zero r at = sym laid.0 ∙ ap (λ y. y.start) (one x r at)
  where
    one : (x r : Row) → Some x ≡ Some r → x ≡ r
    one x r e = cc
laid_take start (x ∷ rows) end laid (suc i) r at = (laid.0, laid_take (start + x.size) rows end laid.1 i r at)

one_signature : (h : Head) (ls ks : List ℕ) (t : TermId) → ls ≡ ks → sig h ls t ≡ sig h ks t
one_signature h ls ks t e = cc

module _ (cells more : List ℕ) where
  -- further cells change no signature
  pub same_signature : (r : Row) → r.start + r.size ≤ length cells → signature (cells ++ more) r ≡ signature cells r
  same_signature r h =
      let d : drop r.start (cells ++ more) ≡ drop r.start cells ++ more = drop-append-le r.start cells more (omega arith) in
      let len : length (drop r.start cells) ≡ length cells - r.start = length-drop r.start cells in
      one_signature r.head _ _ r.term (ap (take r.size) d ∙ take-append-le r.size (drop r.start cells) more (omega (arith, len)))

  pub same_signatures : (start : ℕ) (rows : List Row) (end : ℕ) → Laid start rows end → end ≤ length cells → map (signature (cells ++ more)) rows ≡ map (signature cells) rows
  same_signatures start [] end laid within = refl
  same_signatures start (r ∷ rows) end laid within =
      let e = ends (start + r.size) rows end laid.1 in
      two (same_signature r (let f = laid.0 in omega (arith, e, f, within))) (same_signatures (start + r.size) rows end laid.1 within)
    where
      two : {X : Type 0} {x y : X} {xs ys : List X} → x ≡ y → xs ≡ ys → x ∷ xs ≡ y ∷ ys
      two {X} {x} {y} {xs} {ys} e f = ap (λ z. z ∷ xs) e ∙ ap (λ zs. y ∷ zs) f

pub cells_are : (cells : List ℕ) (start : ℕ) (rows : List Row) (end : ℕ) → Laid start rows end → end ≤ length cells → cells_of (map (signature cells) rows) + start ≡ length rows + end
cells_are cells start [] end e within = omega (arith, e)
cells_are cells start (r ∷ rows) end laid within =
    let h = cells_are cells (start + r.size) rows end laid.1 within in
    let e = ends (start + r.size) rows end laid.1 in
    let f = laid.0 in
    let d = length-drop r.start cells in
    let len : length (take r.size (drop r.start cells)) ≡ r.size = length-take-le r.size (drop r.start cells) (omega (arith, d, f, e, within)) in
    omega (arith, h, len)

-- ---- the loop that looks for a row

take_row : {X : Type 0} → (rows : List X) (n : ℕ) (r : X) → slice_get rows n ≡ Some r → take (suc n) rows ≡ take n rows ++ r ∷ []
take_row [] n r at = absurd (cc)
take_row {X} (x ∷ rows) zero r at = ap (λ y. y ∷ []) (one x r at)
  where
    one : (x r : X) → Some x ≡ Some r → x ≡ r
    one x r e = cc
take_row (x ∷ rows) (suc n) r at = ap (λ ys. x ∷ ys) (take_row rows n r at)

map_get : {X Y : Type 0} → (f : X → Y) (xs : List X) (i : ℕ) (x : X) → slice_get xs i ≡ Some x → slice_get (map f xs) i ≡ Some (f x)
map_get f [] i x at = absurd (cc)
map_get {X} f (y ∷ ys) zero x at = ap (λ z. Some (f z)) (one y x at)
  where
    one : (x r : X) → Some x ≡ Some r → x ≡ r
    one x r e = cc
map_get f (y ∷ ys) (suc i) x at = map_get f ys i x at

got : {X : Type 0} → (xs : List X) (i : ℕ) → i < length xs → (x : X) × (slice_get xs i ≡ Some x)
got [] i h = absurd (let f : ⊥ = omega (arith, h) in f)
got (x ∷ xs) zero h = (x, refl)
got (x ∷ xs) (suc i) h = got xs i (let f : i < length xs = omega (arith, h) in f)

hash_at : (sigs : List Signature) (i : ℕ) (s : Signature) → slice_get sigs i ≡ Some s → get_or (map hash sigs) i 0 ≡ hash s
hash_at [] i s at = absurd (cc)
hash_at (r ∷ sigs) zero s at = ap hash (one r s at)
  where
    one : (x r : Signature) → Some x ≡ Some r → x ≡ r
    one x r e = cc
hash_at (r ∷ sigs) (suc i) s at = hash_at sigs i s at

same_list : (xs ys : List ℕ) → pointwise nat_eq xs ys ≡ true → xs ≡ ys
same_list [] [] e = refl
same_list [] (y ∷ ys) e = absurd (false≢true e)
same_list (x ∷ xs) [] e = absurd (false≢true e)
same_list (x ∷ xs) (y ∷ ys) e = two x y xs ys (eqb-true x y (left_true _ _ e)) (same_list xs ys (right_true (nat_eq x y) _ e))
  where
    two : (x y : ℕ) (xs ys : List ℕ) → x ≡ y → xs ≡ ys → x ∷ xs ≡ y ∷ ys
    two x y xs ys e f = cc

module _ (h : Head) (ls : List ℕ) where
  -- a row of this head and these labels has their hash
  same_hash : (s : Signature) → is_for h ls s ≡ true → hash s ≡ hash_of h ls
  same_hash s e =
      ap (λ k. hash_of k s.labels) (head_eq-true s.head h (left_true _ _ e)) ∙ ap (hash_of h) (same_list s.labels ls (right_true (head_eq s.head h) _ e))

  other_hash : (s : Signature) → nat_eq (hash s) (hash_of h ls) ≡ false → is_for h ls s ≡ false
  other_hash s e = by (is_for h ls s) refl
    where
      eq_same : (z : ℕ) → nat_eq z z ≡ true
      eq_same z = grind (arith, nat_tests)

      by : (b : Bool) → is_for h ls s ≡ b → is_for h ls s ≡ false
      by true f = absurd (false≢true (sym e ∙ (ap (λ n. nat_eq n (hash_of h ls)) (same_hash s f) ∙ eq_same (hash_of h ls))))
      by false f = f

  -- whether the row at a place has their hash
  abbrev pub hashed : List ℕ → ℕ → Bool
  hashed hs i = nat_eq (get_or hs i 0) (hash_of h ls)

  module _ (sigs : List Signature) where
    held_next : (n : ℕ) (s : Signature) → slice_get sigs n ≡ Some s → held (take (suc n) sigs) h ls ≡ or_this h ls (held (take n sigs) h ls) s
    held_next n s at = ap (λ ss. held ss h ls) (take_row sigs n s at) ∙ held_push (take n sigs) s h ls

    -- a row of another hash does not count
    passed : (n : ℕ) → n < length sigs → hashed (map hash sigs) n ≡ false → held (take (suc n) sigs) h ls ≡ held (take n sigs) h ls
    passed n within e = by (got sigs n within)
      where
        by : (s : Signature) × (slice_get sigs n ≡ Some s) → held (take (suc n) sigs) h ls ≡ held (take n sigs) h ls
        by s =
            let f : is_for h ls s.0 ≡ false = other_hash s.0 (ap (λ m. nat_eq m (hash_of h ls)) (sym (hash_at sigs n s.0 s.1)) ∙ e) in
            held_next n s.0 s.1 ∙ ap (λ b. if b then Some s.0.term else held (take n sigs) h ls) f

    pub held_last : (n p : ℕ) → n ≤ length sigs → last_where (hashed (map hash sigs)) n ≡ Some p → held (take n sigs) h ls ≡ held (take (suc p) sigs) h ls
    held_last zero p within e = absurd (cc)
    held_last (suc n) p within e = by (λ k. held_last n p (let g : n ≤ length sigs = omega (arith, within) in g) k) (hashed (map hash sigs) n) refl
      where
        one : Some n ≡ Some p → n ≡ p
        one e = cc

        by : (last_where (hashed (map hash sigs)) n ≡ Some p → held (take n sigs) h ls ≡ held (take (suc p) sigs) h ls) → (b : Bool) → hashed (map hash sigs) n ≡ b → held (take (suc n) sigs) h ls ≡ held (take (suc p) sigs) h ls
        by rest true f = ap (λ m. held (take (suc m) sigs) h ls) (one (sym (last_is (hashed (map hash sigs)) n f) ∙ e))
        by rest false f = passed n (let g : n < length sigs = omega (arith, within) in g) f ∙ rest (sym (last_not (hashed (map hash sigs)) n f) ∙ e)

    pub held_none : (n : ℕ) → n ≤ length sigs → last_where (hashed (map hash sigs)) n ≡ None → held (take n sigs) h ls ≡ None
    held_none zero within e = refl
    held_none (suc n) within e = by (λ k. held_none n (let g : n ≤ length sigs = omega (arith, within) in g) k) (hashed (map hash sigs) n) refl
      where
        none : Some n ≡ None → ⊥
        none e = cc

        by : (last_where (hashed (map hash sigs)) n ≡ None → held (take n sigs) h ls ≡ None) → (b : Bool) → hashed (map hash sigs) n ≡ b → held (take (suc n) sigs) h ls ≡ None
        by rest true f = absurd (none (sym (last_is (hashed (map hash sigs)) n f) ∙ e))
        by rest false f = passed n (let g : n < length sigs = omega (arith, within) in g) f ∙ rest (sym (last_not (hashed (map hash sigs)) n f) ∙ e)

-- what is held is held below a place, and the hash stands there
pub record Seeks (sigs : List Signature) (hs : List ℕ) (h : Head) (ls : List ℕ) (code below : ℕ) : Type 0 where
  pub code_is : code ≡ hash_of h ls
  pub within : below ≤ length hs
  pub rest : held (take below sigs) h ls ≡ held sigs h ls
  pub here : below < length hs → get_or hs below 0 ≡ code

pub seek_start : (sigs : List Signature) (hs : List ℕ) (h : Head) (ls : List ℕ) (code below : ℕ) → hs ≡ map hash sigs → code ≡ hash_of h ls → below ≡ length sigs → Seeks sigs hs h ls code below
seek_start sigs hs h ls code below e f g =
    let n : length hs ≡ length sigs = ap length e ∙ length-map sigs hash in
    record {
      code_is = f;
      within = omega (arith, n, g);
      rest = ap (λ ss. held ss h ls) (take_all below sigs (omega (arith, g)));
      here = λ k. absurd (let c : ⊥ = omega (arith, n, g, k) in c);
    }

module _ (cells : List ℕ) (rows : List Row) (hs : List ℕ) (h : Head) (ls : List ℕ) (code below place : ℕ) (e : hs ≡ map hash (map (signature cells) rows)) (s : Seeks (map (signature cells) rows) hs h ls code below) where
  abbrev pub sigs : List Signature
  sigs = map (signature cells) rows

  many : length hs ≡ length rows
  many = ap length e ∙ (length-map (map (signature cells) rows) hash ∙ length-map rows (signature cells))

  last_at : last_below hs code below ≡ last_where (hashed h ls (map hash sigs)) below
  last_at = ap (λ c. last_below hs c below) s.code_is ∙ ap (λ zs. last_below zs (hash_of h ls) below) e

  pub seek_none : None ≡ last_below hs code below → None ≡ held sigs h ls
  seek_none g = sym (sym s.rest ∙ held_none h ls sigs below (let w = s.within in let n = length-map rows (signature cells) in omega (arith, w, many, n)) (sym (g ∙ last_at)))

  module _ (found : Some place ≡ last_below hs code below) where
    last : IsLast (λ i. nat_eq (get_or hs i 0) code) below place
    last = is_last _ below place (sym found)

    pub place_in : place < length rows
    place_in = let w = s.within in let b = last.below in omega (arith, w, b, many)

    pub place_less : place < below
    place_less = last.below

    module _ (r : Row) (at : slice_get rows place ≡ Some r) where
      step : or_this h ls (held (take place sigs) h ls) (signature cells r) ≡ held sigs h ls
      step =
          sym (held_next h ls sigs place (signature cells r) (map_get (signature cells) rows place r at))
          ∙ (sym (held_last h ls sigs below place (let w = s.within in let n = length-map rows (signature cells) in omega (arith, w, many, n)) (sym (found ∙ last_at))) ∙ s.rest)

      pub seek_found : is_for h ls (signature cells r) ≡ true → Some r.term ≡ held sigs h ls
      seek_found f = sym (ap (λ b. if b then Some r.term else held (take place sigs) h ls) f) ∙ step

      pub seek_on : is_for h ls (signature cells r) ≡ false → Seeks sigs hs h ls code place
      seek_on f = record {
        code_is = s.code_is;
        within = (let w = place_in in omega (arith, w, many));
        rest = sym (ap (λ b. if b then Some r.term else held (take place sigs) h ls) f) ∙ step;
        here = λ k. eq _ _ last.meets;
      }
        where
          eq : (x y : ℕ) → nat_eq x y ≡ true → x ≡ y
          eq x y e = grind (arith, nat_tests)

-- ---- what the functions of the table keep

pub least_of : (n a b d : ℕ) → n ≤ a → n ≤ b → n ≤ d → n ≤ min (min a b) d
least_of n a b d e f g = le-min (le-min e f) g

pub fits_first : (n a b d : ℕ) → n ≤ min (min a b) d → n ≤ a
fits_first n a b d e = let f = min-le_left (min a b) d in let g = min-le_left a b in omega (arith, e, f, g)

pub fits_second : (n a b d : ℕ) → n ≤ min (min a b) d → n ≤ b
fits_second n a b d e = let f = min-le_left (min a b) d in let g = min-le_right a b in omega (arith, e, f, g)

pub fits_third : (n a b d : ℕ) → n ≤ min (min a b) d → n ≤ d
fits_third n a b d e = let f = min-le_right (min a b) d in omega (arith, e, f)

-- the cells of rows that stand one behind the other
pub cells_of-laid : (rows : List Row) (cells : List ℕ) → Laid 0 rows (length cells) → cells_of (map (signature cells) rows) ≡ length rows + length cells
cells_of-laid rows cells laid = let h = cells_are cells 0 rows (length cells) laid (omega arith) in omega (arith, h)

whole_take : (cells more : List ℕ) → take (length more) (drop (length cells) (cells ++ more)) ≡ more
whole_take cells more = ap (λ zs. take (length more) zs) (drop_at cells more (length cells) refl) ∙ take_all (length more) more (omega arith)

pub put_laid : (rows rs : List Row) (cells cs more : List ℕ) (h : Head) (t : TermId) (r : Row) → cs ≡ cells ++ more → rs ≡ rows ++ r ∷ [] → r.start ≡ length cells → r.size ≡ length more
    → Laid 0 rows (length cells) → Laid 0 rs (length cs)
put_laid rows rs cells cs more h t r e f g k laid =
    let n : length cells + r.size ≡ length cs = sym (ap length e ∙ (length-append cells more ∙ ap (λ m. length cells + m) (sym k))) in
    subst (λ xs. Laid 0 xs (length cs)) (sym f) (subst (λ m. Laid 0 (rows ++ r ∷ []) m) n (laid_push 0 rows (length cells) r laid g))

pub put_rows : (rows rs : List Row) (cells cs more : List ℕ) (h : Head) (t : TermId) (old : List Signature) → cs ≡ cells ++ more → rs ≡ rows ++ record { head = h; start = length cells; size = length more; term = t } ∷ []
    → Laid 0 rows (length cells) → map (signature cells) rows ≡ old → map (signature cs) rs ≡ old ++ record { head = h; labels = more; term = t } ∷ []
put_rows rows rs cells cs more h t old e f laid was =
    ap (λ zs. map (signature zs) rs) e
    ∙ (ap (map (signature (cells ++ more))) f
    ∙ (map_push (signature (cells ++ more)) rows _
    ∙ (ap (λ ss. ss ++ sig h (take (length more) (drop (length cells) (cells ++ more))) t ∷ []) (same_signatures cells more 0 rows (length cells) laid (omega arith) ∙ was)
    ∙ ap (λ ls. old ++ sig h ls t ∷ []) (whole_take cells more))))

module _ (rows rs : List Row) (cells cs : List ℕ) (n : ℕ) (r : Row) (at : slice_get rows n ≡ Some r) (laid : Laid 0 rows (length cells)) (e : cs ≡ take r.start cells) (f : rs ≡ take n rows) where
  start_in : r.start ≤ length cells
  start_in = let h = row_within 0 rows (length cells) laid n r at in omega (arith, h)

  len : length cs ≡ r.start
  len = ap length e ∙ length-take-le r.start cells start_in

  pub cut_laid : Laid 0 rs (length cs)
  cut_laid = subst (λ xs. Laid 0 xs (length cs)) (sym f) (subst (λ m. Laid 0 (take n rows) m) (sym len) (laid_take 0 rows (length cells) laid n r at))

  pub cut_rows : map (signature cs) rs ≡ take n (map (signature cells) rows)
  cut_rows =
      let split : cs ++ drop r.start cells ≡ cells = ap (λ zs. zs ++ drop r.start cells) e ∙ take-append-drop r.start cells in
      sym (same_signatures cs (drop r.start cells) 0 rs (length cs) cut_laid (omega arith))
      ∙ (ap (λ zs. map (signature zs) rs) split ∙ (ap (map (signature cells)) f ∙ sym (take-map (signature cells) n rows)))
