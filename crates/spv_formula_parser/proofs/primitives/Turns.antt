-- The turns of a loop over items.
use Rattle.std.proofs.Common.{◌≤◌, Bool, true, false, if◌then◌else◌, ◌≡◌, ℕ, zero, suc, ◌+◌, ◌-◌, ◌<◌, arith, List, [], ◌∷◌, ◌++◌, refl, sym, ap, ◌∙◌, subst}
use Rattle.std.specs.Prelude.{Some, None, length}
use Rattle.spv_tree.specs.declared.tokens.token.Token.{Token}
use Rattle.spv_grammar.specs.reading.Readers.{Stop, Outcome, Read, Halted, Next, and_then, items, items_by, all_items}
use Rattle.spv_formula_parser.specs.primitives.Lists.{put, ItemsSoFar}

put-snoc : {A L : Type 0} (add : A → L → L) (xs : List A) (x : A) (others : L) → put add (xs ++ x ∷ []) others ≡ put add xs (add x others)
put-snoc add [] x others = refl
put-snoc add (y ∷ xs) x others = ap (add y) (put-snoc add xs x others)

module _ {A L : Type 0} (none : L) (add : A → L → L) (next : Next A) where
  -- what is read behind these items
  behind_all : List A → Outcome L → Outcome L
  behind_all done o = and_then o (λ others behind. Read (put add done others, behind))

  same_by : (r : Outcome L) → r ≡ and_then r (λ others behind. Read (others, behind))
  same_by (Halted s) = refl
  same_by (Read r) = refl

  -- a further item, whatever the rest makes of it
  one_more : (r : Outcome L) (done : List A) (x : A) → and_then (and_then r (λ xs rest. Read (add x xs, rest))) (λ others behind. Read (put add done others, behind)) ≡ and_then r (λ others behind. Read (put add (done ++ x ∷ []) others, behind))
  one_more (Halted s) done x = refl
  one_more (Read r) done x = λ i. Read (sym (put-snoc add done x r.0) i, r.1)

  none_more : (left : ℕ) (rest : List Token) → next rest ≡ None → items none add next left rest ≡ Read (none, rest)
  none_more zero rest e = refl
  none_more (suc left) rest e = ap (λ o. items_by none add (items none add next left) o rest) e

  one_left : (end counter : ℕ) (rest : List Token) → counter < end → items none add next (end - counter) rest ≡ items_by none add (items none add next (end - (counter + 1))) (next rest) rest
  one_left end counter rest below =
      let is_suc : end - counter ≡ suc (end - (counter + 1)) = omega (arith, below) in
      ap (λ n. items none add next n rest) is_suc

-- before the first turn
pub going : {A L : Type 0} {none : L} {add : A → L → L} {next : Next A} {tokens : List Token} {done : List A} → done ≡ [] → ItemsSoFar none add next (all_items none add next tokens) (length tokens) 0 done tokens
going {A} {L} {none} {add} {next} {tokens} {done} e =
    let is_same : length tokens - 0 ≡ length tokens = omega arith in
    let first : ItemsSoFar none add next (all_items none add next tokens) (length tokens) 0 [] tokens =
    record { same = same_by none add next (all_items none add next tokens) ∙ ap (λ n. and_then (items none add next n tokens) (λ others behind. Read (others, behind))) (sym is_same) } in
    subst (λ xs. ItemsSoFar none add next (all_items none add next tokens) (length tokens) 0 xs tokens) (sym e) first

module _ {A L : Type 0} {none : L} {add : A → L → L} {next : Next A} {total : Outcome L} {end counter : ℕ} {done : List A} {rest : List Token} where
  -- a further item
  pub turn : {x : A} {mid : List Token} {all : List A} → ItemsSoFar none add next total end counter done rest → counter < end → next rest ≡ Some (Read (x, mid)) → all ≡ done ++ x ∷ [] → ItemsSoFar none add next total end (counter + 1) all mid
  turn {x} {mid} {all} g below e f =
      let one : ItemsSoFar none add next total end (counter + 1) (done ++ x ∷ []) mid =
      record {
        same = g.same
            ∙ ap (λ o. and_then o (λ others behind. Read (put add done others, behind))) (one_left none add next end counter rest below)
            ∙ ap (λ o. and_then (items_by none add (items none add next (end - (counter + 1))) o rest) (λ others behind. Read (put add done others, behind))) e
            ∙ one_more none add next (items none add next (end - (counter + 1)) mid) done x;
      } in
      subst (λ xs. ItemsSoFar none add next total end (counter + 1) xs mid) (sym f) one

  -- no further item begins
  pub stopped : ItemsSoFar none add next total end counter done rest → next rest ≡ None → total ≡ Read (put add done none, rest)
  stopped g e = g.same ∙ ap (λ o. and_then o (λ others behind. Read (put add done others, behind))) (none_more none add next (end - counter) rest e)

  -- a further item begins, and reading it stops
  pub failed : {s : Stop} → ItemsSoFar none add next total end counter done rest → counter < end → next rest ≡ Some (Halted s) → total ≡ Halted s
  failed g below e = g.same
      ∙ ap (λ o. and_then o (λ others behind. Read (put add done others, behind))) (one_left none add next end counter rest below)
      ∙ ap (λ o. and_then (items_by none add (items none add next (end - (counter + 1))) o rest) (λ others behind. Read (put add done others, behind))) e

  -- all turns are over
  pub over : ItemsSoFar none add next total end counter done rest → end ≤ counter → total ≡ Read (put add done none, rest)
  over g above =
      let is_zero : end - counter ≡ 0 = omega (arith, above) in
      g.same ∙ ap (λ n. and_then (items none add next n rest) (λ others behind. Read (put add done others, behind))) is_zero

-- ---- an item behind a word or sign

pub when_absent : {X : Type 0} {b : Bool} (x : X) → false ≡ b → (if b then Some x else None) ≡ None
when_absent {X} {b} x e = ap (λ c. if c then Some x else None) (sym e)

pub when_there : {X Y : Type 0} {b : Bool} {t mid : X} {y : Y} (item : X → Y) → true ≡ b → mid ≡ t → item mid ≡ y → (if b then Some (item t) else None) ≡ Some y
when_there {X} {Y} {b} {t} {mid} {y} item e m f = ap (λ c. if c then Some (item t) else None) (sym e) ∙ ap (λ z. Some z) (ap item (sym m) ∙ f)

-- the items of a list, in front of none
pub put-list : {A : Type 0} (xs : List A) → put ◌∷◌ xs [] ≡ xs
put-list [] = refl
put-list (x ∷ xs) = ap (λ l. x ∷ l) (put-list xs)
