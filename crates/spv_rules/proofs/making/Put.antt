-- The pieces of a term with ids in the place of variables make the term in which their terms stand there.
use Rattle.std.proofs.Common.{◌≡◌, ℕ, suc, ◌+◌, ◌-◌, ◌<◌, Bool, true, false, ◌&&◌, List, [], ◌∷◌, ◌++◌, take, drop, length, Option, Some, None, nat_le, IsTrue, refl, sym, ap, ◌∙◌, subst, arith}
use Rattle.std.specs.Option.{option_map}
use Rattle.std.proofs.lemmas.Bool.Decides.{nat_tests}
use Rattle.std.proofs.lemmas.List.{append_assoc, append-nil, length-append}
use Rattle.std.proofs.Math.Seq.{drop-append_seam, take-append_seam}
use Rattle.spv_logic.proofs.list.Tests.{left_true, right_true}
use Rattle.spv_logic.specs.declared.conditions.TermId.{TermId}
use Rattle.spv_logic.specs.declared.operators.Head.{Head}
use Rattle.spv_logic.specs.Terms.{Term, Terms, term, no_terms, terms, heads_pass, all_heads_pass}
use Rattle.spv_logic.specs.Sorts.{head_in_range, numeral_fits}
use Rattle.spv_logic.specs.Substitution.{Replacement, is_variable, replacement_at, replaced, substitute, substitute_all}
use Rattle.spv_term.specs.Arena.{Arena}
use Rattle.spv_rules.specs.declared.making.pieces.Piece.{Piece}
use Rattle.spv_rules.specs.declared.making.pieces.Piece.TheVariants.{Over}
use Rattle.spv_rules.specs.making.Pieces.{arguments, below, put, put_all, enough, AllStand}
use Rattle.spv_rules.specs.making.Sketching.{count, known_or, pieces_of, pieces_of_all}
use Rattle.spv_rules.proofs.Placed.{may_stand}

abbrev items : Terms → List Term
items no_terms = []
items (terms t ts) = t ∷ items ts

arguments-items : (ts : Terms) → arguments (items ts) ≡ ts
arguments-items no_terms = refl
arguments-items (terms t ts) = ap (terms t) (arguments-items ts)

less_last : (n k : ℕ) → (n + k) - k ≡ n
less_last n k = omega arith

over-last : (at : TermId → Term) (stack xs : List Term) (h : Head) (n : ℕ) → n ≡ length xs → put at (stack ++ xs) (Over h n) ≡ stack ++ term h (arguments xs) ∷ []
over-last at stack xs h n e =
    let k : below n (stack ++ xs) ≡ length stack = (λ i. length-append stack xs i - e i) ∙ less_last (length stack) (length xs) in
    (λ i. take (k i) (stack ++ xs) ++ term h (arguments (drop (k i) (stack ++ xs))) ∷ [])
    ∙ (λ i. take-append_seam stack xs i ++ term h (arguments (drop-append_seam stack xs i)) ∷ [])

module _ (ids : Head → Option TermId) (variables : (h : Head) (u : TermId) → ids h ≡ Some u → is_variable h ≡ true) where
  module _ (at : TermId → Term) where
    abbrev by : Replacement
    by h = option_map at (ids h)

    count-substituted : (ts : Terms) → count ts ≡ length (items (substitute_all by ts))
    count-substituted no_terms = refl
    count-substituted (terms t ts) = ap suc (count-substituted ts)

    kept : (b : Bool) (o : Option Term) (x : Term) → o ≡ None → replaced (replacement_at b o) x ≡ x
    kept true o x e = ap (λ p. replaced p x) e
    kept false o x e = refl

    given : (b : Bool) (o : Option Term) (x u : Term) → b ≡ true → o ≡ Some u → replaced (replacement_at b o) x ≡ u
    given b o x u e f = λ i. replaced (replacement_at (e i) (f i)) x

    by_ids : (h : Head) (ts : Terms) (rest : List Piece) (stack : List Term)
        → put_all at stack (pieces_of_all ids ts ++ Over h (count ts) ∷ rest) ≡ put_all at (stack ++ items (substitute_all by ts)) (Over h (count ts) ∷ rest)
        → (o : Option TermId) → ids h ≡ o
        → put_all at stack (known_or (ids h) (pieces_of_all ids ts ++ Over h (count ts) ∷ []) ++ rest) ≡ put_all at (stack ++ replaced (replacement_at (is_variable h) (by h)) (term h (substitute_all by ts)) ∷ []) rest
    by_ids h ts rest stack later None e =
        let ss = substitute_all by ts in
        ap (λ o. put_all at stack (known_or o (pieces_of_all ids ts ++ Over h (count ts) ∷ []) ++ rest)) e
        ∙ (ap (put_all at stack) (append_assoc (pieces_of_all ids ts) (Over h (count ts) ∷ []) rest)
        ∙ (later
        ∙ (ap (λ s. put_all at s rest) (over-last at stack (items ss) h (count ts) (count-substituted ts))
        ∙ (ap (λ xs. put_all at (stack ++ term h xs ∷ []) rest) (arguments-items ss)
        ∙ ap (λ x. put_all at (stack ++ x ∷ []) rest) (sym (kept (is_variable h) (by h) (term h ss) (ap (option_map at) e)))))))
    by_ids h ts rest stack later (Some u) e =
        ap (λ o. put_all at stack (known_or o (pieces_of_all ids ts ++ Over h (count ts) ∷ []) ++ rest)) e
        ∙ ap (λ x. put_all at (stack ++ x ∷ []) rest) (sym (given (is_variable h) (by h) (term h (substitute_all by ts)) (at u) (variables h u e) (ap (option_map at) e)))

    mutual
      pub put-term : (t : Term) (rest : List Piece) (stack : List Term) → put_all at stack (pieces_of ids t ++ rest) ≡ put_all at (stack ++ substitute by t ∷ []) rest
      put-term (term h ts) rest stack = by_ids h ts rest stack (put-terms ts (Over h (count ts) ∷ rest) stack) (ids h) refl

      put-terms : (ts : Terms) (rest : List Piece) (stack : List Term) → put_all at stack (pieces_of_all ids ts ++ rest) ≡ put_all at (stack ++ items (substitute_all by ts)) rest
      put-terms no_terms rest stack = ap (λ s. put_all at s rest) (sym (append-nil stack))
      put-terms (terms t ts) rest stack =
          ap (put_all at stack) (append_assoc (pieces_of ids t) (pieces_of_all ids ts) rest)
          ∙ (put-term t (pieces_of_all ids ts ++ rest) stack
          ∙ (put-terms ts rest (stack ++ substitute by t ∷ []) ∙ ap (λ s. put_all at s rest) (append_assoc stack (substitute by t ∷ []) (items (substitute_all by ts)))))

  -- ---- there are enough

  le_sum : (n k : ℕ) → nat_le k (n + k) ≡ true
  le_sum n k = grind (arith, nat_tests)

  enough-ids : (h : Head) (ts : Terms) (rest : List Piece) (n : ℕ) → enough n (pieces_of_all ids ts ++ Over h (count ts) ∷ rest) ≡ enough (n + count ts) (Over h (count ts) ∷ rest)
      → (o : Option TermId) → ids h ≡ o → enough n (known_or (ids h) (pieces_of_all ids ts ++ Over h (count ts) ∷ []) ++ rest) ≡ enough (suc n) rest
  enough-ids h ts rest n later None e =
      ap (λ o. enough n (known_or o (pieces_of_all ids ts ++ Over h (count ts) ∷ []) ++ rest)) e
      ∙ (ap (enough n) (append_assoc (pieces_of_all ids ts) (Over h (count ts) ∷ []) rest)
      ∙ (later ∙ (λ i. le_sum n (count ts) i && enough (suc (less_last n (count ts) i)) rest)))
  enough-ids h ts rest n later (Some u) e = ap (λ o. enough n (known_or o (pieces_of_all ids ts ++ Over h (count ts) ∷ []) ++ rest)) e

  mutual
    pub enough-term : (t : Term) (rest : List Piece) (n : ℕ) → enough n (pieces_of ids t ++ rest) ≡ enough (suc n) rest
    enough-term (term h ts) rest n = enough-ids h ts rest n (enough-terms ts (Over h (count ts) ∷ rest) n) (ids h) refl

    enough-terms : (ts : Terms) (rest : List Piece) (n : ℕ) → enough n (pieces_of_all ids ts ++ rest) ≡ enough (n + count ts) rest
    enough-terms no_terms rest n = ap (λ k. enough k rest) (let e : n ≡ n + 0 = omega arith in e)
    enough-terms (terms t ts) rest n =
        ap (enough n) (append_assoc (pieces_of ids t) (pieces_of_all ids ts) rest)
        ∙ (enough-term t (pieces_of_all ids ts ++ rest) n ∙ (enough-terms ts rest (suc n) ∙ ap (λ k. enough k rest) (let e : suc n + count ts ≡ n + suc (count ts) = omega arith in e)))

  -- ---- they stand

  module _ (b : Arena) (there : (h : Head) (u : TermId) → ids h ≡ Some u → u.0 < length b.nodes) where
    abbrev good : Head → Bool
    good = may_stand b.shapes

    stand-ids : (h : Head) (ts : Terms) (rest : List Piece) → AllStand b (pieces_of_all ids ts ++ Over h (count ts) ∷ rest) → AllStand b rest
        → (o : Option TermId) → ids h ≡ o → AllStand b (known_or (ids h) (pieces_of_all ids ts ++ Over h (count ts) ∷ []) ++ rest)
    stand-ids h ts rest later others None e =
        subst (λ o. AllStand b (known_or o (pieces_of_all ids ts ++ Over h (count ts) ∷ []) ++ rest)) (sym e)
        (subst (AllStand b) (sym (append_assoc (pieces_of_all ids ts) (Over h (count ts) ∷ []) rest)) later)
    stand-ids h ts rest later others (Some u) e = subst (λ o. AllStand b (known_or o (pieces_of_all ids ts ++ Over h (count ts) ∷ []) ++ rest)) (sym e) (there h u e, others)

    mutual
      pub stand-term : (t : Term) (rest : List Piece) → heads_pass good t ≡ true → AllStand b rest → AllStand b (pieces_of ids t ++ rest)
      stand-term (term h ts) rest all others =
          let here = left_true (good h) (all_heads_pass good ts) all in
          let one : IsTrue (head_in_range b.shapes h) × IsTrue (numeral_fits h) = (left_true (head_in_range b.shapes h) (numeral_fits h) here, right_true (head_in_range b.shapes h) (numeral_fits h) here) in
          stand-ids h ts rest (stand-terms ts (Over h (count ts) ∷ rest) (right_true (good h) (all_heads_pass good ts) all) (one, others)) others (ids h) refl

      stand-terms : (ts : Terms) (rest : List Piece) → all_heads_pass good ts ≡ true → AllStand b rest → AllStand b (pieces_of_all ids ts ++ rest)
      stand-terms no_terms rest all others = others
      stand-terms (terms t ts) rest all others =
          subst (AllStand b) (sym (append_assoc (pieces_of ids t) (pieces_of_all ids ts) rest))
          (stand-term t (pieces_of_all ids ts ++ rest) (left_true (heads_pass good t) (all_heads_pass good ts) all) (stand-terms ts rest (right_true (heads_pass good t) (all_heads_pass good ts) all) others))
