-- The pieces of a term, gone through with a stack, leave the term alone on it.
use Rattle.std.proofs.Common.{◌≡◌, suc, ◌+◌, ◌≤◌, List, [], ◌∷◌, ◌++◌, take, drop, length, refl, sym, ap, ◌∙◌, arith}
use Rattle.std.proofs.lemmas.List.{append_assoc, append-nil, length-append, take_at, drop_at}
use Rattle.spv_logic.specs.declared.operators.Head.{Head}
use Rattle.spv_logic.specs.Terms.{Term, Terms, term, no_terms, terms}
use Rattle.spv_expression_terms.specs.declared.postfix.pieces.Piece.{Piece}
use Rattle.spv_expression_terms.specs.postfix.Postfix.{piece, count_of, postfix, postfix_all}
use Rattle.spv_expression_terms.specs.postfix.Stack.{arguments, kept, over_last, applied}

abbrev pub list_of : Terms → List Term
list_of no_terms = []
list_of (terms t ts) = t ∷ list_of ts

arguments-list : (ts : Terms) → arguments (list_of ts) ≡ ts
arguments-list no_terms = refl
arguments-list (terms t ts) = ap (terms t) (arguments-list ts)

length-list : (ts : Terms) → length (list_of ts) ≡ count_of ts
length-list no_terms = refl
length-list (terms t ts) = ap suc (length-list ts)

-- a head over the terms that were put last
module _ (stack : List Term) (h : Head) (ts : Terms) where
  pub count_is : length (stack ++ list_of ts) ≡ length stack + count_of ts
  count_is = length-append stack (list_of ts) ∙ ap (λ n. length stack + n) (length-list ts)

  kept_is : kept (piece h (count_of ts)) (stack ++ list_of ts) ≡ length stack
  kept_is = let e = count_is in omega (arith, e)

  pub enough : count_of ts ≤ length (stack ++ list_of ts)
  enough = let e = count_is in omega (arith, e)

  pub over_last_is : over_last (piece h (count_of ts)) (stack ++ list_of ts) ≡ term h ts
  over_last_is =
      ap (λ n. term h (arguments (drop n (stack ++ list_of ts)))) kept_is
      ∙ ap (λ us. term h (arguments us)) (drop_at stack (list_of ts) (length stack) refl) ∙ ap (term h) (arguments-list ts)

  pub applied_is : applied (piece h (count_of ts)) (stack ++ list_of ts) ≡ stack ++ term h ts ∷ []
  applied_is =
      let stay : take (kept (piece h (count_of ts)) (stack ++ list_of ts)) (stack ++ list_of ts) ≡ stack =
      ap (λ n. take n (stack ++ list_of ts)) kept_is ∙ take_at stack (list_of ts) (length stack) refl in
      let made = over_last_is in
      λ i. stay i ++ made i ∷ []

-- ---- what pieces make of a stack

abbrev run : List Term → List Piece → List Term
run stack [] = stack
run stack (p ∷ ps) = run (applied p stack) ps

mutual
  run_term : (t : Term) (stack : List Term) (ps : List Piece) → run stack (postfix t ++ ps) ≡ run (stack ++ t ∷ []) ps
  run_term (term h ts) stack ps =
      ap (run stack) (append_assoc (postfix_all ts) (piece h (count_of ts) ∷ []) ps)
      ∙ (run_terms ts stack (piece h (count_of ts) ∷ ps) ∙ ap (λ s. run s ps) (applied_is stack h ts))

  run_terms : (ts : Terms) (stack : List Term) (ps : List Piece) → run stack (postfix_all ts ++ ps) ≡ run (stack ++ list_of ts) ps
  run_terms no_terms stack ps = ap (λ s. run s ps) (sym (append-nil stack))
  run_terms (terms t ts) stack ps =
      ap (run stack) (append_assoc (postfix t) (postfix_all ts) ps)
      ∙ (run_term t stack (postfix_all ts ++ ps) ∙ (run_terms ts (stack ++ t ∷ []) ps ∙ ap (λ s. run s ps) (append_assoc stack (t ∷ []) (list_of ts))))

run_alone : (t : Term) → run [] (postfix t) ≡ t ∷ []
run_alone t = ap (run []) (sym (append-nil (postfix t))) ∙ run_term t [] []

-- pieces are those of one term at most
pub postfix-unique : (t u : Term) → postfix t ≡ postfix u → t ≡ u
postfix-unique t u e =
    let same : t ∷ [] ≡ u ∷ [] = sym (run_alone t) ∙ (ap (run []) e ∙ run_alone u) in
    cc
