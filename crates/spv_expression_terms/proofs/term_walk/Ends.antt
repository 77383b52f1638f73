-- What is written is the postfix of the term.
use Rattle.std.proofs.Common.{◌≡◌, List, [], ◌∷◌, ◌++◌, refl, sym, ap, ◌∙◌, OnOk, Result}
use Rattle.std.specs.declared.alloc.AllocError.{AllocError}
use Rattle.std.proofs.lemmas.List.{append_assoc, append-nil}
use Rattle.std.proofs.lemmas.Result.{on_ok_weaker}
use Rattle.spv_logic.specs.Terms.{Term, Terms, term, no_terms, terms}
use Rattle.spv_expression_terms.specs.declared.postfix.pieces.Piece.{Piece}
use Rattle.spv_expression_terms.specs.postfix.Postfix.{piece, count_of, postfix, postfix_all}
use Rattle.spv_expression_terms.specs.term_walk.Written.{written, written_all, Writes}

mutual
  written_is : (t : Term) (rest : List Piece) → written t rest ≡ postfix t ++ rest
  written_is (term h ts) rest = all_written_is ts (piece h (count_of ts) ∷ rest) ∙ sym (append_assoc (postfix_all ts) (piece h (count_of ts) ∷ []) rest)

  all_written_is : (ts : Terms) (rest : List Piece) → written_all ts rest ≡ postfix_all ts ++ rest
  all_written_is no_terms rest = refl
  all_written_is (terms t ts) rest =
      written_is t (written_all ts rest) ∙ (ap (λ (more : List Piece). postfix t ++ more) (all_written_is ts rest) ∙ sym (append_assoc (postfix t) (postfix_all ts) rest))

-- a term that is written stands behind what was there
pub ends_at : (r : Result (Unit {0}) AllocError) (t : Term) (old new : List Piece) → OnOk r (Writes t old new) → OnOk r (new ≡ old ++ postfix t)
ends_at r t old new h = on_ok_weaker r end h
  where
    end : Writes t old new → new ≡ old ++ postfix t
    end w = sym (append-nil new) ∙ (w [] ∙ ap (λ (more : List Piece). old ++ more) (written_is t [] ∙ append-nil (postfix t)))
