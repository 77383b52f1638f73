-- The line at which tokens go wrong, by how many are left.
use Rattle.std.proofs.Common.{◌≡◌, ℕ, ◌-◌, List, [], ◌∷◌, ◌++◌, length, drop, sym, ap, ◌∙◌, subst, arith}
use Rattle.std.proofs.Math.Seq.{drop-append_seam}
use Rattle.spv_tree.specs.declared.tokens.token.Token.{Token}
use Rattle.spv_tree.specs.syntax.Steps.{first_line}
use Rattle.spv_grammar.specs.first_sets.Lines.{last_line, line_where}
use Rattle.spv_grammar.specs.first_sets.Begins.{Begins, GoesWrongWith, GoesWrongAt, with_token, at_end}
use Rattle.spv_grammar.proofs.first_sets.Among.{length_of, line_at, line_at_end}

last_at : (before : List Token) (t : Token) → last_line (before ++ t ∷ []) ≡ t.line
last_at before t =
    let one_less : length (before ++ t ∷ []) - 1 ≡ length before = omega (arith, length_of before (t ∷ [])) in
    ap (λ n. first_line (drop n (before ++ t ∷ []))) one_less ∙ ap first_line (drop-append_seam before (t ∷ []))

module _ {A : Type 0} (reads : List Token → A → Type 0) where
  pub at_token : (tokens before : List Token) (t : Token) (behind : List Token) (left : ℕ) → tokens ≡ before ++ t ∷ behind → left ≡ length (t ∷ behind) → GoesWrongWith reads before t → GoesWrongAt reads tokens (line_where tokens left)
  at_token tokens before t behind left is many w =
      subst (λ (ts : List Token). GoesWrongAt reads ts (line_where ts left)) (sym is)
      (subst (λ (l : ℕ). GoesWrongAt reads (before ++ t ∷ behind) l) (sym (ap (line_where (before ++ t ∷ behind)) many ∙ line_at before t behind)) (with_token before t behind w))

  pub at_the_end : (tokens : List Token) (left : ℕ) → left ≡ 0 → Begins reads tokens → GoesWrongAt reads tokens (line_where tokens left)
  at_the_end tokens left none b = subst (λ (l : ℕ). GoesWrongAt reads tokens l) (sym (ap (line_where tokens) none ∙ line_at_end tokens)) (at_end tokens b)

  -- the line of the last token is the one, too, where with it they begin a text
  pub at_the_last : (tokens before : List Token) (t : Token) (left : ℕ) → tokens ≡ before ++ t ∷ [] → left ≡ 1 → Begins reads (before ++ t ∷ []) → GoesWrongAt reads tokens (line_where tokens left)
  at_the_last tokens before t left is one b =
      subst (λ (ts : List Token). GoesWrongAt reads ts (line_where ts left)) (sym is)
      (subst (λ (l : ℕ). GoesWrongAt reads (before ++ t ∷ []) l) (last_at before t ∙ sym (ap (line_where (before ++ t ∷ [])) one ∙ line_at before t [])) (at_end (before ++ t ∷ []) b))
