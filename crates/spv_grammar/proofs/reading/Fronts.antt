-- What the first token says.
use Rattle.std.proofs.Common.{◌≡◌, ℕ, true, ◌&&◌, List, [], ◌∷◌, Option, Some, None, refl, ap, ◌∙◌}
use Rattle.std.proofs.lemmas.Bool.{false≢true, eq-eqb}
use denote.Enum.Bare.{same_true}
use Rattle.spv_tree.specs.declared.tokens.token.Token.{Token}
use Rattle.spv_tree.specs.declared.tokens.token.TokenKind.{TokenKind}
use Rattle.spv_tree.specs.declared.tokens.token.TokenKind.TheVariants as kind
use Rattle.spv_tree.specs.contracts.tokens.token.Word.{the_type as words}
use Rattle.spv_tree.specs.contracts.tokens.token.Sign.{the_type as signs}
use Rattle.spv_tree.specs.syntax.Steps.{Step, begins, passes, first_line, lines_agree}
use Rattle.spv_tree.specs.syntax.Reads.{kinds}
use Rattle.spv_grammar.specs.reading.Readers.{Read, first, front, after, same_kind, is}
use Rattle.spv_grammar.specs.reading.Parts.{InFront}

pub front_is : (tokens : List Token) → front tokens ≡ first (kinds tokens)
front_is [] = refl
front_is (t ∷ tokens) = refl

-- the first token is this one, and these are behind it
abbrev pub Passed : TokenKind → List Token → List Token → Type 0
Passed k tokens rest = InFront (λ ks. k ∷ ks) (λ steps. passes ∷ steps) tokens rest

pub some_is : {A : Type 0} (x y : A) → Some x ≡ Some y → x ≡ y
some_is x y e = cc

pub read_is : {A : Type 0} (r s : A × List Token) → Read r ≡ Read s → r ≡ s
read_is r s e = cc

pub passed : (k : TokenKind) (tokens : List Token) → front tokens ≡ Some k → Passed k tokens (after tokens)
unfolding lines_agree
passed k [] e = absurd (cc)
passed k (t ∷ tokens) e = record {
  spelled = ap (λ l. l ∷ kinds tokens) (some_is t.kind k e);
  lined = λ steps. refl;
}

pub same_kind-true : (k l : TokenKind) → same_kind k l ≡ true → k ≡ l
same_kind-true (kind.Word v) (kind.Word w) h = ap kind.Word (same_true words tt v w h)
same_kind-true (kind.Sign s) (kind.Sign t) h = ap kind.Sign (same_true signs tt s t h)
same_kind-true _ _ h = absurd (false≢true h)

pub is-true : (k : TokenKind) (o : Option TokenKind) → is k o ≡ true → o ≡ Some k
is-true k None h = absurd (false≢true h)
is-true k (Some l) h = ap Some (same_kind-true l k h)

-- a part that begins at the first token has its line
pub begun : (tokens : List Token) (steps : List Step) → lines_agree (begins (first_line tokens) ∷ steps) tokens ≡ lines_agree steps tokens
unfolding lines_agree
begun tokens steps = ap (λ b. b && lines_agree steps tokens) (eq-eqb (first_line tokens) (first_line tokens) refl)

pub begins_at : (tokens : List Token) (line : ℕ) (steps : List Step) → line ≡ first_line tokens → lines_agree (begins line ∷ steps) tokens ≡ lines_agree steps tokens
begins_at tokens line steps e = ap (λ l. lines_agree (begins l ∷ steps) tokens) e ∙ begun tokens steps

-- ---- one behind the other

module _ {f : List TokenKind → List TokenKind} {g : List Step → List Step} {tokens mid : List Token} where
  pub join : {p : List TokenKind → List TokenKind} {q : List Step → List Step} {rest : List Token} → InFront f g tokens mid → InFront p q mid rest → InFront (λ ks. f (p ks)) (λ steps. g (q steps)) tokens rest
  join {p} {q} a b = record { spelled = a.spelled ∙ ap f b.spelled; lined = λ steps. a.lined (q steps) ∙ b.lined steps }

  -- what begins at the first token
  pub starting_at : (line : ℕ) → line ≡ first_line tokens → InFront f g tokens mid → InFront f (λ steps. begins line ∷ g steps) tokens mid
  starting_at line e a = record { spelled = a.spelled; lined = λ steps. begins_at tokens line (g steps) e ∙ a.lined steps }

  pub started : InFront f g tokens mid → InFront f (λ steps. begins (first_line tokens) ∷ g steps) tokens mid
  started a = starting_at (first_line tokens) refl a
