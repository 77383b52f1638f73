-- What is spelled is read: parts that may be there, parts that end with a token, and parts behind a word.
use Rattle.std.proofs.Common.{◌≡◌, suc, ◌≤◌, Bool, true, false, ◌||◌, List, [], ◌∷◌, Option, Some, None, length, refl, ap, ◌∙◌, arith}
use Rattle.spv_logic.proofs.list.Tests.{left_false, right_false}
use Rattle.spv_tree.specs.declared.tokens.token.Token.{Token}
use Rattle.spv_tree.specs.declared.tokens.token.TokenKind.{TokenKind}
use Rattle.spv_tree.specs.syntax.Lists.{each, headed}
use Rattle.spv_tree.specs.syntax.Steps.{Step, passes}
use Rattle.spv_tree.specs.syntax.Reads.{kinds}
use Rattle.spv_grammar.specs.reading.Readers.{first, after, is, same_kind, Reader, items, starting, headed_by, optional, ended}
use Rattle.spv_grammar.specs.reading.Parts.{Part, Stands, headed_part, each_part, ended_part}
use Rattle.spv_grammar.proofs.reading.Whole.{Answers, AnswersItem, Complete, CompleteList, Each, front_of, taken_of, if_true, if_false, none_complete, more_complete, done, then_answers, past_answers, answers_after}

-- ---- parts that end with a token

abbrev pub never : Option TokenKind → Bool
never o = false

pub ended_complete : {A : Type 0} (k : TokenKind) (part : Part A) (continues : Option TokenKind → Bool) (item : Reader A) (x : A) → same_kind k k ≡ true → continues (Some k) ≡ false → Complete part continues item x → Complete (ended_part k part) never (ended k item) x
ended_complete k part continues item x same shut h tokens spelled steps s e =
    then_answers (h tokens (k ∷ spelled) (passes ∷ steps) s shut) (λ y is_y mid m. past_answers k same m (λ rest r. done r is_y))

-- ---- parts that may be there

pub absent : {A : Type 0} (k : TokenKind) (part : Reader A) {tokens : List Token} {spelled : List TokenKind} {steps : List Step} → Stands tokens spelled steps → is k (first spelled) ≡ false → Answers (optional k part tokens) None tokens spelled steps
absent k part s e = answers_after (omega arith) (if_false _ (ap (is k) (front_of s) ∙ e) refl) (done s refl)

pub present : {A : Type 0} (k : TokenKind) (part : Reader A) {x : A} {tokens : List Token} {middle spelled : List TokenKind} {between steps : List Step} → same_kind k k ≡ true → Stands tokens (k ∷ middle) (passes ∷ between) → ((mid : List Token) → Stands mid middle between → Answers (part mid) x mid spelled steps) → Answers (optional k part tokens) (Some x) tokens spelled steps
present k part {tokens} same s f =
    let p = taken_of s in
    answers_after (omega (arith, p.shorter)) (if_true _ (ap (is k) p.front ∙ same) refl) (then_answers (f (after tokens) p.stands) (λ y is_y rest r. done r (ap Some is_y)))

-- ---- parts behind a word

pub kinds_length : (tokens : List Token) → length (kinds tokens) ≡ length tokens
kinds_length [] = refl
kinds_length (t ∷ tokens) = ap suc (kinds_length tokens)

-- what stands behind a word and its parts, where there are some
pub headed_ends : {A : Type 0} (p : Option TokenKind → Bool) (k : TokenKind) (spelling : A → List TokenKind → List TokenKind) (xs : List A) (spelled : List TokenKind) → p (Some k) ≡ false → p (first spelled) ≡ false → p (first (headed k spelling xs spelled)) ≡ false
headed_ends p k spelling [] spelled e f = f
headed_ends p k spelling (x ∷ xs) spelled e f = e

module _ {A : Type 0} (part : Part A) (begins : Option TokenKind → Bool) (item : Reader A) (starts : (x : A) (spelled : List TokenKind) → begins (first (part.spelled x spelled)) ≡ true) (longer : (x : A) (spelled : List TokenKind) → suc (length spelled) ≤ length (part.spelled x spelled)) where
  item_answers : (x : A) → Complete part never item x → (tokens : List Token) (spelled : List TokenKind) (steps : List Step) → Stands tokens (part.spelled x spelled) (part.lined x steps) → AnswersItem (starting begins item tokens) x tokens spelled steps
  item_answers x h tokens spelled steps s =
      let a = h tokens spelled steps s refl in
      record {
        rest = a.rest;
        is = if_true _ (ap begins (front_of s) ∙ starts x spelled) (ap Some a.is);
        stands = a.stands;
        shorter = omega (arith, longer x spelled, kinds_length tokens, kinds_length a.rest, ap length s.spelled, ap length a.stands.spelled);
      }

  pub each_complete : (xs : List A) → Each (Complete part never item) xs → CompleteList (each_part part) begins (items [] ◌∷◌ (starting begins item)) xs
  each_complete [] h n tokens spelled steps l s e = none_complete _ _ _ n s (if_false _ (ap begins (front_of s) ∙ e) refl)
  each_complete (x ∷ xs) h n tokens spelled steps l s e =
      let a = item_answers x h.0 tokens (each part.spelled xs spelled) (each part.lined xs steps) s in
      more_complete _ _ _ n l a (λ m b. each_complete xs h.1 m a.rest spelled steps b a.stands e)

  -- the same behind a word
  pub headed_complete : (k : TokenKind) → same_kind k k ≡ true → (xs : List A) → Each (Complete part never item) xs → Complete (headed_part k part) (λ o. is k o || begins o) (headed_by k begins item) xs
  headed_complete k same [] h tokens spelled steps s e = answers_after (omega arith) (if_false _ (ap (is k) (front_of s) ∙ left_false _ _ e) refl) (done s refl)
  headed_complete k same (x ∷ xs) h tokens spelled steps s e =
      let p = taken_of s in
      answers_after (omega (arith, p.shorter)) (if_true _ (ap (is k) p.front ∙ same) refl) (then_answers (h.0 (after tokens) (each part.spelled xs spelled) (each part.lined xs steps) p.stands refl) (λ y is_y mid m. then_answers (each_complete xs h.1 (length mid) mid spelled steps (omega arith) m (right_false (is k (first spelled)) _ e)) (λ ys is_ys rest r. done {y = y ∷ ys} r (cc (is_y, is_ys)))))
