-- What is spelled is read: how this goes through the ways to put readers together.
use Rattle.std.proofs.Common.{◌≡◌, ℕ, zero, suc, ◌<◌, ◌≤◌, Bool, true, false, ◌||◌, List, [], ◌∷◌, Option, Some, None, is_some, length, refl, sym, ap, ◌∙◌, if◌then◌else◌, nat_eq, arith}
use Rattle.std.proofs.lemmas.Bool.{false≢true, eqb-true}
use Rattle.spv_logic.proofs.list.Tests.{left_true, right_true, left_false, right_false}
use Rattle.spv_tree.specs.declared.tokens.token.Token.{Token}
use Rattle.spv_tree.specs.declared.tokens.token.TokenKind.{TokenKind}
use Rattle.spv_tree.specs.declared.tokens.token.TokenKind.TheVariants as kind
use Rattle.spv_tree.specs.declared.syntax.lists.Several.{Several}
use Rattle.spv_tree.specs.declared.syntax.names.Name.{Name}
use Rattle.spv_tree.specs.syntax.Lists.{further}
use Rattle.spv_tree.specs.syntax.Steps.{Step, begins, passes, first_line, lines_agree}
use Rattle.spv_tree.specs.syntax.Reads.{kinds}
use Rattle.spv_grammar.specs.reading.Readers.{Outcome, Read, first, front, after, is, same_kind, Reader, and_then, past, name_of, name, Next, behind, operated, items_by, items, several_of}
use Rattle.spv_grammar.specs.reading.Parts.{Part, Stands, name_part, led, several_part}
use Rattle.spv_grammar.proofs.reading.Fronts.{front_is}

-- the part is read, and the rest stands behind it
pub record Answers {A : Type 0} (read : Outcome A) (x : A) (tokens : List Token) (spelled : List TokenKind) (steps : List Step) : Type 0 where
  pub rest : List Token
  pub is : read ≡ Read (x, rest)
  pub stands : Stands rest spelled steps
  pub shorter : length rest ≤ length tokens

-- the same of an item, which has a token
pub record AnswersItem {A : Type 0} (read : Option (Outcome A)) (x : A) (tokens : List Token) (spelled : List TokenKind) (steps : List Step) : Type 0 where
  pub rest : List Token
  pub is : read ≡ Some (Read (x, rest))
  pub stands : Stands rest spelled steps
  pub shorter : length rest < length tokens

-- wherever the part is spelled and does not go on it is read
abbrev pub Complete : {A : Type 0} → Part A → (Option TokenKind → Bool) → Reader A → A → Type 0
Complete part continues read x =
    (tokens : List Token) (spelled : List TokenKind) (steps : List Step) → Stands tokens (part.spelled x spelled) (part.lined x steps) → continues (first spelled) ≡ false → Answers (read tokens) x tokens spelled steps

abbrev pub CompleteItem : {A : Type 0} → Part A → (Option TokenKind → Bool) → Next A → A → Type 0
CompleteItem part continues next x =
    (tokens : List Token) (spelled : List TokenKind) (steps : List Step) → Stands tokens (part.spelled x spelled) (part.lined x steps) → continues (first spelled) ≡ false → AnswersItem (next tokens) x tokens spelled steps

-- with n items at most, where there are not more tokens
abbrev pub CompleteList : {L : Type 0} → Part L → (Option TokenKind → Bool) → (ℕ → Reader L) → L → Type 0
CompleteList list continues read xs =
    (n : ℕ) (tokens : List Token) (spelled : List TokenKind) (steps : List Step) → length tokens ≤ n → Stands tokens (list.spelled xs spelled) (list.lined xs steps) → continues (first spelled) ≡ false → Answers (read n tokens) xs tokens spelled steps

-- ---- the first token

pub front_of : {tokens : List Token} {spelled : List TokenKind} {steps : List Step} → Stands tokens spelled steps → front tokens ≡ first spelled
front_of {tokens} h = front_is tokens ∙ ap first h.spelled

pub record Begun (tokens : List Token) (n : ℕ) (spelled : List TokenKind) (steps : List Step) : Type 0 where
  pub line : first_line tokens ≡ n
  pub stands : Stands tokens spelled steps

agree_line : (tokens : List Token) (line : ℕ) (steps : List Step) → lines_agree (begins line ∷ steps) tokens ≡ true → (first_line tokens ≡ line) × (lines_agree steps tokens ≡ true)
unfolding lines_agree
agree_line tokens line steps h =
    (sym (eqb-true line (first_line tokens) (left_true _ _ h)), right_true (nat_eq line (first_line tokens)) _ h)

pub begun_of : {tokens : List Token} {line : ℕ} {spelled : List TokenKind} {steps : List Step} → Stands tokens spelled (begins line ∷ steps) → Begun tokens line spelled steps
begun_of {tokens} {line} {spelled} {steps} h =
    let a = agree_line tokens line steps h.lined in
    record { line = a.0; stands = record { spelled = h.spelled; lined = a.1 } }

pub record Taken (k : TokenKind) (tokens : List Token) (spelled : List TokenKind) (steps : List Step) : Type 0 where
  pub front : front tokens ≡ Some k
  pub stands : Stands (after tokens) spelled steps
  pub shorter : length (after tokens) < length tokens

head_is : (k l : TokenKind) (ks ls : List TokenKind) → k ∷ ks ≡ l ∷ ls → (k ≡ l) × (ks ≡ ls)
head_is k l ks ls e = (cc, cc)

pub taken_of : {k : TokenKind} {tokens : List Token} {spelled : List TokenKind} {steps : List Step} → Stands tokens (k ∷ spelled) (passes ∷ steps) → Taken k tokens spelled steps
unfolding lines_agree
taken_of {tokens = []} h = absurd (cc (h.spelled))
taken_of {k} {tokens = t ∷ tokens} {spelled} h =
    let e = head_is t.kind k (kinds tokens) spelled h.spelled in
    record { front = ap Some e.0; stands = record { spelled = e.1; lined = h.lined }; shorter = omega arith }

-- ---- readers

pub and_then_is : {A B : Type 0} {read : Outcome A} {x : A} {mid : List Token} {o : Outcome B} (next : A → List Token → Outcome B) → read ≡ Read (x, mid) → next x mid ≡ o → and_then read next ≡ o
and_then_is {x} {mid} next e f = ap (λ r. and_then r next) e ∙ f

pub if_true : {A : Type 0} {b : Bool} {x o : A} (y : A) → b ≡ true → x ≡ o → (if b then x else y) ≡ o
if_true {x} y e f = ap (λ c. if c then x else y) e ∙ f

pub if_false : {A : Type 0} {b : Bool} {y o : A} (x : A) → b ≡ false → y ≡ o → (if b then x else y) ≡ o
if_false {y} x e f = ap (λ c. if c then x else y) e ∙ f

pub past_is : {B : Type 0} {o : Outcome B} (k : TokenKind) (tokens : List Token) (next : List Token → Outcome B) → is k (front tokens) ≡ true → next (after tokens) ≡ o → past k tokens next ≡ o
past_is k tokens next e f = if_true _ e f

pub operated_is : {O A : Type 0} {o : Option O} {operator : O} {x : A} {rest : List Token} (item : Reader A) (tokens : List Token) → o ≡ Some operator → item (after tokens) ≡ Read (x, rest) → operated o item tokens ≡ Some (Read ((operator, x), rest))
operated_is {operator} item tokens e f = ap (λ a. operated a item tokens) e ∙ ap (λ r. Some (and_then r (λ y others. Read ((operator, y), others)))) f

pub operated_none : {O A : Type 0} {o : Option O} (item : Reader A) (tokens : List Token) → o ≡ None → operated o item tokens ≡ None
operated_none item tokens e = ap (λ a. operated a item tokens) e

-- ---- lists

pub items_none : {A L : Type 0} (none : L) (add : A → L → L) (next : Next A) (n : ℕ) (tokens : List Token) → next tokens ≡ None → items none add next n tokens ≡ Read (none, tokens)
items_none none add next zero tokens e = refl
items_none none add next (suc n) tokens e = ap (λ r. items_by none add (items none add next n) r tokens) e

pub items_more : {A L : Type 0} (none : L) (add : A → L → L) (next : Next A) (n : ℕ) (tokens mid rest : List Token) (x : A) (xs : L) → next tokens ≡ Some (Read (x, mid)) → items none add next n mid ≡ Read (xs, rest) → items none add next (suc n) tokens ≡ Read (add x xs, rest)
items_more none add next n tokens mid rest x xs e f =
    ap (λ r. items_by none add (items none add next n) r tokens) e ∙ ap (λ r. and_then r (λ ys others. Read (add x ys, others))) f

-- a list is none
pub none_complete : {A L : Type 0} (none : L) (add : A → L → L) (next : Next A) (n : ℕ) {tokens : List Token} {spelled : List TokenKind} {steps : List Step} → Stands tokens spelled steps → next tokens ≡ None → Answers (items none add next n tokens) none tokens spelled steps
none_complete none add next n {tokens} h e = record { rest = tokens; is = items_none none add next n tokens e; stands = h; shorter = omega arith }

-- or an item in front of others
pub more_complete : {A L : Type 0} (none : L) (add : A → L → L) (next : Next A) (n : ℕ) {tokens : List Token} {x : A} {xs : L} {middle spelled : List TokenKind} {between steps : List Step} → length tokens ≤ n → (a : AnswersItem (next tokens) x tokens middle between) → ((m : ℕ) → length a.rest ≤ m → Answers (items none add next m a.rest) xs a.rest spelled steps) → Answers (items none add next n tokens) (add x xs) tokens spelled steps
more_complete none add next zero l a others = absurd (omega (arith, a.shorter))
more_complete none add next (suc n) {tokens} {x} {xs} l a others =
    let b = others n (omega (arith, a.shorter)) in
    record { rest = b.rest; is = items_more none add next n tokens a.rest b.rest x xs a.is b.is; stands = b.stands; shorter = omega (arith, a.shorter, b.shorter) }

-- ---- tests

pub none_of : {A : Type 0} (o : Option A) → is_some o ≡ false → o ≡ None
none_of None h = refl
none_of (Some x) h = absurd (false≢true (sym h))

-- ---- names

pub name_is : (tokens : List Token) (x : Name) → front tokens ≡ Some (kind.Name x.symbol) → first_line tokens ≡ x.line → name tokens ≡ Read (x, after tokens)
name_is tokens x e l = ap (λ o. name_of o tokens) e ∙ ap (λ line. Read (record { line = line; symbol = x.symbol }, after tokens)) l

pub name_complete : (x : Name) {tokens : List Token} {spelled : List TokenKind} {steps : List Step} → Stands tokens (name_part.spelled x spelled) (name_part.lined x steps) → Answers (name tokens) x tokens spelled steps
name_complete x {tokens} h =
    let b = begun_of h in
    let p = taken_of b.stands in
    record { rest = after tokens; is = name_is tokens x p.front b.line; stands = p.stands; shorter = omega (arith, p.shorter) }

-- ---- items behind a token

pub behind_none : {A : Type 0} (k : TokenKind) (item : Reader A) (tokens : List Token) → is k (front tokens) ≡ false → behind k item tokens ≡ None
behind_none k item tokens e = if_false _ e refl

pub behind_complete : {A : Type 0} (k : TokenKind) (item : Reader A) (part : Part A) (continues : Option TokenKind → Bool) (x : A) → same_kind k k ≡ true → Complete part continues item x → CompleteItem (led k part) continues (behind k item) x
behind_complete k item part continues x same h tokens spelled steps s e =
    let p = taken_of s in
    let a = h (after tokens) spelled steps p.stands e in
    record {
      rest = a.rest;
      is = if_true _ (ap (is k) p.front ∙ same) (ap Some a.is);
      stands = a.stands;
      shorter = omega (arith, p.shorter, a.shorter);
    }

-- ---- answers put together

pub done : {A : Type 0} {x y : A} {tokens : List Token} {spelled : List TokenKind} {steps : List Step} → Stands tokens spelled steps → y ≡ x → Answers (Read (y, tokens)) x tokens spelled steps
done {tokens} s e = record { rest = tokens; is = ap (λ z. Read (z, tokens)) e; stands = s; shorter = omega arith }

pub then_answers : {A B : Type 0} {read : Outcome A} {x : A} {tokens : List Token} {middle : List TokenKind} {between : List Step} {next : A → List Token → Outcome B} {y : B} {spelled : List TokenKind} {steps : List Step} → Answers read x tokens middle between → ((z : A) → z ≡ x → (mid : List Token) → Stands mid middle between → Answers (next z mid) y mid spelled steps) → Answers (and_then read next) y tokens spelled steps
then_answers {x} a f =
    let b = f x refl a.rest a.stands in
    record { rest = b.rest; is = and_then_is _ a.is b.is; stands = b.stands; shorter = omega (arith, a.shorter, b.shorter) }

pub past_answers : {B : Type 0} (k : TokenKind) {tokens : List Token} {middle : List TokenKind} {between : List Step} {next : List Token → Outcome B} {y : B} {spelled : List TokenKind} {steps : List Step} → same_kind k k ≡ true → Stands tokens (k ∷ middle) (passes ∷ between) → ((mid : List Token) → Stands mid middle between → Answers (next mid) y mid spelled steps) → Answers (past k tokens next) y tokens spelled steps
past_answers k {tokens} {next} same s f =
    let p = taken_of s in
    let b = f (after tokens) p.stands in
    record { rest = b.rest; is = past_is k tokens next (ap (is k) p.front ∙ same) b.is; stands = b.stands; shorter = omega (arith, p.shorter, b.shorter) }

-- an answer for the tokens behind the first
pub answers_after : {A : Type 0} {read other : Outcome A} {x : A} {tokens mid : List Token} {spelled : List TokenKind} {steps : List Step} → length mid ≤ length tokens → other ≡ read → Answers read x mid spelled steps → Answers other x tokens spelled steps
answers_after l e a = record { rest = a.rest; is = e ∙ a.is; stands = a.stands; shorter = omega (arith, a.shorter) }

-- the same of an item, behind its first token
pub item_after : {A : Type 0} {read : Outcome A} {other : Option (Outcome A)} {x : A} {tokens mid : List Token} {spelled : List TokenKind} {steps : List Step} → length mid < length tokens → other ≡ Some read → Answers read x mid spelled steps → AnswersItem other x tokens spelled steps
item_after l e a = record { rest = a.rest; is = e ∙ ap Some a.is; stands = a.stands; shorter = omega (arith, a.shorter) }

-- ---- at least one part

-- P of each of them
abbrev pub Each : {A : Type 0} → (A → Type 0) → List A → Type 0
Each P [] = Unit {0}
Each P (x ∷ xs) = P x × Each P xs

module _ {A : Type 0} (k : TokenKind) (part : Part A) (continues : Option TokenKind → Bool) (item : Reader A) (same : same_kind k k ≡ true) (shut : continues (Some k) ≡ false) where
  abbrev continues_several : Option TokenKind → Bool
  continues_several o = is k o || continues o

  further_ends : (xs : List A) (spelled : List TokenKind) → continues_several (first spelled) ≡ false → continues (first (further k part.spelled xs spelled)) ≡ false
  further_ends [] spelled e = right_false (is k (first spelled)) _ e
  further_ends (x ∷ xs) spelled e = shut

  further_complete : (xs : List A) → Each (Complete part continues item) xs → CompleteList (record { spelled = further k part.spelled; lined = further passes part.lined }) continues_several (items [] ◌∷◌ (behind k item)) xs
  further_complete [] h n tokens spelled steps l s e = none_complete _ _ _ n s (behind_none k item tokens (ap (is k) (front_of s) ∙ left_false _ _ e))
  further_complete (x ∷ xs) h n tokens spelled steps l s e =
      let a = behind_complete k item part continues x same h.0 tokens _ (further passes part.lined xs steps) s (further_ends xs spelled e) in
      more_complete _ _ _ n l a (λ m b. further_complete xs h.1 m a.rest spelled steps b a.stands e)

  pub several_complete : (xs : Several A) → Complete part continues item xs.first → Each (Complete part continues item) xs.more → Complete (several_part k part) continues_several (several_of k item) xs
  several_complete xs g h tokens spelled steps s e =
      then_answers (g tokens _ (further passes part.lined xs.more steps) s (further_ends xs.more spelled e)) (λ x is_x mid m. then_answers (further_complete xs.more h (length mid) mid spelled steps (omega arith) m e) (λ ys is_ys rest r. done {y = record { first = x; more = ys }} r (λ i. record { first = is_x i; more = is_ys i })))
