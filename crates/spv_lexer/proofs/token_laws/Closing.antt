-- Where a closing sign is found: at the end of what is taken, and not before.
use Rattle.std.proofs.Common.{◌≡◌, ◌<◌, ◌≤◌, ◌++◌, ℕ, suc, Bool, true, false, nat_eq, List, [], ◌∷◌, Option, Some, None, length, drop, take, refl, sym, ap, subst, ◌∙◌, true≢false, arith}
use Rattle.std.specs.List.{starts_with}
use Rattle.std.proofs.lemmas.Bool.Decides.{Decides-eqb}
use Rattle.std.proofs.lemmas.List.{append_assoc, length-append, take-append-le, take-append-drop, take_all}
use Rattle.std.proofs.lemmas.Slice.Eq.{starts_is}
use Rattle.spv_lexer.specs.Front.{through}

-- what was taken ends with the closing sign, which stands nowhere before
pub record Closed (closing taken : List ℕ) : Type 0 where
  pub body : List ℕ
  pub parts : taken ≡ body ++ closing
  pub only_at_end : (before after : List ℕ) → body ++ closing ≡ before ++ (closing ++ after) → after ≡ []

pub starts-parts : (text sign : List ℕ) → starts_with nat_eq text sign ≡ true → text ≡ sign ++ drop (length sign) text
starts-parts text sign h = (starts_is Decides-eqb text sign (starts_with nat_eq text sign) refl).0 h

pub starts-append : (sign rest : List ℕ) → starts_with nat_eq (sign ++ rest) sign ≡ true
starts-append sign rest = (starts_is Decides-eqb (sign ++ rest) sign (starts_with nat_eq (sign ++ rest) sign) refl).1 rest refl

-- nothing is left where the whole is as long
no_more : (sign before after : List ℕ) → sign ≡ before ++ (sign ++ after) → after ≡ []
no_more sign before [] h = refl
no_more sign before (c ∷ after) h =
    let size = ap length h in
    absurd (omega (arith, size, length-append before (sign ++ (c ∷ after)), length-append sign (c ∷ after)))

at_once : (closing text : List ℕ) → starts_with nat_eq text closing ≡ true → Closed closing (take (length closing) text)
at_once closing text h = record {
  body = [];
  parts = ap (take (length closing)) (starts-parts text closing h) ∙ take-append-le (length closing) closing (drop (length closing) text) (omega arith) ∙ take_all (length closing) closing (omega arith);
  only_at_end = λ before after e. no_more closing before after e;
}

-- one byte more in front, with which the sign does not begin
one_more : (closing : List ℕ) (b : ℕ) (taken rest : List ℕ) → starts_with nat_eq (b ∷ (taken ++ rest)) closing ≡ false → Closed closing taken → Closed closing (b ∷ taken)
one_more closing b taken rest other c = record {
  body = b ∷ c.body;
  parts = ap (λ l. b ∷ l) c.parts;
  only_at_end = at;
}
  where
    at : (before after : List ℕ) → (b ∷ c.body) ++ closing ≡ before ++ (closing ++ after) → after ≡ []
    at [] after e =
        let whole : b ∷ (taken ++ rest) ≡ closing ++ (after ++ rest) =
        ap (λ l. b ∷ (l ++ rest)) c.parts ∙ ap (λ l. l ++ rest) e ∙ append_assoc closing after rest in
        let yes : starts_with nat_eq (b ∷ (taken ++ rest)) closing ≡ true = ap (λ l. starts_with nat_eq l closing) whole ∙ starts-append closing (after ++ rest) in
        absurd (true≢false (sym yes ∙ other))
    at (d ∷ before) after e = c.only_at_end before after (ap (drop 1) e)

pub through-closed : (closing text : List ℕ) (k : ℕ) → through closing text ≡ Some k → Closed closing (take k text)
through-closed closing [] k h = cc
through-closed closing (b ∷ text) k h = by (starts_with nat_eq (b ∷ text) closing) refl (through closing text) refl (through-closed closing text)
  where
    by : (t : Bool) → starts_with nat_eq (b ∷ text) closing ≡ t → (o : Option ℕ) → through closing text ≡ o
        → ((j : ℕ) → through closing text ≡ Some j → Closed closing (take j text)) → Closed closing (take k (b ∷ text))
    by true e o f below =
        let same : Some (length closing) ≡ Some k = rw e at h in
        let size : length closing ≡ k = cc same in
        subst (λ n. Closed closing (take n (b ∷ text))) size (at_once closing (b ∷ text) e)
    by false e None f below = let none : None ≡ Some k = rw (e, f) at h in cc none
    by false e (Some j) f below =
        let same : Some (suc j) ≡ Some k = rw (e, f) at h in
        let size : suc j ≡ k = cc same in
        let split : text ≡ take j text ++ drop j text = sym (take-append-drop j text) in
        subst (λ n. Closed closing (take n (b ∷ text))) size
        (one_more closing b (take j text) (drop j text) (ap (λ l. starts_with nat_eq (b ∷ l) closing) (sym split) ∙ e) (below j f))

-- a text that begins with a sign, and whose first part is no shorter, has it in this part
record Within (sign part : List ℕ) : Type 0 where
  after : List ℕ
  parts : part ≡ sign ++ after

shorter : (sign more part rest : List ℕ) → length sign ≤ length part → part ++ rest ≡ sign ++ more → Within sign part
shorter sign more part rest fits e = record {
  after = drop (length sign) part;
  parts = sym (take-append-drop (length sign) part) ∙ ap (λ l. l ++ drop (length sign) part) front;
}
  where
    front : take (length sign) part ≡ sign
    front = sym (take-append-le (length sign) part rest fits) ∙ ap (take (length sign)) e ∙ take-append-le (length sign) sign more (omega arith) ∙ take_all (length sign) sign (omega arith)

-- the sign is found at the end of such a text, whatever follows
pub closed-through : (closing body rest : List ℕ) → 0 < length closing
    → ((before after : List ℕ) → body ++ closing ≡ before ++ (closing ++ after) → after ≡ [])
    → through closing (body ++ (closing ++ rest)) ≡ Some (length (body ++ closing))
closed-through closing [] rest some only = first closing rest some
  where
    first : (closing rest : List ℕ) → 0 < length closing → through closing (closing ++ rest) ≡ Some (length closing)
    first [] rest some = absurd (omega arith)
    first (c ∷ closing) rest some = rw (starts-append (c ∷ closing) rest) refl
closed-through closing (b ∷ body) rest some only =
    by (starts_with nat_eq (b ∷ (body ++ (closing ++ rest))) closing) refl never
    (closed-through closing body rest some (λ before after e. only (b ∷ before) after (ap (λ l. b ∷ l) e)))
  where
    never : starts_with nat_eq (b ∷ (body ++ (closing ++ rest))) closing ≡ true → ⊥
    never e =
        let whole : (b ∷ (body ++ closing)) ++ rest ≡ closing ++ drop (length closing) (b ∷ (body ++ (closing ++ rest))) =
        ap (λ l. b ∷ l) (append_assoc body closing rest) ∙ starts-parts (b ∷ (body ++ (closing ++ rest))) closing e in
        let part = shorter closing (drop (length closing) (b ∷ (body ++ (closing ++ rest)))) (b ∷ (body ++ closing)) rest (omega (arith, length-append body closing)) whole in
        let none = only [] part.after part.parts in
        let size = ap length part.parts in
        let zero_left = ap length none in
        omega (arith, size, zero_left, length-append body closing, length-append closing part.after)

    by : (t : Bool) → starts_with nat_eq (b ∷ (body ++ (closing ++ rest))) closing ≡ t
        → (starts_with nat_eq (b ∷ (body ++ (closing ++ rest))) closing ≡ true → ⊥)
        → through closing (body ++ (closing ++ rest)) ≡ Some (length (body ++ closing))
        → through closing (b ∷ (body ++ (closing ++ rest))) ≡ Some (suc (length (body ++ closing)))
    by false e none below = rw (e, below) refl
    by true e none below = absurd (none e)
