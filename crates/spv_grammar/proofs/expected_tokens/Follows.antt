-- Readers follow what is expected: how this goes through the ways to put readers together.
use Rattle.std.proofs.Common.{◌≡◌, ℕ, zero, suc, ◌+◌, ◌≤◌, Bool, true, false, if◌then◌else◌, List, [], ◌∷◌, ◌++◌, Option, Some, None, length, refl, sym, ap, ◌∙◌, subst, append_assoc, arith}
use Rattle.spv_tree.specs.declared.tokens.token.Token.{Token}
use Rattle.spv_tree.specs.declared.tokens.token.TokenKind.{TokenKind}
use Rattle.spv_tree.specs.declared.tokens.token.TokenKind.TheVariants as kind
use Rattle.spv_grammar.specs.reading.Readers.{Outcome, Read, Stop, wrong, deep, Halted, front, after, is, Reader, misfit, nothing, and_then, past, name_of, name, Next, behind, items_by, items, all_items, several_of, optional, ended}
use Rattle.spv_grammar.proofs.reading.Fronts.{some_is, read_is}
use Rattle.spv_grammar.specs.expected_tokens.Expected.{Expected, token, Prediction, unexpected, taken, opened, word_is, token_by, predict}
use Rattle.spv_grammar.specs.expected_tokens.Expected as expected
use Rattle.spv_grammar.proofs.expected_tokens.Small.{nothing_behind}
use Rattle.spv_grammar.specs.expected_tokens.Machine.{Leads, here, takes, opens, Wrong, misfits, after_taking, after_opening}

-- ---- ways

pub leads_on : {ps : List Expected} {tokens : List Token} {qs : List Expected} {mid : List Token} {rs : List Expected} {rest : List Token} → Leads ps tokens qs mid → Leads qs mid rs rest → Leads ps tokens rs rest
leads_on (here ps tokens) b = b
leads_on {rs = rs} {rest = rest} (takes p parts ps t tokens qs mid e a) b = takes p parts ps t tokens rs rest e (leads_on a b)
leads_on {rs = rs} {rest = rest} (opens p parts ps tokens qs mid e a) b = opens p parts ps tokens rs rest e (leads_on a b)

pub wrong_on : {ps : List Expected} {tokens : List Token} {qs : List Expected} {mid : List Token} {left : ℕ} → Leads ps tokens qs mid → Wrong qs mid left → Wrong ps tokens left
wrong_on (here ps tokens) b = b
wrong_on {left = left} (takes p parts ps t tokens qs mid e a) b = after_taking p parts ps t tokens left e (wrong_on a b)
wrong_on {left = left} (opens p parts ps tokens qs mid e a) b = after_opening p parts ps tokens left e (wrong_on a b)

pub shorter : {ps : List Expected} {tokens : List Token} {qs : List Expected} {rest : List Token} → Leads ps tokens qs rest → length rest ≤ length tokens
shorter (here ps tokens) = omega arith
shorter (takes p parts ps t tokens qs rest e a) = let l = shorter a in omega (arith, l)
shorter (opens p parts ps tokens qs rest e a) = shorter a

-- ---- outcomes

-- what is read takes the expected parts away, and what goes wrong goes wrong with them; where no level is left, so many tokens are taken
pub record Follows {A : Type 0} (m : ℕ) (from : List Expected) (tokens : List Token) (o : Outcome A) : Type 0 where
  pub read : (x : A) (rest : List Token) → o ≡ Read (x, rest) → (ps : List Expected) → Leads (from ++ ps) tokens ps rest
  pub wrong : (left : ℕ) → o ≡ Halted (wrong left) → (ps : List Expected) → Wrong (from ++ ps) tokens left
  pub deep : (left : ℕ) → o ≡ Halted (deep left) → left + m ≤ length tokens

pub stop_is : {A : Type 0} (s t : Stop) → ◌≡◌ {A = Outcome A} (Halted s) (Halted t) → s ≡ t
stop_is s t e = cc

wrong_is : (l n : ℕ) → wrong l ≡ wrong n → l ≡ n
wrong_is l n e = cc

deep_is : (l n : ℕ) → deep l ≡ deep n → l ≡ n
deep_is l n e = cc

not_deep : (l n : ℕ) → wrong l ≡ deep n → ⊥
not_deep l n e = absurd (cc (e))

not_wrong : (l n : ℕ) → deep l ≡ wrong n → ⊥
not_wrong l n e = absurd (cc (e))

none_read : {A : Type 0} (s : Stop) (r : A × List Token) → ◌≡◌ {A = Outcome A} (Halted s) (Read r) → ⊥
none_read s r e = absurd (cc (e))

none_halted : {A : Type 0} (s : Stop) (r : A × List Token) → ◌≡◌ {A = Outcome A} (Read r) (Halted s) → ⊥
none_halted s r e = absurd (cc (e))

pub follows_less : {A : Type 0} {from : List Expected} {tokens : List Token} {o : Outcome A} (m n : ℕ) → m ≤ n → Follows n from tokens o → Follows m from tokens o
follows_less m n l f = record {
  read = λ x rest e ps. f.read x rest e ps;
  wrong = λ left e ps. f.wrong left e ps;
  deep = λ left e. let d = f.deep left e in omega (arith, d, l);
}

pub one_less : {A : Type 0} {from : List Expected} {tokens : List Token} {o : Outcome A} {m : ℕ} → Follows (suc m) from tokens o → Follows m from tokens o
one_less {m = m} f = follows_less m (suc m) (omega arith) f

-- ---- single steps

pub gives : {A : Type 0} (m : ℕ) (tokens : List Token) (x : A) → Follows m [] tokens (Read (x, tokens))
gives m tokens x = record {
  read = λ y rest e ps. subst (λ r. Leads ps tokens ps r.1) (read_is (x, tokens) (y, rest) e) (here ps tokens);
  wrong = λ left e ps. absurd (none_halted (wrong left) (x, tokens) e);
  deep = λ left e. absurd (none_halted (deep left) (x, tokens) e);
}

pub no_level : {A : Type 0} (from : List Expected) (tokens : List Token) → Follows {A = A} 0 from tokens (nothing tokens)
no_level {A} from tokens = record {
  read = λ y rest e ps. absurd (none_read (deep (length tokens)) (y, rest) e);
  wrong = λ left e ps. absurd (not_wrong (length tokens) left (stop_is {A = A} _ _ e));
  deep = λ left e. let same = deep_is (length tokens) left (stop_is {A = A} _ _ e) in omega (arith, same);
}

module _ {A : Type 0} (m : ℕ) (p : Expected) (behind : List Expected) where
  pub misfit_at : (tokens : List Token) (o : Option TokenKind) → front tokens ≡ o → predict p o ≡ unexpected → Follows {A = A} m (p ∷ behind) tokens (misfit tokens)
  misfit_at tokens o e h = record {
    read = λ y rest g ps. absurd (none_read (wrong (length tokens)) (y, rest) g);
    wrong = λ left g ps. subst (λ n. Wrong (p ∷ behind ++ ps) tokens n) (wrong_is (length tokens) left (stop_is {A = A} _ _ g)) (misfits p (behind ++ ps) tokens (ap (predict p) e ∙ h));
    deep = λ left g. absurd (not_deep (length tokens) left (stop_is {A = A} _ _ g));
  }

  module _ (parts : List Expected) (out : Outcome A) where
    pub open_at : (tokens : List Token) (o : Option TokenKind) → front tokens ≡ o → predict p o ≡ opened parts → Follows m (parts ++ behind) tokens out → Follows m (p ∷ behind) tokens out
    open_at tokens o e h f = record {
      read = λ x rest g ps. opens p parts (behind ++ ps) tokens ps rest (ap (predict p) e ∙ h) (subst (λ qs. Leads qs tokens ps rest) (append_assoc parts behind ps) (f.read x rest g ps));
      wrong = λ left g ps. after_opening p parts (behind ++ ps) tokens left (ap (predict p) e ∙ h) (subst (λ qs. Wrong qs tokens left) (append_assoc parts behind ps) (f.wrong left g ps));
      deep = λ left g. f.deep left g;
    }

    pub take_first : (t : Token) (tokens : List Token) → predict p (Some t.kind) ≡ taken parts → Follows m (parts ++ behind) tokens out → Follows (suc m) (p ∷ behind) (t ∷ tokens) out
    take_first t tokens h f = record {
      read = λ x rest g ps. takes p parts (behind ++ ps) t tokens ps rest h (subst (λ qs. Leads qs tokens ps rest) (append_assoc parts behind ps) (f.read x rest g ps));
      wrong = λ left g ps. after_taking p parts (behind ++ ps) t tokens left h (subst (λ qs. Wrong qs tokens left) (append_assoc parts behind ps) (f.wrong left g ps));
      deep = λ left g. let d = f.deep left g in omega (arith, d);
    }

    pub take_at : (tokens : List Token) (k : TokenKind) → front tokens ≡ Some k → predict p (Some k) ≡ taken parts → Follows m (parts ++ behind) (after tokens) out → Follows (suc m) (p ∷ behind) tokens out
    take_at [] k e h f = absurd (cc (e))
    take_at (t ∷ tokens) k e h f = take_first t tokens (ap (λ l. predict p (Some l)) (some_is t.kind k e) ∙ h) f

-- ---- one behind the other

module _ {A B : Type 0} {m : ℕ} {one two : List Expected} {tokens : List Token} where
  pub then_by : (o : Outcome A) (next : A → List Token → Outcome B) → Follows m one tokens o → ((x : A) (mid : List Token) → o ≡ Read (x, mid) → Follows m two mid (next x mid)) → Follows m (one ++ two) tokens (and_then o next)
  then_by (Read (x, mid)) next a b =
      let f = b x mid refl in
      record {
        read = λ y rest e ps. subst (λ qs. Leads qs tokens ps rest) (sym (append_assoc one two ps)) (leads_on (a.read x mid refl (two ++ ps)) (f.read y rest e ps));
        wrong = λ left e ps. subst (λ qs. Wrong qs tokens left) (sym (append_assoc one two ps)) (wrong_on (a.read x mid refl (two ++ ps)) (f.wrong left e ps));
        deep = λ left e. let d = f.deep left e in let l = shorter (a.read x mid refl []) in omega (arith, d, l);
      }
  then_by (Halted s) next a b = record {
    read = λ y rest e ps. absurd (none_read s (y, rest) e);
    wrong = λ left e ps. subst (λ qs. Wrong qs tokens left) (sym (append_assoc one two ps)) (a.wrong left (ap Halted (stop_is {A = B} s (wrong left) e)) (two ++ ps));
    deep = λ left e. a.deep left (ap Halted (stop_is {A = B} s (deep left) e));
  }

  pub follows_then : {o : Outcome A} {next : A → List Token → Outcome B} → Follows m one tokens o → ((x : A) (mid : List Token) → Follows m two mid (next x mid)) → Follows m (one ++ two) tokens (and_then o next)
  follows_then {o} {next} a b = then_by o next a (λ x mid e. b x mid)

  -- the same, where what is left is no longer than so many tokens
  pub then_within : {o : Outcome A} {next : A → List Token → Outcome B} (k : ℕ) → length tokens ≤ k → Follows m one tokens o → ((x : A) (mid : List Token) → length mid ≤ k → Follows m two mid (next x mid)) → Follows m (one ++ two) tokens (and_then o next)
  then_within {o} {next} k l a b = then_by o next a (λ x mid e. let s = shorter (a.read x mid e []) in b x mid (omega (arith, s, l)))

-- ---- tokens and names

pub follows_past : {B : Type 0} {m : ℕ} {two : List Expected} (k : TokenKind) (tokens : List Token) {next : List Token → Outcome B} → ((rest : List Token) → Follows m two rest (next rest)) → Follows m (token k ∷ two) tokens (past k tokens next)
follows_past {B} {m} {two} k [] {next} f = misfit_at m (token k) two [] None refl refl
follows_past {B} {m} {two} k (t ∷ tokens) {next} f = by_test (is k (Some t.kind)) refl
  where
    by_test : (b : Bool) → is k (Some t.kind) ≡ b → Follows m (token k ∷ two) (t ∷ tokens) (if b then next tokens else misfit (t ∷ tokens))
    by_test true e = one_less (take_first m (token k) two [] (next tokens) t tokens (ap token_by e) (f tokens))
    by_test false e = misfit_at m (token k) two (t ∷ tokens) (Some t.kind) refl (ap token_by e)

pub past_within : {B : Type 0} {m : ℕ} {two : List Expected} (j : ℕ) (k : TokenKind) (tokens : List Token) {next : List Token → Outcome B} → length tokens ≤ j → ((rest : List Token) → length rest ≤ j → Follows m two rest (next rest)) → Follows m (token k ∷ two) tokens (past k tokens next)
past_within {B} {m} {two} j k [] {next} l f = misfit_at m (token k) two [] None refl refl
past_within {B} {m} {two} j k (t ∷ tokens) {next} l f = by_test (is k (Some t.kind)) refl
  where
    by_test : (b : Bool) → is k (Some t.kind) ≡ b → Follows m (token k ∷ two) (t ∷ tokens) (if b then next tokens else misfit (t ∷ tokens))
    by_test true e = one_less (take_first m (token k) two [] (next tokens) t tokens (ap token_by e) (f tokens (omega (arith, l))))
    by_test false e = misfit_at m (token k) two (t ∷ tokens) (Some t.kind) refl (ap token_by e)

name_by : (m : ℕ) (tokens : List Token) (o : Option TokenKind) → front tokens ≡ o → Follows m (expected.name ∷ []) tokens (name_of o tokens)
name_by m tokens (Some (kind.Name x)) e = one_less (take_at m expected.name [] [] _ tokens (kind.Name x) e refl (gives m (after tokens) _))
name_by m tokens _ e = misfit_at m expected.name [] tokens _ e refl

pub follows_name : {m : ℕ} (tokens : List Token) → Follows m (expected.name ∷ []) tokens (name tokens)
follows_name {m} tokens = name_by m tokens (front tokens) refl

-- what begins with the name that is the first token
pub name_first : {B : Type 0} {m : ℕ} {two : List Expected} (p : Expected) (parts : List Expected) (tokens : List Token) (x : _) (o : Outcome B) → front tokens ≡ Some (kind.Name x) → predict p (Some (kind.Name x)) ≡ taken parts → Follows m (parts ++ two) (after tokens) o → Follows m (p ∷ two) tokens o
name_first {B} {m} {two} p parts tokens x o e h f = one_less (take_at m p two parts o tokens (kind.Name x) e h f)

-- ---- lists

-- what is read where an item may follow
pub data FollowsItem {A : Type 0} (m : ℕ) (p : Expected) : List Token → Option (Outcome A) → Type 0 where
  no_item : (tokens : List Token) → predict p (front tokens) ≡ opened [] → FollowsItem m p tokens None
  an_item : (t : Token) (tokens : List Token) (parts : List Expected) (o : Outcome A) → predict p (Some t.kind) ≡ taken (parts ++ p ∷ []) → Follows m parts tokens o → FollowsItem m p (t ∷ tokens) (Some o)

module _ {A L : Type 0} {m : ℕ} (p : Expected) (none : L) (add : A → L → L) where
  none_left : (tokens : List Token) → predict p (front tokens) ≡ opened [] → Follows m (p ∷ []) tokens (Read (none, tokens))
  none_left tokens e = open_at m p [] [] _ tokens (front tokens) refl e (gives m tokens none)

  by_item : (n : ℕ) (others : Reader L) (tokens : List Token) (o : Option (Outcome A)) → length tokens ≤ suc n → FollowsItem m p tokens o → ((mid : List Token) → length mid ≤ n → Follows m (p ∷ []) mid (others mid)) → Follows m (p ∷ []) tokens (items_by none add others o tokens)
  by_item n others tokens None l (no_item _ e) h = none_left tokens e
  by_item n others [] (Some o) l f h = elim f [ ]
  by_item n others (t ∷ tokens) (Some o) l (an_item _ _ parts _ e f) h =
      let behind_it : Follows m (parts ++ p ∷ []) tokens (and_then o (λ x mid. and_then (others mid) (λ xs rest. Read (add x xs, rest)))) =
      then_by o _ f (λ x mid is. let s = shorter (f.read x mid is []) in follows_then (h mid (omega (arith, s, l))) (λ xs rest. gives m rest (add x xs))) in
      one_less (take_first m p [] (parts ++ p ∷ []) _ t tokens e (ending (and_then o (λ x mid. and_then (others mid) (λ xs rest. Read (add x xs, rest)))) (parts ++ p ∷ []) behind_it))
    where
      ending : (out : Outcome L) (ps : List Expected) → Follows m ps tokens out → Follows m (ps ++ []) tokens out
      ending out ps f = subst (λ (qs : List Expected). Follows m qs tokens out) (sym (nothing_behind ps)) f

  none_at_end : (o : Option (Outcome A)) → FollowsItem m p [] o → predict p None ≡ opened []
  none_at_end None (no_item _ e) = e
  none_at_end (Some o) f = elim f [ ]

  pub follows_items : (next : Next A) → ((tokens : List Token) → FollowsItem m p tokens (next tokens)) → (n : ℕ) (tokens : List Token) → length tokens ≤ n → Follows m (p ∷ []) tokens (items none add next n tokens)
  follows_items next h zero [] l = none_left [] (none_at_end (next []) (h []))
  follows_items next h zero (t ∷ tokens) l = absurd (omega (arith, l))
  follows_items next h (suc n) tokens l = by_item n (items none add next n) tokens (next tokens) l (h tokens) (λ mid short. follows_items next h n mid short)

  pub follows_all : (next : Next A) → ((tokens : List Token) → FollowsItem m p tokens (next tokens)) → (tokens : List Token) → Follows m (p ∷ []) tokens (all_items none add next tokens)
  follows_all next h tokens = follows_items next h (length tokens) tokens (omega arith)

-- an item behind a token
pub follows_behind : {A : Type 0} {m : ℕ} (p : Expected) (parts : List Expected) (k : TokenKind) (item : Reader A) → ((o : Option TokenKind) → predict p o ≡ word_is k o (parts ++ p ∷ [])) → ((tokens : List Token) → Follows m parts tokens (item tokens)) → (tokens : List Token) → FollowsItem m p tokens (behind k item tokens)
follows_behind p parts k item is_word f [] = no_item [] (is_word None)
follows_behind {A} {m} p parts k item is_word f (t ∷ tokens) = by_test (is k (Some t.kind)) refl
  where
    by_test : (b : Bool) → is k (Some t.kind) ≡ b → FollowsItem m p (t ∷ tokens) (if b then Some (item tokens) else None)
    by_test true e = an_item t tokens parts (item tokens) (is_word (Some t.kind) ∙ ap (λ b. if b then taken (parts ++ p ∷ []) else opened []) e) (f tokens)
    by_test false e = no_item (t ∷ tokens) (is_word (Some t.kind) ∙ ap (λ b. if b then taken (parts ++ p ∷ []) else opened []) e)

-- at least one part, and a token between two of them
pub follows_several : {A : Type 0} {m : ℕ} (p : Expected) (parts : List Expected) (k : TokenKind) (item : Reader A) → ((o : Option TokenKind) → predict p o ≡ word_is k o (parts ++ p ∷ [])) → ((tokens : List Token) → Follows m parts tokens (item tokens)) → (tokens : List Token) → Follows m (parts ++ p ∷ []) tokens (several_of k item tokens)
follows_several {A} {m} p parts k item is_word f tokens =
    follows_then (f tokens) (λ x mid. follows_then (follows_all p [] ◌∷◌ (behind k item) (follows_behind p parts k item is_word f) mid) (λ xs rest. gives m rest _))

-- ---- parts that may be missing

-- what stands behind a token, if it is there
module _ {A : Type 0} {two : List Expected} (m n : ℕ) (l : n ≤ suc m) (p : Expected) (parts : List Expected) (k : TokenKind) {some none : Outcome A} (is_word : (o : Option TokenKind) → predict p o ≡ word_is k o parts) where
  pub follows_where : (tokens : List Token) → Follows m (parts ++ two) (after tokens) some → Follows n two tokens none → Follows n (p ∷ two) tokens (if is k (front tokens) then some else none)
  follows_where [] f g = open_at n p two [] none [] None refl (is_word None) g
  follows_where (t ∷ tokens) f g = by_test (is k (Some t.kind)) refl
    where
      by_test : (b : Bool) → is k (Some t.kind) ≡ b → Follows n (p ∷ two) (t ∷ tokens) (if b then some else none)
      by_test true e = follows_less n (suc m) l (take_first m p two parts some t tokens (is_word (Some t.kind) ∙ ap (λ b. if b then taken parts else opened []) e) f)
      by_test false e = open_at n p two [] none (t ∷ tokens) (Some t.kind) refl (is_word (Some t.kind) ∙ ap (λ b. if b then taken parts else opened []) e) g

pub follows_if : {A : Type 0} {m : ℕ} {two : List Expected} (p : Expected) (parts : List Expected) (k : TokenKind) (tokens : List Token) {some none : Outcome A} → ((o : Option TokenKind) → predict p o ≡ word_is k o parts) → Follows m (parts ++ two) (after tokens) some → Follows m two tokens none → Follows m (p ∷ two) tokens (if is k (front tokens) then some else none)
follows_if {A} {m} p parts k tokens is_word f g = follows_where m m (omega arith) p parts k is_word tokens f g

pub follows_optional : {A : Type 0} {m : ℕ} (p : Expected) (parts : List Expected) (k : TokenKind) (part : Reader A) → ((o : Option TokenKind) → predict p o ≡ word_is k o parts) → ((tokens : List Token) → Follows m parts tokens (part tokens)) → (tokens : List Token) → Follows m (p ∷ []) tokens (optional k part tokens)
follows_optional {A} {m} p parts k part is_word f tokens =
    follows_if p parts k tokens is_word (follows_then (f (after tokens)) (λ x rest. gives m rest (Some x))) (gives m tokens None)

pub follows_ended : {A : Type 0} {m : ℕ} {parts : List Expected} (k : TokenKind) (part : Reader A) (tokens : List Token) → Follows m parts tokens (part tokens) → Follows m (parts ++ token k ∷ []) tokens (ended k part tokens)
follows_ended {A} {m} k part tokens f = follows_then f (λ x mid. follows_past k mid (λ rest. gives m rest x))
