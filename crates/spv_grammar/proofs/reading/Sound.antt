-- What is read is spelled at the front: how this goes through the ways to put readers together.
use Rattle.std.proofs.Common.{◌≡◌, ℕ, zero, suc, Bool, true, false, List, [], ◌∷◌, Option, Some, None, refl, sym, ap, ◌∙◌, subst, if◌then◌else◌}
use Rattle.spv_tree.specs.declared.tokens.token.Token.{Token}
use Rattle.spv_tree.specs.declared.tokens.token.TokenKind.{TokenKind}
use Rattle.spv_tree.specs.declared.tokens.token.TokenKind.TheVariants as kind
use Rattle.spv_logic.specs.declared.names.names.Symbol.{Symbol}
use Rattle.spv_tree.specs.declared.syntax.names.Name.{Name}
use Rattle.spv_tree.specs.syntax.Lists.{further}
use Rattle.spv_tree.specs.syntax.Steps.{Step, passes, first_line, lines_agree}
use Rattle.spv_tree.specs.syntax.Reads.{kinds}
use Rattle.spv_grammar.specs.reading.Readers.{Outcome, Read, Stop, Halted, front, after, is, Reader, and_then, past, name_of, name, Next, behind, items_by, items, all_items, several_of, starting, headed_by, optional, ended}
use Rattle.spv_grammar.specs.reading.Parts.{Part, BeginsWith, name_part, led, several_part, each_part, headed_part, ended_part}
use Rattle.spv_grammar.proofs.reading.Fronts.{Passed, some_is, read_is, passed, is-true, join, started}

-- P of what is read, if anything is
pub record On {A : Type 0} (read : Outcome A) (P : A → List Token → Type 0) : Type 0 where
  pub at : (x : A) (rest : List Token) → read ≡ Read (x, rest) → P x rest

-- the same of an item, if one begins and is read
pub record OnItem {A : Type 0} (read : Option (Outcome A)) (P : A → List Token → Type 0) : Type 0 where
  pub at : (x : A) (rest : List Token) → read ≡ Some (Read (x, rest)) → P x rest

pub on_none : {A : Type 0} {s : Stop} (P : A → List Token → Type 0) → On (Halted s) P
on_none P = record { at = λ x rest e. absurd (cc) }

pub on_some : {A : Type 0} (P : A → List Token → Type 0) (x : A) (rest : List Token) → P x rest → On (Read (x, rest)) P
on_some P x rest h = record { at = λ y others e. subst (λ p. P p.0 p.1) (read_is (x, rest) (y, others) e) h }

pub on_then : {A B : Type 0} {read : Outcome A} {next : A → List Token → Outcome B} {P : A → List Token → Type 0} {Q : B → List Token → Type 0} → On read P → ((x : A) (mid : List Token) → P x mid → On (next x mid) Q) → On (and_then read next) Q
on_then {read = Read r} a f = f r.0 r.1 (a.at r.0 r.1 refl)
on_then {read = Halted s} a f = on_none _

pub on_if : {A : Type 0} (b : Bool) (x y : Outcome A) {P : A → List Token → Type 0} → (b ≡ true → On x P) → (b ≡ false → On y P) → On (if b then x else y) P
on_if true x y f g = f refl
on_if false x y f g = g refl

pub on_past : {B : Type 0} (k : TokenKind) (tokens : List Token) {next : List Token → Outcome B} {Q : B → List Token → Type 0} → ((rest : List Token) → Passed k tokens rest → On (next rest) Q) → On (past k tokens next) Q
on_past k tokens f = on_if (is k (front tokens)) _ _ (λ h. f (after tokens) (passed k tokens (is-true k (front tokens) h))) (λ h. on_none _)

-- ---- names

pub name_begins : (tokens : List Token) (x : Symbol) → front tokens ≡ Some (kind.Name x) → BeginsWith name_part tokens (record { line = first_line tokens; symbol = x }) (after tokens)
name_begins tokens x e =
    let p = passed (kind.Name x) tokens e in
    (started p)

-- a name, and that it has the first line
pub record NameAt (tokens : List Token) (x : Name) (rest : List Token) : Type 0 where
  pub begins : BeginsWith name_part tokens x rest
  pub line : x.line ≡ first_line tokens

name_by : (tokens : List Token) (o : Option TokenKind) → front tokens ≡ o → On (name_of o tokens) (NameAt tokens)
name_by tokens (Some (kind.Name x)) e = on_some _ _ _ (record { begins = name_begins tokens x e; line = refl })
name_by tokens _ e = on_none _

pub name_at_sound : (tokens : List Token) → On (name tokens) (NameAt tokens)
name_at_sound tokens = name_by tokens (front tokens) refl

pub name_sound : (tokens : List Token) → On (name tokens) (BeginsWith name_part tokens)
name_sound tokens = record { at = λ x rest e. ((name_at_sound tokens).at x rest e).begins }

-- ---- lists

-- a list is none, or an item in front of others
pub record IsList {A L : Type 0} (none : L) (add : A → L → L) (item : Part A) (list : Part L) : Type 0 where
  pub none_spelled : (rest : List TokenKind) → list.spelled none rest ≡ rest
  pub none_lined : (steps : List Step) → list.lined none steps ≡ steps
  pub add_spelled : (x : A) (xs : L) (rest : List TokenKind) → list.spelled (add x xs) rest ≡ item.spelled x (list.spelled xs rest)
  pub add_lined : (x : A) (xs : L) (steps : List Step) → list.lined (add x xs) steps ≡ item.lined x (list.lined xs steps)

module _ {A L : Type 0} {none : L} {add : A → L → L} {item : Part A} {list : Part L} (is_list : IsList none add item list) where
  none_begins : (tokens : List Token) → BeginsWith list tokens none tokens
  none_begins tokens = record {
    spelled = sym (is_list.none_spelled (kinds tokens));
    lined = λ steps. ap (λ s. lines_agree s tokens) (is_list.none_lined steps);
  }

  add_begins : (tokens mid rest : List Token) (x : A) (xs : L) → BeginsWith item tokens x mid → BeginsWith list mid xs rest → BeginsWith list tokens (add x xs) rest
  add_begins tokens mid rest x xs a b = record {
    spelled = a.spelled ∙ ap (item.spelled x) b.spelled ∙ sym (is_list.add_spelled x xs (kinds rest));
    lined = λ steps. ap (λ s. lines_agree s tokens) (is_list.add_lined x xs steps) ∙ a.lined (list.lined xs steps) ∙ b.lined steps;
  }

  by_sound : (tokens : List Token) (others : Reader L) (read : Option (Outcome A)) → OnItem read (BeginsWith item tokens) → ((mid : List Token) → On (others mid) (BeginsWith list mid)) → On (items_by none add others read tokens) (BeginsWith list tokens)
  by_sound tokens others None a b = on_some _ _ _ (none_begins tokens)
  by_sound tokens others (Some read) a b =
      let first : On read (BeginsWith item tokens) = record { at = λ x rest e. a.at x rest (ap Some e) } in
      on_then first (λ x mid p. on_then (b mid) (λ xs rest q. on_some _ _ _ (add_begins tokens mid rest x xs p q)))

  pub items_sound : (next : Next A) → ((tokens : List Token) → OnItem (next tokens) (BeginsWith item tokens)) → (n : ℕ) (tokens : List Token) → On (items none add next n tokens) (BeginsWith list tokens)
  items_sound next h zero tokens = on_some _ _ _ (none_begins tokens)
  items_sound next h (suc n) tokens = by_sound tokens (items none add next n) (next tokens) (h tokens) (items_sound next h n)

pub on_item : {A : Type 0} {read : Outcome A} {P : A → List Token → Type 0} → On read P → OnItem (Some read) P
on_item a = record { at = λ x rest e. a.at x rest (some_is _ _ e) }

pub on_no_item : {A : Type 0} (P : A → List Token → Type 0) → OnItem None P
on_no_item P = record { at = λ x rest e. absurd (cc) }

-- a part behind a token
pub led_begins : {A : Type 0} (part : Part A) (k : TokenKind) (tokens mid rest : List Token) (x : A) → Passed k tokens mid → BeginsWith part mid x rest → BeginsWith (led k part) tokens x rest
led_begins part k tokens mid rest x p a = join p a

by_behind : {A : Type 0} (part : Part A) (k : TokenKind) (item : Reader A) (tokens : List Token) (b : Bool) → is k (front tokens) ≡ b → ((others : List Token) → On (item others) (BeginsWith part others)) → OnItem (if b then Some (item (after tokens)) else None) (BeginsWith (led k part) tokens)
by_behind part k item tokens true e h =
    let p = passed k tokens (is-true k (front tokens) e) in
    on_item (record { at = λ x rest f. led_begins part k tokens _ rest x p ((h (after tokens)).at x rest f) })
by_behind part k item tokens false e h = on_no_item _

pub behind_sound : {A : Type 0} (part : Part A) (k : TokenKind) (item : Reader A) → ((others : List Token) → On (item others) (BeginsWith part others)) → (tokens : List Token) → OnItem (behind k item tokens) (BeginsWith (led k part) tokens)
behind_sound part k item h tokens = by_behind part k item tokens (is k (front tokens)) refl h

-- two facts of what is read
pub on_both : {A : Type 0} {read : Outcome A} {P Q : A → List Token → Type 0} → On read P → On read Q → On read (λ x rest. P x rest × Q x rest)
on_both a b = record { at = λ x rest e. (a.at x rest e, b.at x rest e) }

-- a fact that follows from another
pub on_more : {A : Type 0} {read : Outcome A} {P Q : A → List Token → Type 0} → On read P → ((x : A) (rest : List Token) → P x rest → Q x rest) → On read Q
on_more a f = record { at = λ x rest e. f x rest (a.at x rest e) }

-- what is true of each item, and of a list where it is true of its items
module _ {A L : Type 0} {none : L} {add : A → L → L} (P : A → Type 0) (Q : L → Type 0) (q_none : Q none) (q_add : (x : A) (xs : L) → P x → Q xs → Q (add x xs)) where
  by_all : (tokens : List Token) (others : Reader L) (read : Option (Outcome A)) → OnItem read (λ x rest. P x) → ((mid : List Token) → On (others mid) (λ xs rest. Q xs)) → On (items_by none add others read tokens) (λ xs rest. Q xs)
  by_all tokens others None a b = on_some _ _ _ q_none
  by_all tokens others (Some read) a b =
      let first : On read (λ x rest. P x) = record { at = λ x rest e. a.at x rest (ap Some e) } in
      on_then first (λ x mid p. on_then (b mid) (λ xs rest q. on_some _ _ _ (q_add x xs p q)))

  pub items_all : (next : Next A) → ((tokens : List Token) → OnItem (next tokens) (λ x rest. P x)) → (n : ℕ) (tokens : List Token) → On (items none add next n tokens) (λ xs rest. Q xs)
  items_all next h zero tokens = on_some _ _ _ q_none
  items_all next h (suc n) tokens = by_all tokens (items none add next n) (next tokens) (h tokens) (items_all next h n)

pub behind_all : {A : Type 0} (k : TokenKind) (item : Reader A) (P : A → Type 0) → ((others : List Token) → On (item others) (λ x rest. P x)) → (tokens : List Token) → OnItem (behind k item tokens) (λ x rest. P x)
behind_all k item P h tokens = by_test (is k (front tokens))
  where
    by_test : (b : Bool) → OnItem (if b then Some (item (after tokens)) else None) (λ x rest. P x)
    by_test true = on_item (h (after tokens))
    by_test false = on_no_item _

-- ---- at least one part

further_list : {A : Type 0} (k : TokenKind) (part : Part A) → IsList [] ◌∷◌ (led k part) (record { spelled = further k part.spelled; lined = further passes part.lined })
further_list k part = record {
  none_spelled = λ rest. refl;
  none_lined = λ steps. refl;
  add_spelled = λ x xs rest. refl;
  add_lined = λ x xs steps. refl;
}

pub several_sound : {A : Type 0} (k : TokenKind) (part : Part A) (item : Reader A) → ((tokens : List Token) → On (item tokens) (BeginsWith part tokens)) → (tokens : List Token) → On (several_of k item tokens) (BeginsWith (several_part k part) tokens)
several_sound k part item h tokens =
    on_then (h tokens) (λ x mid a. on_then (items_sound (further_list k part) _ (behind_sound part k item h) _ mid) (λ xs rest b. on_some _ (record { first = x; more = xs }) rest (join a b)))

-- ---- parts behind a word

pub each_list : {A : Type 0} (part : Part A) → IsList [] ◌∷◌ part (each_part part)
each_list part = record {
  none_spelled = λ rest. refl;
  none_lined = λ steps. refl;
  add_spelled = λ x xs rest. refl;
  add_lined = λ x xs steps. refl;
}

pub starting_sound : {A : Type 0} (begins : Option TokenKind → Bool) (part : Part A) (item : Reader A) → ((tokens : List Token) → On (item tokens) (BeginsWith part tokens)) → (tokens : List Token) → OnItem (starting begins item tokens) (BeginsWith part tokens)
starting_sound begins part item h tokens = by_test (begins (front tokens))
  where
    by_test : (b : Bool) → OnItem (if b then Some (item tokens) else None) (BeginsWith part tokens)
    by_test true = on_item (h tokens)
    by_test false = on_no_item _

pub headed_sound : {A : Type 0} (k : TokenKind) (begins : Option TokenKind → Bool) (part : Part A) (item : Reader A) → ((tokens : List Token) → On (item tokens) (BeginsWith part tokens)) → (tokens : List Token) → On (headed_by k begins item tokens) (BeginsWith (headed_part k part) tokens)
headed_sound k begins part item h tokens =
    on_if (is k (front tokens)) _ _ (λ e. some_there (after tokens) (passed k tokens (is-true k (front tokens) e))) (λ e. on_some _ [] tokens (record { spelled = refl; lined = λ steps. refl }))
  where
    some_there : (mid : List Token) → Passed k tokens mid → On (and_then (item mid) (λ x last. and_then (all_items [] ◌∷◌ (starting begins item) last) (λ xs rest. Read (x ∷ xs, rest)))) (BeginsWith (headed_part k part) tokens)
    some_there mid p =
        on_then (h mid) (λ x last a. on_then (items_sound (each_list part) _ (starting_sound begins part item h) _ last) (λ xs rest b. on_some _ (x ∷ xs) rest (join p (join a b))))

pub on_optional : {A : Type 0} (k : TokenKind) (part : Reader A) (tokens : List Token) (Q : Option A → List Token → Type 0) → Q None tokens → ((mid : List Token) → Passed k tokens mid → On (part mid) (λ x rest. Q (Some x) rest)) → On (optional k part tokens) Q
on_optional k part tokens Q f g =
    on_if (is k (front tokens)) _ _ (λ e. on_then (g (after tokens) (passed k tokens (is-true k (front tokens) e))) (λ x rest q. on_some _ (Some x) rest q)) (λ e. on_some _ None tokens f)

pub on_ended : {A : Type 0} (k : TokenKind) (part : Reader A) (tokens : List Token) {P Q : A → List Token → Type 0} → On (part tokens) P → ((x : A) (mid : List Token) → P x mid → (rest : List Token) → Passed k mid rest → Q x rest) → On (ended k part tokens) Q
on_ended k part tokens a f = on_then a (λ x mid p. on_past k mid (λ rest q. on_some _ x rest (f x mid p rest q)))

pub ended_sound : {A : Type 0} (k : TokenKind) (part : Part A) (item : Reader A) (tokens : List Token) → On (item tokens) (BeginsWith part tokens) → On (ended k item tokens) (BeginsWith (ended_part k part) tokens)
ended_sound k part item tokens h =
    on_ended k item tokens h (λ x mid a rest q. join a q)
