-- The level of a text, and of the parts that stand in it.
use Rattle.std.proofs.Common.{◌≡◌, ℕ, ◌≤◌, Bool, true, false, if◌then◌else◌, nat_lt, List, [], ◌∷◌, ◌++◌, Option, Some, None, refl, subst, arith}
use Rattle.std.proofs.lemmas.Bool.Decides.{nat_tests}
use Rattle.spv_tree.specs.declared.tokens.token.Token.{Token}
use Rattle.spv_tree.specs.declared.tokens.token.TokenKind.{TokenKind}
use Rattle.spv_tree.specs.syntax.Reads.{kinds}
use Rattle.spv_grammar.specs.reading.Readers.{Reader}
use Rattle.spv_grammar.specs.reading.Laws.{TreeIsRead}
use Rattle.spv_grammar.specs.nesting.Level.{Counters, at_first, level, past_token, highest, too_deep_from}
use Rattle.spv_grammar.specs.nesting.Laws.{GoesUpBy, IsShallow, LowIsRead}
use Rattle.spv_grammar.proofs.nesting.Over.{GoesOver, over_climbs}
use Rattle.spv_grammar.proofs.nesting.Climbing.{Climbs, level_low}

-- no token so far is too deep, and the next one is none either
low_step : (n line : ℕ) (b : Bool) (others : Option ℕ) → nat_lt 200 n ≡ b → (if b then Some line else others) ≡ None → (n ≤ 200) × (others ≡ None)
low_step n line true others e h = absurd (cc)
low_step n line false others e h = (grind (arith, nat_tests), h)

low_next : (c : Counters) (t : Token) (tokens : List Token) → too_deep_from c (t ∷ tokens) ≡ None → (level (past_token t.kind c) ≤ 200) × (too_deep_from (past_token t.kind c) tokens ≡ None)
low_next c t tokens h = low_step (level (past_token t.kind c)) t.line _ (too_deep_from (past_token t.kind c) tokens) refl h

pub low_from : (c : Counters) (tokens : List Token) → level c ≤ 200 → too_deep_from c tokens ≡ None → highest c (kinds tokens) ≤ 200
low_from c [] l h = l
low_from c (t ∷ tokens) l h =
    let p = low_next c t tokens h in
    omega (arith, l, low_from (past_token t.kind c) tokens p.0 p.1)

none_step : (n line : ℕ) (b : Bool) (others : Option ℕ) → nat_lt 200 n ≡ b → n ≤ 200 → others ≡ None → (if b then Some line else others) ≡ None
none_step n line true others e l h = absurd (grind (arith, nat_tests))
none_step n line false others e l h = h

pub none_from : (c : Counters) (tokens : List Token) → highest c (kinds tokens) ≤ 200 → too_deep_from c tokens ≡ None
none_from c [] h = refl
none_from c (t ∷ tokens) h =
    let low : highest (past_token t.kind c) (kinds tokens) ≤ 200 = omega (arith, h) in
    none_step (level (past_token t.kind c)) t.line _ (too_deep_from (past_token t.kind c) tokens) refl (omega (arith, low, level_low (past_token t.kind c) (kinds tokens))) (none_from (past_token t.kind c) tokens low)

-- the counters where a part of a text begins
record Reached (tokens : List Token) : Type 0 where
  at : Counters
  low : highest at (kinds tokens) ≤ 200

reached : (c : Counters) (before tokens : List Token) → level c ≤ 200 → too_deep_from c (before ++ tokens) ≡ None → Reached tokens
reached c [] tokens l h = record { at = c; low = low_from c tokens l h }
reached c (t ∷ before) tokens l h =
    let p = low_next c t (before ++ tokens) h in
    reached (past_token t.kind c) before tokens p.0 p.1

-- ---- what is promised

pub goes_up : {A : Type 0} (depth : A → ℕ) (spelled : A → List TokenKind → List TokenKind) → ((x : A) (n : ℕ) (others : List ℕ) (rest : List TokenKind) → Climbs n others (spelled x rest) rest (depth x)) → GoesUpBy depth spelled
goes_up depth spelled climbs x c rest = (climbs x c.last c.others rest).deep

pub is_shallow : {A : Type 0} (depth : A → ℕ) (spelled : A → List TokenKind → List TokenKind) → GoesOver spelled depth → IsShallow depth spelled
is_shallow depth spelled over before tokens x rest h e =
    let r = reached at_first before tokens (omega arith) h in
    let low : highest r.at (spelled x rest) ≤ 200 = subst (λ (ks : List TokenKind). highest r.at ks ≤ 200) e r.low in
    omega (arith, (over x r.at rest).deep, low)

pub part_is_shallow : {A : Type 0} (depth : A → ℕ) (spelled : A → List TokenKind → List TokenKind) → ((x : A) (n : ℕ) (others : List ℕ) (rest : List TokenKind) → Climbs n others (spelled x rest) rest (depth x)) → IsShallow depth spelled
part_is_shallow depth spelled climbs = is_shallow depth spelled (over_climbs spelled depth climbs)

module _ {A : Type 0} (read : ℕ → Reader A) (depth : A → ℕ) (spelled : A → List TokenKind → List TokenKind) (reads : List Token → A → Type 0) where
  pub low_is_read : TreeIsRead read depth reads → ((tokens : List Token) (x : A) → reads tokens x → kinds tokens ≡ spelled x []) → IsShallow depth spelled → LowIsRead read reads
  low_is_read is_read is_spelled shallow n tokens x l h r =
      let d = shallow [] tokens x [] h (is_spelled tokens x r) in
      is_read n tokens x (omega (arith, d)) r
