-- The way over the parts of a program, where what stands behind a part may begin with any counters.
use Rattle.std.proofs.Common.{ℕ, suc, max, ◌≤◌, List, [], ◌∷◌, arith}
use Rattle.spv_tree.specs.declared.tokens.token.TokenKind.{TokenKind}
use Rattle.spv_tree.specs.syntax.Lists.{each, further, several, headed}
use Rattle.spv_grammar.specs.nesting.Level.{Counters, past_token, highest}
use Rattle.spv_grammar.proofs.nesting.Climbing.{Climbs, level_low}

-- from these counters the way over `spelled` comes to `rest`, and goes above `depth`
pub record Over (c : Counters) (spelled rest : List TokenKind) (depth : ℕ) : Type 0 where
  pub at : Counters
  pub behind : highest at rest ≤ highest c spelled
  pub deep : suc depth ≤ highest c spelled

-- the same of a kind of parts, wherever one stands
abbrev pub GoesOver : {A : Type 0} → (A → List TokenKind → List TokenKind) → (A → ℕ) → Type 0
GoesOver {A} spelled depth = (x : A) (c : Counters) (rest : List TokenKind) → Over c (spelled x rest) rest (depth x)

-- the same of parts without depth
abbrev pub IsFlat : {A : Type 0} → (A → List TokenKind → List TokenKind) → Type 0
IsFlat {A} spelled = GoesOver spelled (λ x. 0)

pub over_none : (c : Counters) (rest : List TokenKind) → Over c rest rest 0
over_none c rest = record { at = c; behind = omega arith; deep = omega (arith, level_low c rest) }

pub over_both : {c : Counters} {spelled middle rest : List TokenKind} {d e : ℕ} → Over c spelled middle d → ((at : Counters) → Over at middle rest e) → Over c spelled rest (max d e)
over_both a more =
    let b = more a.at in
    record { at = b.at; behind = omega (arith, a.behind, b.behind); deep = omega (arith, a.deep, a.behind, b.deep) }

pub over_token : {c : Counters} {spelled rest : List TokenKind} {d : ℕ} (k : TokenKind) → ((at : Counters) → Over at spelled rest d) → Over c (k ∷ spelled) rest d
over_token {c} k more =
    let a = more (past_token k c) in
    record { at = a.at; behind = omega (arith, a.behind); deep = omega (arith, a.deep) }

pub over_shallower : {c : Counters} {spelled rest : List TokenKind} {d : ℕ} (e : ℕ) → Over c spelled rest d → e ≤ d → Over c spelled rest e
over_shallower e a l = record { at = a.at; behind = a.behind; deep = omega (arith, a.deep) }

-- behind a part without depth
pub over_flat : {c : Counters} {spelled middle rest : List TokenKind} {d : ℕ} → Over c spelled middle 0 → ((at : Counters) → Over at middle rest d) → Over c spelled rest d
over_flat {d} a more = over_shallower d (over_both a more) (omega arith)

pub over_climbs : {A : Type 0} (spelled : A → List TokenKind → List TokenKind) (depth : A → ℕ) → ((x : A) (n : ℕ) (others : List ℕ) (rest : List TokenKind) → Climbs n others (spelled x rest) rest (depth x)) → GoesOver spelled depth
over_climbs spelled depth climbs x c rest =
    let a = climbs x c.last c.others rest in
    record { at = record { last = a.last; others = c.others }; behind = a.behind; deep = omega (arith, a.deep) }

-- ---- lists

module _ {A : Type 0} (spelled : A → List TokenKind → List TokenKind) (flat : IsFlat spelled) where
  pub each_flat : IsFlat (each spelled)
  each_flat [] c rest = over_none c rest
  each_flat (x ∷ xs) c rest = over_flat (flat x c (each spelled xs rest)) (λ at. each_flat xs at rest)

  further_flat : (k : TokenKind) → IsFlat (further k spelled)
  further_flat k [] c rest = over_none c rest
  further_flat k (x ∷ xs) c rest = over_token k (λ at. over_flat (flat x at (further k spelled xs rest)) (λ mid. further_flat k xs mid rest))

  pub several_flat : (k : TokenKind) → IsFlat (several k spelled)
  several_flat k xs c rest = over_flat (flat xs.first c (further k spelled xs.more rest)) (λ at. further_flat k xs.more at rest)

pub over_headed : {A : Type 0} (spelled : A → List TokenKind → List TokenKind) (depth : List A → ℕ) → GoesOver (each spelled) depth → (k : TokenKind) → GoesOver (headed k spelled) depth
over_headed spelled depth over k [] c rest = over [] c rest
over_headed spelled depth over k (x ∷ xs) c rest = over_token k (λ at. over (x ∷ xs) at rest)
