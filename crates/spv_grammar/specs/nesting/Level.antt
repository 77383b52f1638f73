-- How deep a text goes: the level after each of its tokens.
use Rattle.std.specs.Prelude.{ℕ, suc, ◌+◌, max, nat_lt, if◌then◌else◌, List, [], ◌∷◌, Option, Some, None, length}
use Rattle.std.specs.List.{sum}
use Rattle.spv_tree.specs.declared.tokens.token.Token.{Token}
use Rattle.spv_tree.specs.declared.tokens.token.TokenKind.{TokenKind}
use Rattle.spv_grammar.specs.declared.nesting.effects.Effect.{Effect}
use Rattle.spv_grammar.specs.declared.nesting.effects.Effect.TheVariants.{Opens, Closes, Restarts, Counts, Passes}
use Rattle.spv_grammar.specs.nesting.Effects.{effect_of}

-- the counters: the last one, and those before it, the nearest first
pub record Counters : Type 0 where
  pub last : ℕ
  pub others : List ℕ

-- one counter, which is 0
abbrev pub at_first : Counters
at_first = record { last = 0; others = [] }

-- the number of the counters and their sum
abbrev pub level : Counters → ℕ
level c = length (c.last ∷ c.others) + sum (c.last ∷ c.others)

-- the counters without the last, if it is not the only one
abbrev pub closed : ℕ → List ℕ → Counters
closed last [] = record { last = last; others = [] }
closed last (n ∷ others) = record { last = n; others = others }

abbrev pub changed : Effect → Counters → Counters
changed Opens c = record { last = 0; others = c.last ∷ c.others }
changed Closes c = closed c.last c.others
changed Restarts c = record { last = 0; others = c.others }
changed Counts c = record { last = suc c.last; others = c.others }
changed Passes c = c

-- the counters after a token
abbrev pub past_token : TokenKind → Counters → Counters
past_token k c = changed (effect_of k) c

-- the highest level on the way over tokens
abbrev pub highest : Counters → List TokenKind → ℕ
highest c [] = level c
highest c (k ∷ kinds) = max (level c) (highest (past_token k c) kinds)

-- the line of the token with which the level first goes above 200
abbrev pub too_deep_from : Counters → List Token → Option ℕ
too_deep_from c [] = None
too_deep_from c (t ∷ tokens) = if nat_lt 200 (level (past_token t.kind c)) then Some t.line else too_deep_from (past_token t.kind c) tokens

abbrev pub too_deep : List Token → Option ℕ
too_deep tokens = too_deep_from at_first tokens
