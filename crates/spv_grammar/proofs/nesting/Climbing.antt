-- How the level rises on the way over the tokens of a part.
use Rattle.std.proofs.Common.{◌≡◌, ℕ, suc, ◌+◌, max, ◌≤◌, List, [], ◌∷◌, length, ap, arith}
use Rattle.std.specs.List.{sum}
use Rattle.std.proofs.lemmas.List.Sums.{sum_by-cons}
use Rattle.spv_tree.specs.declared.tokens.token.TokenKind.{TokenKind}
use Rattle.spv_tree.specs.declared.syntax.lists.Several.{Several}
use Rattle.spv_tree.specs.syntax.Lists.{further, several}
use Rattle.spv_grammar.specs.declared.nesting.effects.Effect.{Effect}
use Rattle.spv_grammar.specs.declared.nesting.effects.Effect.TheVariants.{Opens, Closes, Restarts, Counts, Passes}
use Rattle.spv_grammar.specs.nesting.Effects.{effect_of}
use Rattle.spv_grammar.specs.nesting.Level.{Counters, level, changed, highest}

abbrev pub counters : ℕ → List ℕ → Counters
counters n others = record { last = n; others = others }

-- from these counters the way over `spelled` comes to `rest` with a last counter that did not fall, and goes up by `depth`
pub record Climbs (n : ℕ) (others : List ℕ) (spelled rest : List TokenKind) (depth : ℕ) : Type 0 where
  pub last : ℕ
  pub risen : n ≤ last
  pub behind : highest (counters last others) rest ≤ highest (counters n others) spelled
  pub deep : level (counters n others) + depth ≤ highest (counters n others) spelled

-- the same inside brackets, where the last counter may be set to 0; `depth` is counted from outside
pub record ClimbsInside (n outside : ℕ) (others : List ℕ) (spelled rest : List TokenKind) (depth : ℕ) : Type 0 where
  pub last : ℕ
  pub behind : highest (counters last (outside ∷ others)) rest ≤ highest (counters n (outside ∷ others)) spelled
  pub deep : level (counters outside others) + depth ≤ highest (counters n (outside ∷ others)) spelled

pub level_low : (c : Counters) (kinds : List TokenKind) → level c ≤ highest c kinds
level_low c [] = omega arith
level_low c (k ∷ kinds) = omega arith

sum-cons : (n : ℕ) (others : List ℕ) → sum (n ∷ others) ≡ n + sum others
sum-cons n others = sum_by-cons (λ m. m) n others

level_is : (n : ℕ) (others : List ℕ) → level (counters n others) ≡ suc (length others) + (n + sum others)
level_is n others = omega (arith, sum-cons n others)

level_outside : (n outside : ℕ) (others : List ℕ) → level (counters n (outside ∷ others)) ≡ suc (n + level (counters outside others))
level_outside n outside others = omega (arith, level_is n (outside ∷ others), level_is outside others, sum-cons outside others)

-- ---- what a token does, by its effect

by_effect : (k : TokenKind) (e : Effect) → effect_of k ≡ e → (c : Counters) (kinds : List TokenKind) → highest c (k ∷ kinds) ≡ max (level c) (highest (changed e c) kinds)
by_effect k e is c kinds = ap (λ (f : Effect). max (level c) (highest (changed f c) kinds)) is

at_opening : (k : TokenKind) → effect_of k ≡ Opens → (n : ℕ) (others : List ℕ) (kinds : List TokenKind) → highest (counters n others) (k ∷ kinds) ≡ max (level (counters n others)) (highest (counters 0 (n ∷ others)) kinds)
at_opening k is n others kinds = by_effect k Opens is (counters n others) kinds

at_closing : (k : TokenKind) → effect_of k ≡ Closes → (n outside : ℕ) (others : List ℕ) (kinds : List TokenKind) → highest (counters n (outside ∷ others)) (k ∷ kinds) ≡ max (level (counters n (outside ∷ others))) (highest (counters outside others) kinds)
at_closing k is n outside others kinds = by_effect k Closes is (counters n (outside ∷ others)) kinds

at_restart : (k : TokenKind) → effect_of k ≡ Restarts → (n : ℕ) (others : List ℕ) (kinds : List TokenKind) → highest (counters n others) (k ∷ kinds) ≡ max (level (counters n others)) (highest (counters 0 others) kinds)
at_restart k is n others kinds = by_effect k Restarts is (counters n others) kinds

at_count : (k : TokenKind) → effect_of k ≡ Counts → (n : ℕ) (others : List ℕ) (kinds : List TokenKind) → highest (counters n others) (k ∷ kinds) ≡ max (level (counters n others)) (highest (counters (suc n) others) kinds)
at_count k is n others kinds = by_effect k Counts is (counters n others) kinds

at_pass : (k : TokenKind) → effect_of k ≡ Passes → (n : ℕ) (others : List ℕ) (kinds : List TokenKind) → highest (counters n others) (k ∷ kinds) ≡ max (level (counters n others)) (highest (counters n others) kinds)
at_pass k is n others kinds = by_effect k Passes is (counters n others) kinds

-- ---- parts in a row

pub climbs_none : (n : ℕ) (others : List ℕ) (rest : List TokenKind) → Climbs n others rest rest 0
climbs_none n others rest = record { last = n; risen = omega arith; behind = omega arith; deep = omega (arith, level_low (counters n others) rest) }

pub shallower : {n : ℕ} {others : List ℕ} {spelled rest : List TokenKind} {d : ℕ} (e : ℕ) → Climbs n others spelled rest d → e ≤ d → Climbs n others spelled rest e
shallower e a l = record { last = a.last; risen = a.risen; behind = a.behind; deep = omega (arith, a.deep) }

pub climbs_both : {n : ℕ} {others : List ℕ} {spelled middle rest : List TokenKind} {d e : ℕ} → Climbs n others spelled middle d → ((m : ℕ) → Climbs m others middle rest e) → Climbs n others spelled rest (max d e)
climbs_both {n} {others} a more =
    let b = more a.last in
    record {
      last = b.last;
      risen = omega (arith, a.risen, b.risen);
      behind = omega (arith, a.behind, b.behind);
      deep = omega (arith, a.deep, a.behind, a.risen, b.deep, level_is n others, level_is a.last others);
    }

-- ---- a token in front

pub climbs_past : {n : ℕ} {others : List ℕ} {spelled rest : List TokenKind} {d : ℕ} (k : TokenKind) → effect_of k ≡ Passes → Climbs n others spelled rest d → Climbs n others (k ∷ spelled) rest d
climbs_past {n} {others} {spelled} k e a =
    let h = at_pass k e n others spelled in
    record { last = a.last; risen = a.risen; behind = omega (arith, h, a.behind); deep = omega (arith, h, a.deep) }

pub climbs_counted : {n : ℕ} {others : List ℕ} {spelled rest : List TokenKind} {d : ℕ} (k : TokenKind) → effect_of k ≡ Counts → Climbs (suc n) others spelled rest d → Climbs n others (k ∷ spelled) rest (suc d)
climbs_counted {n} {others} {spelled} k e a =
    let h = at_count k e n others spelled in
    record {
      last = a.last;
      risen = omega (arith, a.risen);
      behind = omega (arith, h, a.behind);
      deep = omega (arith, h, a.deep, level_is n others, level_is (suc n) others);
    }

-- ---- inside brackets

pub inside_none : (n outside : ℕ) (others : List ℕ) (rest : List TokenKind) → ClimbsInside n outside others rest rest 0
inside_none n outside others rest = record {
  last = n;
  behind = omega arith;
  deep = omega (arith, level_low (counters n (outside ∷ others)) rest, level_outside n outside others);
}

pub inside_of : {n outside : ℕ} {others : List ℕ} {spelled rest : List TokenKind} {d : ℕ} → Climbs n (outside ∷ others) spelled rest d → ClimbsInside n outside others spelled rest (suc d)
inside_of {n} {outside} {others} a = record { last = a.last; behind = a.behind; deep = omega (arith, a.deep, level_outside n outside others) }

pub inside_both : {n outside : ℕ} {others : List ℕ} {spelled middle rest : List TokenKind} {d e : ℕ} → ClimbsInside n outside others spelled middle d → ((m : ℕ) → ClimbsInside m outside others middle rest e) → ClimbsInside n outside others spelled rest (max d e)
inside_both a more =
    let b = more a.last in
    record { last = b.last; behind = omega (arith, a.behind, b.behind); deep = omega (arith, a.deep, a.behind, b.deep) }

pub inside_first : {n outside : ℕ} {others : List ℕ} {spelled middle rest : List TokenKind} {d e : ℕ} → Climbs n (outside ∷ others) spelled middle d → ((m : ℕ) → ClimbsInside m outside others middle rest e) → ClimbsInside n outside others spelled rest (max (suc d) e)
inside_first a more = inside_both (inside_of a) more

pub inside_shallower : {n outside : ℕ} {others : List ℕ} {spelled rest : List TokenKind} {d : ℕ} (e : ℕ) → ClimbsInside n outside others spelled rest d → e ≤ d → ClimbsInside n outside others spelled rest e
inside_shallower e a l = record { last = a.last; behind = a.behind; deep = omega (arith, a.deep) }

pub inside_past : {n outside : ℕ} {others : List ℕ} {spelled rest : List TokenKind} {d : ℕ} (k : TokenKind) → effect_of k ≡ Passes → ClimbsInside n outside others spelled rest d → ClimbsInside n outside others (k ∷ spelled) rest d
inside_past {n} {outside} {others} {spelled} k e a =
    let h = at_pass k e n (outside ∷ others) spelled in
    record { last = a.last; behind = omega (arith, h, a.behind); deep = omega (arith, h, a.deep) }

-- behind a token that sets the last counter to 0
pub inside_more : {n outside : ℕ} {others : List ℕ} {spelled rest : List TokenKind} {d : ℕ} (k : TokenKind) → effect_of k ≡ Restarts → ClimbsInside 0 outside others spelled rest d → ClimbsInside n outside others (k ∷ spelled) rest d
inside_more {n} {outside} {others} {spelled} k e a =
    let h = at_restart k e n (outside ∷ others) spelled in
    record { last = a.last; behind = omega (arith, h, a.behind); deep = omega (arith, h, a.deep) }

pub climbs_brackets : {n : ℕ} {others : List ℕ} {spelled rest : List TokenKind} {d : ℕ} (opening closing : TokenKind) → effect_of opening ≡ Opens → effect_of closing ≡ Closes → ClimbsInside 0 n others spelled (closing ∷ rest) d → Climbs n others (opening ∷ spelled) rest d
climbs_brackets {n} {others} {spelled} {rest} opening closing e f a =
    let g = at_opening opening e n others spelled in
    let h = at_closing closing f a.last n others rest in
    record { last = n; risen = omega arith; behind = omega (arith, g, h, a.behind); deep = omega (arith, g, a.deep) }

-- parts without depth, each behind a token that sets the last counter to 0
pub inside_further : {X : Type 0} (spelled : X → List TokenKind → List TokenKind) (k : TokenKind) → effect_of k ≡ Restarts → ((x : X) (n : ℕ) (others : List ℕ) (rest : List TokenKind) → Climbs n others (spelled x rest) rest 0) → (xs : List X) (n outside : ℕ) (others : List ℕ) (rest : List TokenKind) → ClimbsInside n outside others (further k spelled xs rest) rest 0
inside_further spelled k e climbs [] n outside others rest = inside_none n outside others rest
inside_further spelled k e climbs (x ∷ xs) n outside others rest =
    inside_shallower 0 (inside_more k e (inside_first (climbs x 0 (outside ∷ others) (further k spelled xs rest)) (λ m. inside_further spelled k e climbs xs m outside others rest))) (omega arith)

pub inside_several : {X : Type 0} (spelled : X → List TokenKind → List TokenKind) (k : TokenKind) → effect_of k ≡ Restarts → ((x : X) (n : ℕ) (others : List ℕ) (rest : List TokenKind) → Climbs n others (spelled x rest) rest 0) → (xs : Several X) (n outside : ℕ) (others : List ℕ) (rest : List TokenKind) → ClimbsInside n outside others (several k spelled xs rest) rest 0
inside_several spelled k e climbs xs n outside others rest =
    inside_shallower 0 (inside_first (climbs xs.first n (outside ∷ others) (further k spelled xs.more rest)) (λ m. inside_further spelled k e climbs xs.more m outside others rest)) (omega arith)
