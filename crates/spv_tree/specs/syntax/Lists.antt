-- Lists of parts in a row: what they spell, in front of what follows. What a part spells is given.
use Rattle.std.specs.Prelude.{List, [], ◌∷◌}
use Rattle.spv_tree.specs.declared.syntax.lists.Several.{Several}

-- the parts one after the other
abbrev pub each : {X R : Type 0} → (X → List R → List R) → List X → List R → List R
each spelled [] rest = rest
each spelled (x ∷ xs) rest = spelled x (each spelled xs rest)

-- the parts, each behind a sign
abbrev pub further : {X R : Type 0} → R → (X → List R → List R) → List X → List R → List R
further sign spelled [] rest = rest
further sign spelled (x ∷ xs) rest = sign ∷ spelled x (further sign spelled xs rest)

-- at least one part, and a sign between two of them
abbrev pub several : {X R : Type 0} → R → (X → List R → List R) → Several X → List R → List R
several sign spelled xs rest = spelled xs.first (further sign spelled xs.more rest)

-- a word and the parts; where there are none, no word
abbrev pub headed : {X R : Type 0} → R → (X → List R → List R) → List X → List R → List R
headed word spelled [] rest = rest
headed word spelled (x ∷ xs) rest = word ∷ spelled x (each spelled xs rest)
