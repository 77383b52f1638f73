-- What loops over items have read.
use Rattle.std.specs.Prelude.{◌≡◌, ℕ, ◌-◌, List, [], ◌∷◌}
use Rattle.spv_tree.specs.declared.tokens.token.Token.{Token}
use Rattle.spv_grammar.specs.reading.Readers.{Outcome, Read, Reader, Next, and_then, items}

-- items in front of a list
abbrev pub put : {A L : Type 0} → (A → L → L) → List A → L → L
put add [] others = others
put add (x ∷ xs) others = add x (put add xs others)

-- all that is read is these items and those that are still to come at the front of the rest, in as many turns as are left
pub record ItemsSoFar {A L : Type 0} (none : L) (add : A → L → L) (next : Next A) (total : Outcome L) (end counter : ℕ) (done : List A) (rest : List Token) : Type 0 where
  pub same : total ≡ and_then (items none add next (end - counter) rest) (λ others behind. Read (put add done others, behind))

-- an item that was read before and the others
abbrev pub first_and : {A : Type 0} → A → Reader (List A) → Reader (List A)
first_and x others tokens = and_then (others tokens) (λ xs rest. Read (x ∷ xs, rest))
