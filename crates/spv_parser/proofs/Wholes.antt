-- A whole text: what is read to its end, and what no tree reads.
use Rattle.std.proofs.Common.{◌≡◌, ℕ, ◌≤◌, ◌<◌, List, [], ◌∷◌, length, refl, sym, ap, ◌∙◌, subst, arith}
use Rattle.std.specs.Prelude.{Some, None}
use Rattle.spv_tree.specs.declared.tokens.token.Token.{Token}
use Rattle.spv_grammar.specs.first_sets.Lines.{line_where}
use Rattle.spv_grammar.specs.first_sets.Begins.{GoesWrongAt}
use Rattle.spv_grammar.specs.reading.Readers.{Stop, wrong, Outcome, Read, Halted, Reader}
use Rattle.spv_grammar.specs.reading.RoutineReaders.{read_whole}
use Rattle.spv_grammar.specs.reading.Laws.{ReadIsTree}
use Rattle.spv_grammar.specs.nesting.Laws.{LowIsRead}
use Rattle.spv_grammar.specs.expected_tokens.Laws.{ReadTheSame}
use Rattle.spv_formula_parser.specs.declared.primitives.fault.Fault.{Fault}
use Rattle.spv_formula_parser.specs.declared.primitives.fault.Fault.TheVariants as fault
use Rattle.spv_parser.specs.declared.refused.SyntaxFault.{SyntaxFault}
use Rattle.spv_parser.specs.declared.refused.SyntaxFault.TheVariants.{Profile, TooDeep, Syntax, Memory}
use Rattle.spv_formula_parser.specs.primitives.Faults.{IsStop}
use Rattle.spv_parser.specs.Causes.{IsAllowed, IsRefusalOf, HasTreeCause}

nothing_left : {A : Type 0} (x : A) (rest : List Token) → length rest < 1 → read_whole (Read (x, rest)) ≡ Some x
nothing_left x [] none = refl
nothing_left x (t ∷ rest) none = absurd (omega (arith, none))

left_over : {A : Type 0} (x : A) (rest : List Token) → 1 ≤ length rest → read_whole (Read (x, rest)) ≡ None
left_over x [] some = absurd (omega (arith, some))
left_over x (t ∷ rest) some = refl

module _ {A : Type 0} (read : ℕ → Reader A) (reads : List Token → A → Type 0) (n : ℕ) where
  -- what is read to the end of the tokens is their tree
  pub whole_tree : {tokens rest : List Token} {x : A} → ReadIsTree read reads → read n tokens ≡ Read (x, rest) → length rest < 1 → reads tokens x
  whole_tree {tokens} {rest} {x} law e none = law n tokens x (ap read_whole e ∙ nothing_left x rest none)

  none_whole : {tokens : List Token} → 199 ≤ n → LowIsRead read reads → IsAllowed tokens → read_whole (read n tokens) ≡ None → (y : A) → reads tokens y → ⊥
  none_whole {tokens} enough law allowed e y r =
      let found : read_whole (read n tokens) ≡ Some y = law n tokens y enough allowed.shallow r in
      cc (e, found)

  -- where something is left behind what is read, no tree reads the tokens
  pub none_with_more : {tokens rest : List Token} {x : A} → 199 ≤ n → LowIsRead read reads → IsAllowed tokens → read n tokens ≡ Read (x, rest) → 1 ≤ length rest → (y : A) → reads tokens y → ⊥
  none_with_more {tokens} {rest} {x} enough law allowed e some = none_whole enough law allowed (ap read_whole e ∙ left_over x rest some)

  -- nor where nothing is read
  pub none_where_halted : {tokens : List Token} {s : Stop} → 199 ≤ n → LowIsRead read reads → IsAllowed tokens → read n tokens ≡ Halted s → (y : A) → reads tokens y → ⊥
  none_where_halted {tokens} enough law allowed e = none_whole enough law allowed (ap read_whole e)

-- ---- the same of a reader that reads the same

module _ {A : Type 0} (one other : ℕ → Reader A) (reads : List Token → A → Type 0) (same : ReadTheSame one other) where
  pub same_tree : ReadIsTree other reads → ReadIsTree one reads
  same_tree law n tokens x e = law n tokens x (sym (same n tokens) ∙ e)

  pub same_low : LowIsRead other reads → LowIsRead one reads
  same_low law n tokens x enough shallow r = same n tokens ∙ law n tokens x enough shallow r

-- ---- so the refusal has its cause

module _ {A : Type 0} (reads : List Token → A → Type 0) where
  pub refused : {tokens : List Token} (r : SyntaxFault) (left : ℕ) → IsAllowed tokens → ((y : A) → reads tokens y → ⊥) → GoesWrongAt reads tokens (line_where tokens left) → IsRefusalOf tokens (fault.Syntax left) r → HasTreeCause reads tokens r
  refused {tokens} (Syntax line) left allowed none w h = (allowed, none, subst (λ (l : ℕ). GoesWrongAt reads tokens l) (sym h) w)
  refused (Profile line word) left allowed none w h = absurd h
  refused (TooDeep line) left allowed none w h = absurd h
  refused Memory left allowed none w h = absurd h

  -- of a fault of reading
  pub refused_by : {tokens : List Token} (f : Fault) (r : SyntaxFault) → IsAllowed tokens → ((left : ℕ) → IsStop (wrong left) f → ((y : A) → reads tokens y → ⊥) × GoesWrongAt reads tokens (line_where tokens left)) → IsRefusalOf tokens f r → HasTreeCause reads tokens r
  refused_by {tokens} (fault.Syntax left) r allowed w h = let both = w left refl in refused r left allowed both.0 both.1 h
  refused_by {tokens} (fault.Deep left) Memory allowed w h = tt
  refused_by {tokens} fault.Memory Memory allowed w h = tt
  refused_by {tokens} (fault.Deep left) (Profile line word) allowed w h = absurd h
  refused_by {tokens} (fault.Deep left) (TooDeep line) allowed w h = absurd h
  refused_by {tokens} (fault.Deep left) (Syntax line) allowed w h = absurd h
  refused_by {tokens} fault.Memory (Profile line word) allowed w h = absurd h
  refused_by {tokens} fault.Memory (TooDeep line) allowed w h = absurd h
  refused_by {tokens} fault.Memory (Syntax line) allowed w h = absurd h

-- what is left over is not nothing
pub front_left : {A : Type 0} {o : Outcome A} {x : A} {rest : List Token} {left : ℕ} (goes_wrong : ℕ → Type 0) → o ≡ Read (x, rest) → 1 ≤ length rest → left ≡ length rest → ((t : Token) (others : List Token) → o ≡ Read (x, t ∷ others) → goes_wrong (length (t ∷ others))) → goes_wrong left
front_left {rest = []} goes_wrong e some is w = absurd (omega (arith, some))
front_left {rest = t ∷ others} goes_wrong e some is w = subst (λ (l : ℕ). goes_wrong l) (sym is) (w t others e)
