-- Statements behind their first word.
use Rattle.std.specs.Prelude.{ℕ, Some}
use Rattle.spv_tree.specs.declared.syntax.names.Name.{Name}
use Rattle.spv_tree.specs.syntax.Formulas.{designator, Selectors}
use Rattle.spv_tree.specs.syntax.Statements.{Statement, assignment, compound, assertion}
use Rattle.spv_grammar.specs.reading.Readers.{Read, Reader, and_then}
use Rattle.spv_grammar.specs.reading.FormulaReaders.{read_formula}
use Rattle.spv_grammar.specs.reading.StatementReaders.{read_block_behind, read_repetition, read_lower}

-- formula, behind a name, its selectors and the sign
abbrev pub read_assigned : ℕ → Name → Selectors → Reader Statement
read_assigned n x selected tokens = and_then (read_formula n tokens) (λ f rest. Read (assignment x.line (designator x.line x selected) f, rest))

-- statement {";" statement} END, behind BEGIN on this line
abbrev pub read_compound : ℕ → ℕ → Reader Statement
read_compound n line tokens = and_then (read_block_behind (read_lower n) line tokens) (λ b rest. Read (compound line b, rest))

-- formula loop, behind INVARIANT on this line
abbrev pub read_with_invariant : ℕ → ℕ → Reader Statement
read_with_invariant n line tokens = and_then (read_formula n tokens) (λ f rest. read_repetition (read_lower n) (read_formula n) line (Some f) rest)

-- formula, behind ASSERT on this line
abbrev pub read_assertion : ℕ → ℕ → Reader Statement
read_assertion n line tokens = and_then (read_formula n tokens) (λ f rest. Read (assertion line f, rest))
