use Rattle.std.proofs.Common.{◌+◌, ◌*◌}
use Rattle.spv_tree.specs.declared.tokens.token.TokenKind.TheVariants as kind
use Rattle.spv_tree.specs.declared.tokens.token.Sign.TheVariants as sign
use Rattle.spv_tree.specs.syntax.Statements.{no_more_statements, more_statements, no_more_arms, more_arms}
use Rattle.spv_grammar.specs.reading.Readers.{behind}
use Rattle.spv_grammar.specs.reading.StatementReaders.{read_lower, read_more_statements, read_arm, read_more_arms}
use Rattle.spv_formula_parser.specs.primitives.Lists.{ItemsSoFar}
use Rattle.spv_parser.proofs.statement_parser.+statement.Given as goal

-- each level has twenty places, one for each function
abbrev pub decreases-statements::statement : goal.decreases-statements::statement
decreases-statements::statement l = 20 * l.levels + 9

abbrev pub decreases-statements::with_invariant : goal.decreases-statements::with_invariant
decreases-statements::with_invariant l = 20 * l.levels + 8

abbrev pub decreases-loops::repetition : goal.decreases-loops::repetition
decreases-loops::repetition l = 20 * l.levels + 7

abbrev pub decreases-loops::any_loop : goal.decreases-loops::any_loop
decreases-loops::any_loop l = 20 * l.levels + 6

abbrev pub decreases-loops::while_loop : goal.decreases-loops::while_loop
decreases-loops::while_loop l = 20 * l.levels + 5

abbrev pub decreases-loops::repeat_loop : goal.decreases-loops::repeat_loop
decreases-loops::repeat_loop l = 20 * l.levels + 5

abbrev pub decreases-loops::for_loop : goal.decreases-loops::for_loop
decreases-loops::for_loop l = 20 * l.levels + 5

abbrev pub decreases-statements::compound : goal.decreases-statements::compound
decreases-statements::compound l = 20 * l.levels + 5

abbrev pub decreases-statements::conditional : goal.decreases-statements::conditional
decreases-statements::conditional l = 20 * l.levels + 5

abbrev pub decreases-statements::selection : goal.decreases-statements::selection
decreases-statements::selection l = 20 * l.levels + 5

abbrev pub decreases-statements::block_behind : goal.decreases-statements::block_behind
decreases-statements::block_behind l = 20 * l.levels + 4

abbrev pub decreases-statements::more_arms : goal.decreases-statements::more_arms
decreases-statements::more_arms l = 20 * l.levels + 3

abbrev pub decreases-statements::boxed_arms : goal.decreases-statements::boxed_arms
decreases-statements::boxed_arms l = 20 * l.levels + 4

abbrev pub decreases-statements::arm : goal.decreases-statements::arm
decreases-statements::arm l = 20 * l.levels + 2

abbrev pub decreases-statements::more_statements : goal.decreases-statements::more_statements
decreases-statements::more_statements l = 20 * l.levels + 1

abbrev pub decreases-statements::otherwise : goal.decreases-statements::otherwise
decreases-statements::otherwise l = 20 * l.levels + 2

abbrev pub decreases-statements::boxed : goal.decreases-statements::boxed
decreases-statements::boxed l = 20 * l.levels + 1

abbrev pub decreases-loops::for_behind : goal.decreases-loops::for_behind
decreases-loops::for_behind l = 20 * l.levels + 4

abbrev pub decreases-statements::lower : goal.decreases-statements::lower
decreases-statements::lower l = 20 * l.levels

abbrev pub invariant-statements::more_statements-loop : goal.invariant-statements::more_statements-loop
invariant-statements::more_statements-loop l = ItemsSoFar no_more_statements more_statements (behind (kind.Sign sign.Semicolon) (read_lower l.levels)) (read_more_statements (read_lower l.levels) l.tokens) l.end l.counter l.more.items l.rest

abbrev pub invariant-statements::more_arms-loop : goal.invariant-statements::more_arms-loop
invariant-statements::more_arms-loop l = ItemsSoFar no_more_arms more_arms (behind (kind.Sign sign.Semicolon) (read_arm (read_lower l.levels))) (read_more_arms (read_lower l.levels) l.tokens) l.end l.counter l.more.items l.rest
