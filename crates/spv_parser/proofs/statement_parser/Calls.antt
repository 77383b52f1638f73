-- What begins with a name and is no assignment.
use Rattle.std.proofs.Common.{false, if◌then◌else◌, ◌≡◌, ◌≤◌, List, [], ◌∷◌, sym, ap, arith, length}
use Rattle.spv_tree.specs.declared.tokens.token.Token.{Token}
use Rattle.spv_tree.specs.declared.tokens.token.TokenKind.TheVariants as kind
use Rattle.spv_tree.specs.declared.tokens.token.Sign.TheVariants as sign
use Rattle.spv_tree.specs.declared.syntax.names.Name.{Name}
use Rattle.spv_tree.specs.syntax.Formulas.{Formula, designator, Selector}
use Rattle.spv_tree.specs.syntax.Model.FormulaSizes.{selectors_of}
use Rattle.spv_tree.specs.syntax.Statements.{assignment}
use Rattle.spv_grammar.specs.reading.Readers.{Read, Reader, misfit, front, after, is, and_then}
use Rattle.spv_grammar.specs.reading.StatementReaders.{read_plain_call, read_becomes}

-- a name with selectors is no call
pub no_call : (read inner : Reader Formula) (x : Name) (ss : List Selector) (tokens : List Token) → 1 ≤ length ss → false ≡ is (kind.Sign sign.Becomes) (front tokens) → read_becomes read inner x (selectors_of ss) tokens ≡ misfit tokens
no_call read inner x [] tokens some e = absurd (omega (arith, some))
no_call read inner x (s ∷ ss) tokens some e =
    ap (λ b. if b then and_then (read (after tokens)) (λ f rest. Read (assignment x.line (designator x.line x (selectors_of (s ∷ ss))) f, rest)) else read_plain_call x (selectors_of (s ∷ ss)) tokens) (sym e)
