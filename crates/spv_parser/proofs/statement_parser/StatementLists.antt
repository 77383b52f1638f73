-- The lists in statements.
use Rattle.std.proofs.Common.{◌≡◌, ℕ, zero, suc, ◌-◌, List, [], ◌∷◌, refl, sym, ap, arith}
use Rattle.spv_tree.specs.declared.tokens.token.Token.{Token}
use Rattle.spv_tree.specs.syntax.Statements.{Statement, Arm, no_more_statements, more_statements, no_more_arms, more_arms}
use Rattle.spv_tree.specs.syntax.Model.StatementSizes.{more_statements_of, more_arms_of}
use Rattle.spv_grammar.specs.reading.StatementReaders.{read_lower, read_statement}
use Rattle.spv_formula_parser.specs.primitives.Lists.{put}

pub put-more_statements : (ss : List Statement) → put more_statements ss no_more_statements ≡ more_statements_of ss
put-more_statements [] = refl
put-more_statements (s ∷ ss) = ap (more_statements s) (put-more_statements ss)

pub put-more_arms : (arms : List Arm) → put more_arms arms no_more_arms ≡ more_arms_of arms
put-more_arms [] = refl
put-more_arms (a ∷ arms) = ap (more_arms a) (put-more_arms arms)

pub one_lower : (n : ℕ) (tokens : List Token) → (n ≡ 0 → ⊥) → read_lower n tokens ≡ read_statement (n - 1) tokens
one_lower zero tokens above = absurd (above refl)
one_lower (suc n) tokens above =
    let is_same : suc n - 1 ≡ n = omega arith in
    ap (λ m. read_statement m tokens) (sym is_same)
