use Rattle.std.proofs.Common.{◌≡◌, ◌∙◌, rules, sym, subst, true, false, ℕ, ◌<◌}
use Rattle.spv_arithmetic_side.proofs.constraint_rows.Opposing.{kept_at, opposed_over, opposed_under}
use Rattle.spv_arithmetic_side.proofs.constraint_rows.standing.Standing.opposed.Goals as goal

pub returns-then-is_over : goal.returns-then-is_over
returns-then-is_over c =
    let yes : c.is_over.result ≡ true = search rules in
    opposed_over c.args.self.now c.args.row c.args.saying c.args.fact c.index-kept.result.now
    (kept_at c.args.self.now.sources.items c.args.row c.index-kept.result.now (subst (λ (n : ℕ). c.args.row < n) (sym c.requires.standing.sources) c.requires.row) c.index-kept.ensures) c.requires.opposed c.says_equal.result c.says_equal.ensures
    (sym c.is_over.ensures ∙ yes)

pub returns-else-is_over : goal.returns-else-is_over
returns-else-is_over c =
    let no : c.is_over.result ≡ false = search rules in
    opposed_under c.args.self.now c.args.row c.args.saying c.args.fact c.index-kept.result.now
    (kept_at c.args.self.now.sources.items c.args.row c.index-kept.result.now (subst (λ (n : ℕ). c.args.row < n) (sym c.requires.standing.sources) c.requires.row) c.index-kept.ensures) c.requires.opposed c.says_equal.result c.says_equal.ensures
    (sym c.is_over.ensures ∙ no)
