use Rattle.std.proofs.Common.{[], sym, ap, subst}
use Rattle.std.specs.Prelude.{Err}
use Rattle.spv_term.specs.declared.nodes.TermFault.TheVariants.{Size}
use Rattle.spv_term.specs.Arena.{node}
use Rattle.spv_term.specs.substitution.Parts.{Lacks}
use Rattle.spv_term.proofs.substitution.Exits.{same_fault}
use Rattle.spv_term.proofs.substitution.MakeLemmas.{adds_node, lacks_tree}
use Rattle.spv_program.specs.Terms.{alone}
use Rattle.spv_assign.proofs.supply.supply.alone.Goals as goal

pub returns-in_err-t-clause-size : goal.returns-in_err-t-clause-size
returns-in_err-t-clause-size c =
    λ is.
    subst (λ b. Lacks b (alone c.args.head)) (sym c.in_err-t.ensures.unchanged)
    (lacks_tree c.args.terms.now c.law_arena.ensures c.args.head [] tt (c.in_err-t.ensures.size (ap Err (same_fault c.in_err-t.field-0.0 c.from_residual.result c.from_residual.ensures.1 Size is))))

pub returns-clause-only : goal.returns-clause-only
returns-clause-only c =
    adds_node c.args.terms.now c.make.new.self (node c.args.head []) c.in_ok-t.ensures.arena c.in_ok-t.t (alone c.args.head) c.in_ok-t.ensures.id c.in_ok-t.ensures.tree
