use Rattle.std.proofs.Common.{◌≡◌, length, IfOk, refl, sym, subst}
use Rattle.std.proofs.lemmas.Bool.{ltb-true}
use Rattle.spv_logic.specs.declared.operators.Head.TheVariants as head
use Rattle.spv_term.specs.Arena.{sort_at}
use Rattle.spv_term.proofs.ArenaLemmas.{Extends-refl}
use Rattle.spv_term.proofs.substitution.MakeLemmas.{adds_nothing}
use Rattle.spv_program.specs.Supplies.{fresh_like}
use Rattle.spv_program.specs.Terms.{alone}
use Rattle.spv_term.specs.substitution.Parts.{AddsOnly, Lacks}
use Rattle.spv_assign.specs.supply.Numbers.{IsFresh, supply_of}
use Rattle.spv_assign.proofs.supply.FreshLemmas.{head_there, range_there, sort_there, start_fresh}
use Rattle.spv_assign.proofs.supply.supply.Supply.fresh_like.Goals as goal

pub fresh_variable-requires : goal.fresh_variable-requires
fresh_variable-requires c = range_there c.args.terms.now c.law_arena.ensures c.args.t c.node.result.now c.node.ensures (head.Var c.in-Var.name c.in-Var.sort c.in-Var.field-2) c.in-Var.is

pub fresh_class-requires : goal.fresh_class-requires
fresh_class-requires c =
    ltb-true c.in-ClassVar.class.0 (length c.args.terms.now.shapes)
    (range_there c.args.terms.now c.law_arena.ensures c.args.t c.node.result.now c.node.ensures (head.ClassVar c.in-ClassVar.class c.in-ClassVar.field-1) c.in-ClassVar.is)

pub returns-in-Var-clause-fresh : goal.returns-in-Var-clause-fresh
returns-in-Var-clause-fresh c =
    subst (λ h. IfOk c.fresh_variable.result (λ u. IsFresh c.fresh_variable.new.terms u c.fresh_variable.new.self (fresh_like h (supply_of c.args.self.now))))
    (sym (head_there c.args.terms.now c.law_arena.ensures c.args.t c.node.result.now c.node.ensures (head.Var c.in-Var.name c.in-Var.sort c.in-Var.field-2) c.in-Var.is)) c.fresh_variable.ensures.fresh

pub returns-in-Var-clause-sort : goal.returns-in-Var-clause-sort
returns-in-Var-clause-sort c =
    subst (λ s. IfOk c.fresh_variable.result (λ u. sort_at c.fresh_variable.new.terms u ≡ s))
    (sym (sort_there c.args.terms.now c.law_arena.ensures c.args.t c.node.result.now c.node.ensures (head.Var c.in-Var.name c.in-Var.sort c.in-Var.field-2) c.in-Var.is refl)) c.fresh_variable.ensures.sort

pub returns-in-Var-clause-only : goal.returns-in-Var-clause-only
returns-in-Var-clause-only c =
    subst (λ h. AddsOnly c.args.terms.now c.fresh_variable.new.terms (alone (fresh_like h (supply_of c.args.self.now)).head))
    (sym (head_there c.args.terms.now c.law_arena.ensures c.args.t c.node.result.now c.node.ensures (head.Var c.in-Var.name c.in-Var.sort c.in-Var.field-2) c.in-Var.is)) c.fresh_variable.ensures.only

pub returns-in-Var-clause-size : goal.returns-in-Var-clause-size
returns-in-Var-clause-size c =
    λ there is.
    subst (λ h. Lacks c.fresh_variable.new.terms (alone (fresh_like h (supply_of c.args.self.now)).head))
    (sym (head_there c.args.terms.now c.law_arena.ensures c.args.t c.node.result.now c.node.ensures (head.Var c.in-Var.name c.in-Var.sort c.in-Var.field-2) c.in-Var.is)) (c.fresh_variable.ensures.size there is)

pub returns-in-ClassVar-clause-fresh : goal.returns-in-ClassVar-clause-fresh
returns-in-ClassVar-clause-fresh c =
    subst (λ h. IfOk c.fresh_class.result (λ u. IsFresh c.fresh_class.new.terms u c.fresh_class.new.self (fresh_like h (supply_of c.args.self.now))))
    (sym (head_there c.args.terms.now c.law_arena.ensures c.args.t c.node.result.now c.node.ensures (head.ClassVar c.in-ClassVar.class c.in-ClassVar.field-1) c.in-ClassVar.is)) c.fresh_class.ensures.fresh

pub returns-in-ClassVar-clause-sort : goal.returns-in-ClassVar-clause-sort
returns-in-ClassVar-clause-sort c =
    subst (λ s. IfOk c.fresh_class.result (λ u. sort_at c.fresh_class.new.terms u ≡ s))
    (sym (sort_there c.args.terms.now c.law_arena.ensures c.args.t c.node.result.now c.node.ensures (head.ClassVar c.in-ClassVar.class c.in-ClassVar.field-1) c.in-ClassVar.is refl)) c.fresh_class.ensures.sort

pub returns-in-ClassVar-clause-only : goal.returns-in-ClassVar-clause-only
returns-in-ClassVar-clause-only c =
    subst (λ h. AddsOnly c.args.terms.now c.fresh_class.new.terms (alone (fresh_like h (supply_of c.args.self.now)).head))
    (sym (head_there c.args.terms.now c.law_arena.ensures c.args.t c.node.result.now c.node.ensures (head.ClassVar c.in-ClassVar.class c.in-ClassVar.field-1) c.in-ClassVar.is)) c.fresh_class.ensures.only

pub returns-in-ClassVar-clause-size : goal.returns-in-ClassVar-clause-size
returns-in-ClassVar-clause-size c =
    λ there is.
    subst (λ h. Lacks c.fresh_class.new.terms (alone (fresh_like h (supply_of c.args.self.now)).head))
    (sym (head_there c.args.terms.now c.law_arena.ensures c.args.t c.node.result.now c.node.ensures (head.ClassVar c.in-ClassVar.class c.in-ClassVar.field-1) c.in-ClassVar.is)) (c.fresh_class.ensures.size there is)

pub returns-in_default : goal.returns-in_default
returns-in_default c = record {
  fresh = start_fresh c.args.terms.now c.law_arena.ensures c.args.t c.node.result.now c.args.self.now c.node.ensures c.requires.in_range c.requires.variable c.in_default.not-Var c.in_default.not-ClassVar;
  sort = refl;
  unchanged = tt;
  grows = Extends-refl c.args.terms.now;
  only = adds_nothing c.args.terms.now c.args.terms.now _ refl;
  size = λ there is. absurd (cc);
  there = λ there. there;
}
