use Rattle.std.proofs.Common.{◌+◌, sym, ap, ◌∙◌, subst}
use Rattle.spv_assign.specs.supply.Numbers.{supply_of, AreThere}
use Rattle.spv_assign.proofs.supply.FreshLemmas.{AreThere-Extends, no_name_left, name_there, taken_name, next_name, same_taken}
use Rattle.spv_assign.proofs.supply.supply.Supply.fresh_variable.Goals as goal

pub returns-then-last-clause-size : goal.returns-then-last-clause-size
returns-then-last-clause-size c =
    λ there is. no_name_left c.args.terms.now c.law_arena.ensures c.args.name c.args.sort (supply_of c.args.self.now) (sym c.last_of_name-last.ensures ∙ c.if-last.true) there

pub returns-in_err-t-clause-there : goal.returns-in_err-t-clause-there
returns-in_err-t-clause-there c =
    λ there. AreThere-Extends c.args.terms.now c.alone.new.terms (supply_of c.args.self.now) c.in_err-t.ensures.grows there

pub returns-in_err-put_name-clause-there : goal.returns-in_err-put_name-clause-there
returns-in_err-put_name-clause-there c =
    λ there.
    subst (AreThere c.alone.new.terms) (sym (same_taken c.args.self.now c.put_name.new.self c.in_err-put_name.ensures.unchanged c.in_err-put_name.ensures.classes))
    (AreThere-Extends c.args.terms.now c.alone.new.terms (supply_of c.args.self.now) c.in_ok-t.ensures.grows there)

pub returns-clause-fresh : goal.returns-clause-fresh
returns-clause-fresh c = record {
  there = c.in_ok-t.ensures.in_range;
  is_tree = next_name c.args.name c.args.sort (supply_of c.args.self.now) c.last_of_name-last.result _ c.last_of_name-last.ensures c.in_ok-t.ensures.tree;
  supply = taken_name c.args.self.now c.put_name.new.self c.args.name _ (ap (λ k. k + 1) c.last_of_name-last.ensures) c.in_ok-put_name.ensures.names c.in_ok-put_name.ensures.classes;
}

pub returns-clause-there : goal.returns-clause-there
returns-clause-there c =
    λ there.
    subst (AreThere c.alone.new.terms)
    (sym (taken_name c.args.self.now c.put_name.new.self c.args.name _ (ap (λ k. k + 1) c.last_of_name-last.ensures) c.in_ok-put_name.ensures.names c.in_ok-put_name.ensures.classes))
    (name_there c.alone.new.terms c.args.name c.args.sort (supply_of c.args.self.now) c.in_ok-t.t c.in_ok-t.ensures.in_range
    (next_name c.args.name c.args.sort (supply_of c.args.self.now) c.last_of_name-last.result _ c.last_of_name-last.ensures c.in_ok-t.ensures.tree)
    (AreThere-Extends c.args.terms.now c.alone.new.terms (supply_of c.args.self.now) c.in_ok-t.ensures.grows there))
