use Rattle.std.proofs.Common.{◌+◌, sym, ap, ◌∙◌, subst}
use Rattle.spv_assign.specs.supply.Numbers.{supply_of, AreThere}
use Rattle.spv_assign.proofs.supply.FreshLemmas.{AreThere-Extends, no_class_left, class_there, taken_class, next_class, same_taken}
use Rattle.spv_assign.proofs.supply.supply.Supply.fresh_class.Goals as goal

pub returns-then-last-clause-size : goal.returns-then-last-clause-size
returns-then-last-clause-size c =
    λ there is. no_class_left c.args.terms.now c.law_arena.ensures c.args.class (supply_of c.args.self.now) (sym c.last_of_class-last.ensures ∙ c.if-last.true) there

pub returns-in_err-t-clause-there : goal.returns-in_err-t-clause-there
returns-in_err-t-clause-there c =
    λ there. AreThere-Extends c.args.terms.now c.alone.new.terms (supply_of c.args.self.now) c.in_err-t.ensures.grows there

pub returns-in_err-put_class-clause-there : goal.returns-in_err-put_class-clause-there
returns-in_err-put_class-clause-there c =
    λ there.
    subst (AreThere c.alone.new.terms) (sym (same_taken c.args.self.now c.put_class.new.self c.in_err-put_class.ensures.names c.in_err-put_class.ensures.unchanged))
    (AreThere-Extends c.args.terms.now c.alone.new.terms (supply_of c.args.self.now) c.in_ok-t.ensures.grows there)

pub returns-clause-fresh : goal.returns-clause-fresh
returns-clause-fresh c = record {
  there = c.in_ok-t.ensures.in_range;
  is_tree = next_class c.args.class (supply_of c.args.self.now) c.last_of_class-last.result _ c.last_of_class-last.ensures c.in_ok-t.ensures.tree;
  supply = taken_class c.args.self.now c.put_class.new.self c.args.class _ (ap (λ k. k + 1) c.last_of_class-last.ensures) c.in_ok-put_class.ensures.classes c.in_ok-put_class.ensures.names;
}

pub returns-clause-there : goal.returns-clause-there
returns-clause-there c =
    λ there.
    subst (AreThere c.alone.new.terms)
    (sym (taken_class c.args.self.now c.put_class.new.self c.args.class _ (ap (λ k. k + 1) c.last_of_class-last.ensures) c.in_ok-put_class.ensures.classes c.in_ok-put_class.ensures.names))
    (class_there c.alone.new.terms c.args.class (supply_of c.args.self.now) c.in_ok-t.t c.in_ok-t.ensures.in_range
    (next_class c.args.class (supply_of c.args.self.now) c.last_of_class-last.result _ c.last_of_class-last.ensures c.in_ok-t.ensures.tree)
    (AreThere-Extends c.args.terms.now c.alone.new.terms (supply_of c.args.self.now) c.in_ok-t.ensures.grows there))
