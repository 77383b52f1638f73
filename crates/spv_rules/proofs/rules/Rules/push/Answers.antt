use Rattle.std.proofs.Common.{sym, subst}
use Rattle.spv_rules.specs.RuleSets.{RuleSet, IsRule, AreRules}
use Rattle.spv_rules.proofs.Growing.{AreRules-pushed}
use Rattle.spv_rules.proofs.rules.Rules.push.Goals as goal

pub invariant_of-self-2 : goal.invariant_of-self-2
invariant_of-self-2 c =
    let is = subst (λ (s : RuleSet). IsRule s.arena c.args.rule) (sym c.self.view_is) c.requires in
    record {
      arena = c.self.invariant.arena;
      rules = subst (AreRules c.self.inside.terms) (sym c.in_ok-push.ensures.items) (AreRules-pushed c.self.inside.terms c.self.inside.list.items c.args.rule c.self.invariant.rules is);
    }
