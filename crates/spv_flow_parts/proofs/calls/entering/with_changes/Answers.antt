use Rattle.std.proofs.Common.{refl, sym, ◌∙◌}
use Rattle.spv_flow_parts.proofs.Conditions.{replaced_comes}
use Rattle.spv_flow_parts.proofs.calls.Entered.{is_empty, none_comes}
use Rattle.spv_flow_parts.proofs.calls.entering.with_changes.Goals as goal

pub returns-then-is_empty : goal.returns-then-is_empty
returns-then-is_empty c = none_comes c.args.rest c.args.terms.now c.args.after.now c.args.rest.items refl (is_empty c.args.after.now (sym c.is_empty.ensures ∙ c.if-is_empty.true)) c.requires.rest

pub returns : goal.returns
returns c = replaced_comes c.replaced.result c.args.terms.now c.replaced.new.terms _ c.replaced.ensures.conditions c.replaced.ensures.in_range c.replaced.ensures.grows c.replaced.ensures.walk
