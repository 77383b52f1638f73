use Rattle.std.proofs.Common.{refl, option_map}
use Rattle.spv_term.specs.Arena.{tree}
use Rattle.spv_assign.specs.supply.Numbers.{supply_of}
use Rattle.spv_assign.specs.Conditions.{conditions_of}
use Rattle.spv_assign.proofs.Growing.{AreIn-Extends}
use Rattle.spv_meaning.specs.Before.{renamed}
use Rattle.spv_flow_parts.proofs.LoopLemmas.{IsThere-Extends, renaming_stops, uses_come_of}
use Rattle.spv_flow_parts.proofs.loops.renamed_uses.Goals as goal

pub returns-in_err-pairs : goal.returns-in_err-pairs
returns-in_err-pairs c =
    renaming_stops c.from_residual.result c.in_err-pairs.field-0.0 c.args.terms.now c.renamed.new.terms (renamed c.args.heads.now (supply_of c.args.supply.now)) (option_map (tree c.args.terms.now) c.args.h)
    (conditions_of c.args.terms.now c.args.uses.items) (supply_of c.renamed.new.supply) c.from_residual.ensures.1 c.in_err-pairs.ensures.grows c.in_err-pairs.ensures.walk

pub replaced_in-requires-clause-rest : goal.replaced_in-requires-clause-rest
replaced_in-requires-clause-rest c =
    (c.in_ok-under.ensures.conditions c.renamed.new.terms (IsThere-Extends c.args.h c.in_ok-pairs.ensures.grows c.requires.known) (AreIn-Extends c.in_ok-pairs.ensures.grows c.args.uses.items c.requires.uses)).in_range

pub returns : goal.returns
returns c =
    uses_come_of c.args.terms.now c.renamed.new.terms c.args.h c.args.uses.items (supply_of c.renamed.new.supply) (renamed c.args.heads.now (supply_of c.args.supply.now)) c.in_ok-pairs.pairs.items c.in_ok-pairs.ensures.grows
    c.requires.known c.requires.uses c.in_ok-pairs.ensures.pairs c.replaced_in.result c.replaced_in.new.terms c.in_ok-under.under.items c.in_ok-under.under.items c.as_slice.result.now refl c.as_slice.ensures.value
    (c.in_ok-under.ensures.conditions c.renamed.new.terms (IsThere-Extends c.args.h c.in_ok-pairs.ensures.grows c.requires.known) (AreIn-Extends c.in_ok-pairs.ensures.grows c.args.uses.items c.requires.uses))
    c.in_ok-pairs.ensures.walk c.replaced_in.ensures
