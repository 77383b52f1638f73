use Rattle.std.proofs.Common.{refl}
use Rattle.spv_share.proofs.Gathering.{ends_parts}
use Rattle.spv_share.proofs.Opened.{both_opens}
use Rattle.spv_share.proofs.both.Both.open.Goals as goal

pub returns-clause-both : goal.returns-clause-both
returns-clause-both c =
    both_opens c.args.terms.now c.args.atoms.now c.args.ends c.in_ok-rows.rows.forms.items _ c.requires.ends c.in_ok-rows.ensures.forms c.in_ok-relations.ensures.gathered c.in_ok-standing.ensures.standing c.in_ok-standing.ensures.forms
    c.in_ok-standing.ensures.bounds c.new.ensures.items refl refl c.in_ok-standing.ensures.asserted

pub gather-requires-clause-parts : goal.gather-requires-clause-parts
gather-requires-clause-parts c = ends_parts c.args.terms.now c.in_ok-trail.trail c.args.ends.truth c.args.ends.falsity c.in_ok-trail.ensures.truth c.in_ok-trail.ensures.falsity c.in_ok-trail.ensures.parts
