use Rattle.std.proofs.Common.{◌∙◌}
use Rattle.spv_listing_values.specs.Places.{tree}
use Rattle.spv_listing_values.proofs.Letters.{above}
use Rattle.spv_listing_values.proofs.Judging.{four}
use Rattle.spv_listing_values.proofs.TermForms.{tree_forms}
use Rattle.spv_listing_values.proofs.forms.ends_rightly.Goals as goal

pub returns-in-None : goal.returns-in-None
returns-in-None c = rw c.in-None.is (c.ends_path.ensures (tree c.args.texts.now))

pub returns-then-split-gt0 : goal.returns-then-split-gt0
returns-then-split-gt0 c =
    rw c.in-Some.is
    (c.have_no_end.ensures (tree c.args.texts.now)
    ∙ four _ _ _ _ (above c.in-Some.split.cases c.if-split-gt0.true) c.law_short.ensures
    (tree_forms c.args.texts.now c.requires.terms.table c.requires.terms.heads c.in-Some.split.atom (rw c.in-Some.is at c.requires.in_range).0))
