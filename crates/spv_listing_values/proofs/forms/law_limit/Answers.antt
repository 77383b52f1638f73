use Rattle.spv_listing_values.proofs.TermForms.{tree_forms}
use Rattle.spv_listing_values.proofs.forms.law_limit.Goals as goal

pub returns-in-Form : goal.returns-in-Form
returns-in-Form c = rw c.in-Form.is (tree_forms c.args.texts.now c.requires.terms.table c.requires.terms.heads c.in-Form.field-0 (rw c.in-Form.is at c.requires.in_range).0)
