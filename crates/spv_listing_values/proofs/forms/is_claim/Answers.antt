use Rattle.std.proofs.Common.{sym, ◌∙◌}
use Rattle.spv_listing_values.proofs.Judging.{claim_unfit, claim_headless, claim_fit}
use Rattle.spv_listing_values.proofs.forms.is_claim.Goals as goal

pub returns-then-not-have_forms : goal.returns-then-not-have_forms
returns-then-not-have_forms c = sym (claim_unfit c.args.texts.now c.args.claim.now c.requires.terms (sym c.have_forms.ensures ∙ c.if-not-have_forms.true))

pub is_verdict-requires-clause-terms : goal.is_verdict-requires-clause-terms
is_verdict-requires-clause-terms c = record { table = c.law_texts.ensures; heads = sym c.have_forms.ensures ∙ c.if-not-have_forms.false }

pub returns-then-not-is_header : goal.returns-then-not-is_header
returns-then-not-is_header c = sym (claim_headless c.args.texts.now c.args.claim.now (sym c.is_header.ensures ∙ c.if-not-is_header.true))

pub returns : goal.returns
returns c =
    c.is_verdict.ensures
    ∙ sym (claim_fit c.args.texts.now c.args.claim.now (record { table = c.law_texts.ensures; heads = sym c.have_forms.ensures ∙ c.if-not-have_forms.false }) c.requires.in_range
    (sym c.is_header.ensures ∙ c.if-not-is_header.false))
