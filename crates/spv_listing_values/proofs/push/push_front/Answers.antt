use Rattle.spv_listing_values.proofs.Pieces.{begins-alone, begins-applied}
use Rattle.std.proofs.Common.{sym}
use Rattle.spv_listing_values.proofs.push.push_front.Goals as goal

pub returns-in_ok-extend_from_slice-in-Alone : goal.returns-in_ok-extend_from_slice-in-Alone
returns-in_ok-extend_from_slice-in-Alone c =
    begins-alone c.args.texts.now c.law_texts.ensures c.args.t c.requires.in_range c.in-Alone.word.now (sym c.in-Alone.ensures) _ _ _ c.requires.are_terms
    c.in_ok-extend_from_slice-in-Alone.ensures.items

pub returns-in_ok-push-in-Applied : goal.returns-in_ok-push-in-Applied
returns-in_ok-push-in-Applied c =
    begins-applied c.args.texts.now c.law_texts.ensures c.args.t c.requires.in_range c.in-Applied.word.now _ (sym c.in-Applied.ensures) _ _ _ _ c.args-in-Applied.result
    c.requires.are_terms c.in_ok-push_head-in-Applied.ensures c.in_ok-push-in-Applied.ensures.items c.args-in-Applied.ensures
