use Rattle.std.proofs.Common.{◌∙◌, ap, codes}
use Rattle.clap.specs.Words.{found_of, one_text}
use Rattle.spv_cli.specs.Commands.{given_or}
use Rattle.spv_cli.proofs.ByRows.{limits_found}
use Rattle.spv_cli.proofs.words.limits_in.Goals as goal

pub returns : goal.returns
returns c =
    let f = found_of c.args.matches.now in
    limits_found f c.new.result
    (c.new.ensures.splits ∙ (c.given_or.ensures ∙ ap (λ n. given_or n (one_text f (codes "splits"))) (c.splits.ensures ∙ ap (λ l. l.splits) c.default_limits-usual.ensures)))
    (c.new.ensures.instances ∙ (c.given_or-2.ensures ∙ ap (λ n. given_or n (one_text f (codes "instances"))) (c.instances.ensures ∙ ap (λ l. l.instances) c.default_limits-usual.ensures)))
    (c.new.ensures.pivots ∙ (c.given_or-3.ensures ∙ ap (λ n. given_or n (one_text f (codes "pivots"))) (c.pivots.ensures.value ∙ ap (λ l. l.pivots) c.default_limits-usual.ensures)))
    c.new.ensures.terms
