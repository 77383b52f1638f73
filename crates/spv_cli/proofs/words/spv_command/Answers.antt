use Rattle.std.proofs.Common.{◌≡◌, ◌∙◌, true, ap, ap₂, codes}
use Rattle.std.proofs.lemmas.Result.{IfOk-weaker}
use Rattle.clap.specs.Simple.{App, app_of, app_of_fields, new_app, on_top, with_rule}
use Rattle.spv_cli.proofs.words.spv_command.Goals as goal

-- each argument comes last behind those before it
pub returns : goal.returns
returns c =
    let without_help : App → App = on_top (λ s. record s { disable_help_flag = true }) in
    let begun : app_of c.disable_help_flag.result ≡ without_help (new_app (codes "spv")) = ap app_of_fields c.disable_help_flag.ensures ∙ ap without_help c.new.ensures.app in
    let mode = c.in_ok-arg.ensures.shape c.mode_arg.ensures.local ∙ ap₂ with_rule begun c.mode_arg.ensures.rule in
    let files = c.in_ok-arg-2.ensures.shape c.files_arg.ensures.local ∙ ap₂ with_rule mode c.files_arg.ensures.rule in
    let splits = c.in_ok-arg-3.ensures.shape c.limit_arg.ensures.local ∙ ap₂ with_rule files c.limit_arg.ensures.rule in
    let instances = c.in_ok-arg-4.ensures.shape c.limit_arg-2.ensures.local ∙ ap₂ with_rule splits c.limit_arg-2.ensures.rule in
    let pivots = c.in_ok-arg-5.ensures.shape c.limit_arg-3.ensures.local ∙ ap₂ with_rule instances c.limit_arg-3.ensures.rule in
    IfOk-weaker c.arg-6.result _ _ (λ r h. h.shape c.proofs_arg.ensures.local ∙ ap₂ with_rule pivots c.proofs_arg.ensures.rule) c.arg-6.ensures
