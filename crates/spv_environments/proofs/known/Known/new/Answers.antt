use Rattle.std.proofs.Common.{List, [], ◌∷◌, ◌++◌, map, ap, ◌∙◌}
use Rattle.spv_program.specs.declared.types.TypeForm.{TypeForm}
use Rattle.spv_program.specs.declared.types.TypeForm.TheVariants.{Integer, Boolean}
use Rattle.spv_environments.proofs.known.Known.new.Goals as goal
use Rattle.spv_environments.proofs.AtFirst.{at_first}

pub returns : goal.returns
returns c =
    at_first _ _ _ _ _ _ _ _ _ _ c.of.ensures
    (c.in_ok-push-2.ensures
    ∙ ap (λ (forms : List TypeForm). forms ++ Boolean ∷ []) (c.in_ok-push.ensures ∙ ap (λ (forms : List TypeForm). forms ++ Integer ∷ []) c.new-forms.ensures))
    c.new.ensures c.new-2.ensures c.new-3.ensures c.new-4.ensures c.new-5.ensures c.new-6.ensures c.new-7.ensures
