use Rattle.std.proofs.Common.{◌∙◌, ◌≡◌, ◌+◌, ◌++◌, List, [], ◌∷◌, ap, map, sym}
use Rattle.spv_cli.specs.Drill.{Procedure, procedure_at, procedures, stepped}
use Rattle.spv_cli.specs.Words.{procedure_view}
use Rattle.spv_cli.proofs.InOrder.{map_last}
use Rattle.spv_cli.proofs.Numbers.{behind, behind_more, procedures_more}
use Rattle.spv_cli.proofs.drill.procedures.Goals as goal

pub loop-place-preserved : goal.loop-place-preserved
loop-place-preserved c =
    let place = c.loop-place.place in
    let first : c.stepped-first.result ≡ stepped (behind c.args.start place) = c.stepped-first.ensures.next ∙ ap stepped c.loop-place.invariant.stands in
    let one : procedure_view c.procedure_at.result ≡ procedure_at (place + 1) (stepped (behind c.args.start place)) = c.procedure_at.ensures ∙ ap (procedure_at (place + 1)) first in
    record {
      stands = c.stepped-s.ensures.next ∙ ap stepped first ∙ sym (behind_more c.args.start place);
      below = c.stepped-s.ensures.below;
      made =
          ap (map procedure_view) c.in_ok-push.ensures.items
          ∙ map_last procedure_view c.loop-place.made.items c.procedure_at.result
          ∙ ap (λ (l : List Procedure). l ++ procedure_view c.procedure_at.result ∷ []) c.loop-place.invariant.made
          ∙ ap (λ (p : Procedure). procedures 1 c.args.start place ++ p ∷ []) one
          ∙ sym (procedures_more c.args.start place);
    }
