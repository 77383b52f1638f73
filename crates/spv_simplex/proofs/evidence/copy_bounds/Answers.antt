use Rattle.std.proofs.Common.{rules, ◌≡◌, ◌+◌, ◌++◌, ◌∷◌, [], List, length, map, sym, ap, ◌∙◌, arith}
use Rattle.std.proofs.lemmas.List.{length-append}
use mathlib.Core.Path.{ap₂}
use Rattle.spv_tableau_rules.specs.tableaux.Bounds.{Bound}
use Rattle.spv_simplex.specs.Evidence.{bound_in}
use Rattle.spv_simplex.proofs.Searches.{map_push, take_next, le_trans}
use Rattle.spv_simplex.proofs.evidence.copy_bounds.Goals as goal

pub loop-place-preserved : goal.loop-place-preserved
loop-place-preserved c =
    let items : c.push.new.self.items ≡ c.loop-place.into.items ++ c.standing.result ∷ [] = search rules in
    record {
      items = ap (map bound_in) items ∙ map_push bound_in c.loop-place.into.items c.standing.result
          ∙ ap₂ (λ (xs : List Bound) (b : Bound). xs ++ b ∷ []) c.loop-place.invariant.items c.standing.ensures
          ∙ sym (take_next c.args.trail.now.bounds c.loop-place.place (c.loop-place.place + 1) c.get.result c.get.ensures.there (omega arith));
      count = ap (λ xs. length xs) items ∙ length-append c.loop-place.into.items (c.standing.result ∷ []) ∙ ap (λ n. n + 1) c.loop-place.invariant.count;
      capacity = le_trans _ _ _ c.loop-place.invariant.capacity c.push.ensures.capacity;
    }
