use Rattle.std.proofs.Common.{ℕ, List, sym, ap, ◌∙◌}
use Rattle.std.specs.List.{list_any}
use Rattle.std.specs.Str.{bytes_eq}
use Rattle.spv_listing_values.proofs.Codes.{found_there, found_nowhere, places_more}
use Rattle.spv_listing_values.proofs.Pieces.{on_ok}
use Rattle.spv_rechecking.proofs.written_terms.Found.{places-known}
use Rattle.spv_rechecking.proofs.written_terms.leaves.enter.Goals as goal

pub returns-in-Some : goal.returns-in-Some
returns-in-Some c =
    λ words size are.
    places-known (λ k. k.items) c.args.places.now words c.args.word.items are
    (ap (λ (l : List ℕ). list_any (bytes_eq l) words) (sym c.as_slice.ensures.value) ∙ (found_there (λ k. k.items) c.args.places.now words are c.as_slice.result.now _ c.in-Some.ensures).0)

pub returns-in-None : goal.returns-in-None
returns-in-None c =
    on_ok c.put.result c.put.ensures
    (λ puts words size are.
    places_more (λ k. k.items) c.args.places.now c.put.new.places words c.args.word.items c.args.place are
    (ap (λ (l : List ℕ). list_any (bytes_eq l) words) (sym c.as_slice.ensures.value) ∙ found_nowhere (λ k. k.items) c.args.places.now words are c.as_slice.result.now c.in-None.ensures) puts
    (sym size))
