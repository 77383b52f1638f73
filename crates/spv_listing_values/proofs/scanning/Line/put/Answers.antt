use Rattle.std.proofs.Common.{◌≡◌, ℕ, [], ◌∷◌, ◌++◌, Some, length, refl, sym, ap, ◌∙◌, append-nil, arith}
use Rattle.std.proofs.lemmas.List.Elements.{All-pop}
use Rattle.spv_listing_values.specs.Parts.{HasSpans}
use Rattle.spv_listing_values.proofs.Pieces.{nothing_popped}
use Rattle.spv_listing_values.proofs.Scanned.{put_argument, put_item}
use Rattle.spv_listing_values.proofs.scanning.Line.put.Goals as goal

pub returns-in_ok-push-in-Some : goal.returns-in_ok-push-in-Some
returns-in_ok-push-in-Some c bytes s t ends =
    let self = c.args.self.now in
    let spans = All-pop (λ q. HasSpans bytes q.head) self.groups.items c.pop.new.self.items (Some c.in-Some.group) c.in-Some.ensures.items ends.open_spans in
    put_argument bytes self _ c.args.part s t ends (record { parts = c.in_ok-push.ensures.items; expected = refl }) c.pop.new.self.items c.in-Some.group c.in-Some.ensures.items spans.0 spans.1 refl refl
    (c.in_ok-push-in-Some.ensures.items ∙ ap (λ (n : ℕ). c.pop.new.self.items ++ record { head = c.in-Some.group.head; args = n } ∷ []) c.in_ok-args-in-Some.ensures)

pub returns-in_ok-push-in-None : goal.returns-in_ok-push-in-None
returns-in_ok-push-in-None c bytes s t ends =
    let self = c.args.self.now in
    let none : self.groups.items ≡ [] = nothing_popped self.groups.items c.pop.new.self.items _ c.in-None.ensures.items c.in-None.ensures.rest c.in-None.ensures.cases.0 in
    let end : c.in_ok-end-in-None.end ≡ length c.push.new.self.items = omega (arith, c.in_ok-end-in-None.ensures, c.len.ensures, c.push.new.self.ok.0) in
    put_item bytes self _ c.args.part s t ends (record { parts = c.in_ok-push.ensures.items; expected = refl }) c.in_ok-end-in-None.end none
    (sym (append-nil c.pop.new.self.items) ∙ (sym c.in-None.ensures.items ∙ none)) end c.in_ok-push-in-None.ensures.items refl
