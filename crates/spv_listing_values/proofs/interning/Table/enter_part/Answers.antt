use Rattle.std.proofs.Common.{◌≡◌, ℕ, ◌<◌, ◌-◌, ◌∷◌, ◌++◌, [], List, length, map, take, drop, sym, ap, subst, ◌∙◌, arith}
use Rattle.std.proofs.lemmas.List.{length-map}
use Rattle.spv_listing_values.specs.declared.texts.Text.{Text}
use Rattle.spv_listing_values.specs.Places.{Flat, AreTexts, AreBefore, flat_at, head_at, with_flat, place_of}
use Rattle.spv_listing_values.specs.Waiting.{AreIn}
use Rattle.spv_listing_values.specs.Parts.{head_in}
use Rattle.spv_listing_values.specs.Interned.{flats_at}
use Rattle.spv_listing_values.proofs.Tables.{texts_kept, flats_kept, before_take, before_drop, before_push, placed_within}
use Rattle.spv_listing_values.proofs.interning.Table.enter_part.Goals as goal

pub place-requires-clause-sound : goal.place-requires-clause-sound
place-requires-clause-sound c =
    let self = c.args.self.now in
    let grows = c.in_ok-head.ensures.grows in
    record {
      texts = subst (λ (ns : List (List ℕ)). AreTexts ns self.args.items self.nodes.items) (sym grows.1) (texts_kept self.names grows.0 self.args.items self.nodes.items c.requires.sound.texts);
      places = c.requires.sound.places;
      waiting = c.requires.sound.waiting;
    }

pub returns-clause-sound : goal.returns-clause-sound
returns-clause-sound c =
    let self = c.args.self.now in
    let new = c.place.new.self in
    let grows = c.in_ok-head.ensures.grows in
    let from = c.len.result - c.args.part.args in
    let w = drop from self.waiting.items in
    let f : Flat = record { head = head_at c.enter_head.new.names c.in_ok-head.head; args = w } in
    let fs = map (flat_at c.enter_head.new.names self.args.items) self.nodes.items in
    let texts : AreTexts c.enter_head.new.names self.args.items self.nodes.items =
    subst (λ (ns : List (List ℕ)). AreTexts ns self.args.items self.nodes.items) (sym grows.1) (texts_kept self.names grows.0 self.args.items self.nodes.items c.requires.sound.texts) in
    let before : AreIn fs w =
    subst (λ (n : ℕ). AreBefore n w) (sym (length-map self.nodes.items (flat_at c.enter_head.new.names self.args.items))) (before_drop (length self.nodes.items) from self.waiting.items c.requires.sound.waiting) in
    let size : length (with_flat fs f) ≡ length new.nodes.items = ap length (sym c.in_ok-text.ensures.flats) ∙ length-map new.nodes.items (flat_at new.names new.args.items) in
    let within : c.in_ok-text.text.0 < length new.nodes.items =
    subst (λ (n : ℕ). c.in_ok-text.text.0 < n) size (subst (λ (t : Text). t.0 < length (with_flat fs f)) (sym c.in_ok-text.ensures.place) (placed_within fs f texts.table before)) in
    record {
      texts = c.in_ok-text.ensures.sound.texts;
      places = c.in_ok-text.ensures.sound.places;
      waiting = subst (AreBefore (length new.nodes.items)) (sym (c.in_ok-push.ensures.items ∙ ap (λ (ts : List Text). ts ++ c.in_ok-text.text ∷ []) c.truncate.ensures.items))
          (before_push (length new.nodes.items) (take from new.waiting.items) c.in_ok-text.text (before_take (length new.nodes.items) from new.waiting.items c.in_ok-text.ensures.sound.waiting) within);
    }

pub returns-clause-entered : goal.returns-clause-entered
returns-clause-entered c =
    let self = c.args.self.now in
    let new = c.place.new.self in
    let grows = c.in_ok-head.ensures.grows in
    let from = c.len.result - c.args.part.args in
    let size : c.len.result ≡ length self.waiting.items = omega (arith, c.len.ensures, self.waiting.ok.0) in
    let kept : map (flat_at c.enter_head.new.names self.args.items) self.nodes.items ≡ flats_at self =
    ap (λ (ns : List (List ℕ)). map (flat_at ns self.args.items) self.nodes.items) grows.1 ∙ flats_kept self.names grows.0 self.args.items self.nodes.items c.requires.sound.texts in
    let place : length self.waiting.items - c.args.part.args ≡ from = ap (λ (n : ℕ). n - c.args.part.args) (sym size) in
    let term : ◌≡◌ {A = Flat} (record { head = head_at c.enter_head.new.names c.in_ok-head.head; args = drop from self.waiting.items })
    (record { head = head_in c.args.bytes.now c.args.part.head; args = drop (length self.waiting.items - c.args.part.args) self.waiting.items }) =
    λ i. record { head = c.in_ok-head.ensures.known.1 i; args = drop (sym place i) self.waiting.items } in
    let flats : flats_at new ≡ with_flat (flats_at self) (record { head = head_in c.args.bytes.now c.args.part.head; args = drop (length self.waiting.items - c.args.part.args) self.waiting.items }) =
    c.in_ok-text.ensures.flats ∙ (λ i. with_flat (kept i) (term i)) in
    let text : c.in_ok-text.text ≡ place_of (flats_at self) (record { head = head_in c.args.bytes.now c.args.part.head; args = drop (length self.waiting.items - c.args.part.args) self.waiting.items }) =
    c.in_ok-text.ensures.place ∙ (λ i. place_of (kept i) (term i)) in
    let waiting : c.push.new.self.items ≡ take (length self.waiting.items - c.args.part.args) self.waiting.items ++ c.in_ok-text.text ∷ [] =
    c.in_ok-push.ensures.items
    ∙ (ap (λ (ts : List Text). ts ++ c.in_ok-text.text ∷ []) c.truncate.ensures.items
    ∙ (λ i. take (sym place i) (c.in_ok-text.ensures.waiting i) ++ c.in_ok-text.text ∷ [])) in
    λ i. record { flats = flats i; places = (waiting ∙ ap (λ (t : Text). take (length self.waiting.items - c.args.part.args) self.waiting.items ++ t ∷ []) text) i }
