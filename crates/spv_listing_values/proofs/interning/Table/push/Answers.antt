use Rattle.std.proofs.Common.{◌≡◌, ℕ, List, ◌++◌, length, map, drop, sym, ap, subst, ◌∙◌, false, arith}
use Rattle.std.specs.List.{list_any}
use Rattle.std.specs.Str.{bytes_eq}
use Rattle.std.proofs.lemmas.List.{length-map, take_rest}
use Rattle.spv_listing_values.specs.declared.texts.Text.{Text}
use Rattle.spv_listing_values.specs.Interned.{code, code_at, ArePlaces}
use Rattle.spv_listing_values.proofs.Trees.{before_more}
use Rattle.spv_listing_values.proofs.Codes.{places_more}
use Rattle.spv_listing_values.proofs.Tables.{IsPushed, pushed, before_drop}
use Rattle.spv_listing_values.proofs.interning.Table.push.Goals as goal

-- what stands behind the other terms and arguments
pushed_here : (c : goal.In_ok-push)
    → IsPushed c.args.self.now.names c.args.self.now.args.items c.extend_from_slice.new.self.items (drop c.args.from c.args.self.now.waiting.items) c.args.self.now.nodes.items c.push.new.self.items c.args.head
pushed_here c =
    let self = c.args.self.now in
    let first : c.in_ok-first.first ≡ length self.args.items = omega (arith, c.in_ok-first.ensures, c.len-2.ensures, self.args.ok.0) in
    let end : c.in_ok-end.end ≡ length c.extend_from_slice.new.self.items = omega (arith, c.in_ok-end.ensures, c.len-3.ensures, c.extend_from_slice.new.self.ok.0) in
    pushed self.names self.args.items c.extend_from_slice.new.self.items (drop c.args.from self.waiting.items) self.nodes.items c.push.new.self.items c.args.head c.in_ok-first.first c.in_ok-end.end
    c.requires.sound.texts c.requires.head (before_drop (length self.nodes.items) c.args.from self.waiting.items c.requires.sound.waiting)
    (c.in_ok-extend_from_slice.ensures.items ∙ ap (λ (l : List Text). self.args.items ++ l) (take_rest c.as_slice.result.now c.args.from ∙ ap (drop c.args.from) c.as_slice.ensures.value))
    first end c.in_ok-push.ensures.items

pub returns-clause-flats : goal.returns-clause-flats
returns-clause-flats c = (pushed_here c).flats

pub returns-clause-sound : goal.returns-clause-sound
returns-clause-sound c =
    let self = c.args.self.now in
    let p = pushed_here c in
    let codes = map (code_at self.args.items) self.nodes.items in
    let place : c.in_ok-place.place ≡ length self.nodes.items = omega (arith, c.in_ok-place.ensures, c.len.ensures, self.nodes.ok.0) in
    let key : c.as_slice-2.result.now ≡ code c.args.head (drop c.args.from self.waiting.items) = c.as_slice-2.ensures.value ∙ c.requires.key in
    record {
      texts = p.texts;
      places = subst (λ (cs : List (List ℕ)). ArePlaces (λ k. k.items) c.put.new.places cs) (sym p.codes)
          (places_more (λ k. k.items) self.places c.put.new.places codes (code c.args.head (drop c.args.from self.waiting.items)) c.in_ok-place.place c.requires.sound.places
          (subst (λ (k : List ℕ). list_any (bytes_eq k) codes ≡ false) c.requires.key c.requires.new) (rw key at c.in_ok-put.ensures) (place ∙ sym (length-map self.nodes.items (code_at self.args.items))));
      waiting = before_more (length self.nodes.items) (length c.push.new.self.items) self.waiting.items (omega (arith, p.size)) c.requires.sound.waiting;
    }
