use Rattle.std.proofs.Common.{◌≡◌, ℕ, List, map, drop, false, sym, ap, subst, ◌∙◌}
use Rattle.std.specs.List.{list_any}
use Rattle.std.specs.Str.{bytes_eq}
use Rattle.std.proofs.lemmas.List.{take_rest}
use Rattle.spv_listing_values.specs.declared.texts.Text.{Text}
use Rattle.spv_listing_values.specs.Places.{head_at}
use Rattle.spv_listing_values.specs.Interned.{code, code_at, found_by, flats_at}
use Rattle.spv_listing_values.proofs.Pieces.{on_ok, if_ok}
use Rattle.spv_listing_values.proofs.Tables.{found_flat, lacking_code, lacking_flat, lacking_place, new_flat}
use Rattle.spv_listing_values.proofs.interning.Table.place.Goals as goal

pub returns-in-Some-clause-flats : goal.returns-in-Some-clause-flats
returns-in-Some-clause-flats c =
    let self = c.args.self.now in
    let w = drop c.args.from self.waiting.items in
    let key : c.write_code.new.key.items ≡ code c.args.head w =
    c.in_ok-write_code.ensures ∙ ap (λ (l : List Text). code c.args.head l) (take_rest c.as_slice.result.now c.args.from ∙ ap (drop c.args.from) c.as_slice.ensures.value) in
    (found_flat self.names c.law_different.ensures.different self.args.items w self.nodes.items c.args.head c.requires.sound.texts c.requires.head (λ k. k.items) self.places c.requires.sound.places c.in-Some.place
    (c.in-Some.ensures ∙ ap (λ (l : List ℕ). found_by (λ k. k.items) self.places l) (c.as_slice-2.ensures.value ∙ key))).0

pub returns-in-Some-clause-place : goal.returns-in-Some-clause-place
returns-in-Some-clause-place c =
    let self = c.args.self.now in
    let w = drop c.args.from self.waiting.items in
    let key : c.write_code.new.key.items ≡ code c.args.head w =
    c.in_ok-write_code.ensures ∙ ap (λ (l : List Text). code c.args.head l) (take_rest c.as_slice.result.now c.args.from ∙ ap (drop c.args.from) c.as_slice.ensures.value) in
    (found_flat self.names c.law_different.ensures.different self.args.items w self.nodes.items c.args.head c.requires.sound.texts c.requires.head (λ k. k.items) self.places c.requires.sound.places c.in-Some.place
    (c.in-Some.ensures ∙ ap (λ (l : List ℕ). found_by (λ k. k.items) self.places l) (c.as_slice-2.ensures.value ∙ key))).1

pub push-requires-clause-new : goal.push-requires-clause-new
push-requires-clause-new c =
    let self = c.args.self.now in
    let w = drop c.args.from self.waiting.items in
    let key : c.write_code.new.key.items ≡ code c.args.head w =
    c.in_ok-write_code.ensures ∙ ap (λ (l : List Text). code c.args.head l) (take_rest c.as_slice.result.now c.args.from ∙ ap (drop c.args.from) c.as_slice.ensures.value) in
    subst (λ (k : List ℕ). list_any (bytes_eq k) (map (code_at self.args.items) self.nodes.items) ≡ false) (sym key)
    (lacking_code self.names c.law_different.ensures.different self.args.items w self.nodes.items c.args.head c.requires.sound.texts c.requires.head (λ k. k.items) self.places c.requires.sound.places
    (c.in-None.ensures ∙ ap (λ (l : List ℕ). found_by (λ k. k.items) self.places l) (c.as_slice-2.ensures.value ∙ key)))

pub returns-in-None-clause-flats : goal.returns-in-None-clause-flats
returns-in-None-clause-flats c =
    let self = c.args.self.now in
    let w = drop c.args.from self.waiting.items in
    let key : c.write_code.new.key.items ≡ code c.args.head w =
    c.in_ok-write_code.ensures ∙ ap (λ (l : List Text). code c.args.head l) (take_rest c.as_slice.result.now c.args.from ∙ ap (drop c.args.from) c.as_slice.ensures.value) in
    on_ok c.push.result c.push.ensures.flats (λ e. e ∙ new_flat (flats_at self) (record { head = head_at self.names c.args.head; args = w })
    (lacking_flat self.names c.law_different.ensures.different self.args.items w self.nodes.items c.args.head c.requires.sound.texts c.requires.head (λ k. k.items) self.places c.requires.sound.places
    (c.in-None.ensures ∙ ap (λ (l : List ℕ). found_by (λ k. k.items) self.places l) (c.as_slice-2.ensures.value ∙ key))))

pub returns-in-None-clause-place : goal.returns-in-None-clause-place
returns-in-None-clause-place c =
    let self = c.args.self.now in
    let w = drop c.args.from self.waiting.items in
    let key : c.write_code.new.key.items ≡ code c.args.head w =
    c.in_ok-write_code.ensures ∙ ap (λ (l : List Text). code c.args.head l) (take_rest c.as_slice.result.now c.args.from ∙ ap (drop c.args.from) c.as_slice.ensures.value) in
    if_ok c.push.result c.push.ensures.place (λ t is.
    lacking_place self.names c.law_different.ensures.different self.args.items w self.nodes.items c.args.head c.requires.sound.texts c.requires.head (λ k. k.items) self.places c.requires.sound.places
    (c.in-None.ensures ∙ ap (λ (l : List ℕ). found_by (λ k. k.items) self.places l) (c.as_slice-2.ensures.value ∙ key)) t.0 is)
