use Rattle.std.proofs.Common.{◌≡◌, ◌++◌, ◌∷◌, [], List, ℕ, map, true, if◌then◌else◌, Contains, is_ok, length, sym, ap, subst, ◌∙◌}
use Rattle.std.proofs.lemmas.List.{length-map, map_push}
use Rattle.spv_logic.specs.names.Names.{IsNameTable}
use Rattle.spv_logic.proofs.names.NameTable.{not_there, with_text-new, IsNameTable-with_text}
use Rattle.spv_logic.proofs.names.Places.{ArePlaces-put}
use Rattle.spv_logic.proofs.names.names.Names.push.Goals as goal

pub invariant_of-self-2 : goal.invariant_of-self-2
invariant_of-self-2 c =
    let text : List ℕ = c.args.text.now in
    let owned = c.in_ok-owned.owned in
    let before = c.self.inside.texts in
    let texts : List (List ℕ) = map (λ t. t.items) before.items in
    let ok : is_ok c.push.result ≡ true = ap is_ok c.unwrap.ensures in
    let listed : c.push.new.self.items ≡ before.items ++ owned ∷ [] =
    c.push.ensures.items ∙ (λ i. if ok i then c.reserve.ensures.items i ++ owned ∷ [] else c.reserve.ensures.items i) in
    let more : List (List ℕ) = map (λ t. t.items) c.push.new.self.items in
    let put : more ≡ texts ++ owned.items ∷ [] = ap (map (λ t. t.items)) listed ∙ map_push (λ t. t.items) before.items owned in
    let grown : more ≡ texts ++ text ∷ [] = put ∙ ap (λ l. texts ++ l ∷ []) c.in_ok-owned.ensures.items in
    let none = not_there texts text (subst (λ l. Contains l text → ⊥) (sym c.self.view_is) c.requires.new) in
    let last : c.len-place.result ≡ length texts = rw length-map (c.len-place.ensures ∙ before.ok.0) in
    record {
      table = subst IsNameTable (sym (grown ∙ sym (with_text-new texts text none)))
          (IsNameTable-with_text texts text c.self.invariant.table c.requires.folded (rw (← c.self.view_is) at c.requires.room));
      places = ArePlaces-put (λ t. t.items) c.self.inside.short c.put_place.new.short c.self.inside.long c.put_place.new.long texts more text c.len-place.result c.self.invariant.places
          none c.in_ok-put_place.ensures.ok last grown;
    }
