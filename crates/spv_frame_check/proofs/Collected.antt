-- Items, each where it stands first.
use Rattle.std.proofs.Common.{◌≡◌, ◌≤◌, ◌<◌, ◌+◌, ℕ, Bool, true, ◌||◌, cond, List, [], ◌∷◌, ◌++◌, length, drop, get_or, refl, sym, ap, ◌∙◌}
use Rattle.std.specs.List.{list_any}
use Rattle.std.proofs.lemmas.List.{append-nil, drop_all}
use Rattle.spv_program.specs.declared.types.Item.{Item}
use Rattle.spv_program.specs.declared.types.Item.TheVariants.{Variable, Class}
use Rattle.spv_program.specs.Types.{same_item}
use Rattle.spv_program.specs.Uses.{Root, Own, Shared}
use Rattle.spv_program.specs.Frames.{items_once}
use Rattle.spv_effects.specs.declared.frame_events.events.Event.{Event}
use Rattle.spv_effects.specs.frame_events.EventViews.{event_of, events_of}
use Rattle.spv_frame_check.specs.declared.effects.Once.{Once}
use Rattle.spv_frame_check.specs.Effects.{items_by, with_roots, Takes, Follows, kept}
use Rattle.spv_frame_check.specs.Sets.{no_items, holds}
use Rattle.spv_frame_check.proofs.Logic.{or_swapped, same_item-sym, drop_item}

pub taken_before : (o : Once) (i : Item) → holds o.seen i ≡ true → Takes (Shared i) o o
taken_before o i h roots =
    ap (λ (is : List Item). o.items ++ is) (sym (ap (λ b. cond b (items_by (holds o.seen) roots) (i ∷ items_by (λ j. holds o.seen j || same_item i j) roots)) h))

-- the definition's list
once_is : (seen : List Item) (has : Item → Bool) → ((i : Item) → has i ≡ list_any (same_item i) seen) → (roots : List Root) → items_by has roots ≡ items_once seen roots
once_is seen has same [] = refl
once_is seen has same (Own x ∷ roots) = once_is seen has same roots
once_is seen has same (Shared i ∷ roots) =
    ap (λ b. cond b (items_by has roots) (i ∷ items_by (λ j. has j || same_item i j) roots)) (same i)
    ∙ ap (λ (is : List Item). cond (list_any (same_item i) seen) is (i ∷ items_by (λ j. has j || same_item i j) roots)) (once_is seen has same roots)
    ∙ ap (λ (is : List Item). cond (list_any (same_item i) seen) (items_once seen roots) (i ∷ is)) (once_is (i ∷ seen) (λ j. has j || same_item i j) more roots)
  where
    more : (j : Item) → has j || same_item i j ≡ same_item j i || list_any (same_item j) seen
    more j = or_swapped (has j) (same_item i j) ∙ ap (λ b. b || has j) (same_item-sym i j) ∙ ap (λ b. same_item j i || b) (same j)

none_held : (i : Item) → holds no_items i ≡ list_any (same_item i) []
none_held (Variable x) = refl
none_held (Class t) = refl

pub from_none : (roots : List Root) → items_by (holds no_items) roots ≡ items_once [] roots
from_none roots = once_is [] (holds no_items) none_held roots

-- ---- the loop over events

module _ (writes : Bool) (events : List Event) (i : ℕ) (total : List Item) where
  pub turn : (e : Event) (old new : Once) → i < length events → e ≡ get_or events i e → Follows writes (event_of e) old new
      → with_roots old (kept writes (events_of (drop i events))) ≡ total → with_roots new (kept writes (events_of (drop (i + 1) events))) ≡ total
  turn e old new below is follows so_far =
      follows (events_of (drop (i + 1) events)) ∙ ap (λ (es : List Event). with_roots old (kept writes (events_of es))) (sym (drop_item events i e below is)) ∙ so_far

  pub end : (o : Once) → length events ≤ i → with_roots o (kept writes (events_of (drop i events))) ≡ total → o.items ≡ total
  end o over so_far = sym (append-nil o.items) ∙ ap (λ (es : List Event). with_roots o (kept writes (events_of es))) (sym (drop_all i events over)) ∙ so_far
