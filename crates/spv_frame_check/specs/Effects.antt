-- Items that are read, or written, each where it stands first.
use Rattle.std.specs.Prelude.{◌≡◌, Bool, not, ◌||◌, List, [], ◌∷◌, ◌++◌, map, filter, if◌then◌else◌}
use Rattle.spv_program.specs.declared.types.Item.{Item}
use Rattle.spv_program.specs.Types.{same_item}
use Rattle.spv_program.specs.Uses.{Root, Own, Shared}
use Rattle.spv_effects.specs.frame_walk.Events.{Event, uses_in}
use Rattle.spv_frame_check.specs.declared.effects.Once.{Once}
use Rattle.spv_frame_check.specs.Sets.{holds}

-- whether a use is of the kind that is looked for
abbrev pub wanted : Bool → Bool → Bool
wanted writes changes = if writes then changes else not changes

-- the roots that are written, or read
abbrev pub kept : Bool → List Event → List Root
kept writes events = map (λ u. u.root) (filter (λ u. wanted writes u.changes) (uses_in events))

-- each item where it stands first, without those that are there
abbrev pub items_by : (Item → Bool) → List Root → List Item
items_by has [] = []
items_by has (Own x ∷ roots) = items_by has roots
items_by has (Shared i ∷ roots) = if has i then items_by has roots else i ∷ items_by (λ j. has j || same_item i j) roots

-- what is there, with what these roots add to it
abbrev pub with_roots : Once → List Root → List Item
with_roots o roots = o.items ++ items_by (holds o.seen) roots

-- this root was added
abbrev pub Takes : Root → Once → Once → Type 0
Takes r old new = (roots : List Root) → with_roots new roots ≡ with_roots old (r ∷ roots)

-- what this event adds was added
abbrev pub Follows : Bool → Event → Once → Once → Type 0
Follows writes e old new = (events : List Event) → with_roots new (kept writes events) ≡ with_roots old (kept writes (e ∷ events))
