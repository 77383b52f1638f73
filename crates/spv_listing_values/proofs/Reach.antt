-- That each of the terms that are named is there, as loops ask for it.
use Rattle.std.proofs.Common.{◌<◌, List, length, All}
use Rattle.std.proofs.lemmas.List.Elements.{All-from_recursion}
use Rattle.spv_listing_values.specs.declared.texts.Text.{Text}
use Rattle.spv_listing_values.specs.Places.{Flat}
use Rattle.spv_listing_values.specs.Waiting.{AreIn}

pub all_in : (fs : List Flat) (ts : List Text) → AreIn fs ts → All (λ t. t.0 < length fs) ts
all_in fs ts h = All-from_recursion (λ (t : Text). t.0 < length fs) ts h
