-- The terms of texts, made in an arena.
use Rattle.std.specs.Prelude.{◌≡◌, ℕ, List, map, length, Some, Option, slice_index_or}
use Rattle.spv_logic.specs.declared.names.names.Symbol.{Symbol}
use Rattle.spv_logic.specs.declared.conditions.TermId.{TermId}
use Rattle.spv_logic.specs.declared.operators.Head.{Head}
use Rattle.spv_term.specs.Arena.{Arena, AllBelow, tree}
use Rattle.spv_listing_values.specs.declared.texts.Text.{Text}
use Rattle.spv_listing_values.specs.Written.{Written}
use Rattle.spv_rechecking.specs.declared.written_terms.leaves.Leaves.{Leaves}
use Rattle.spv_rechecking.specs.written_terms.Standing.{Vocabulary}
use Rattle.spv_rechecking.specs.written_terms.Words.{vocabulary}
use Rattle.spv_rechecking.specs.written_terms.Read.{head_read}
use Rattle.spv_rechecking.specs.Rechecked.{term_of}

-- the words of names, titles and leaves, with the types and symbols of an arena
abbrev pub vocabulary_in : List (List ℕ) → List (Option Symbol) → Leaves → Arena → Vocabulary
vocabulary_in names titles l a = vocabulary names titles l a.shapes a.decls

-- the id that stands at a place
abbrev pub image_at : List TermId → Text → TermId
image_at images t = slice_index_or images t.0 (record { 0 = 0 })

abbrev pub images_at : List TermId → List Text → List TermId
images_at images ts = map (image_at images) ts

-- the ids of the terms that these texts stand for, one for each
pub record AreImages (v : Vocabulary) (a : Arena) (ws : List Written) (images : List TermId) : Type 0 where
  pub trees : map (tree a) images ≡ map (term_of v) ws
  pub in_range : AllBelow (length a.nodes) images

-- the heads of terms
abbrev pub AreHeads : Vocabulary → List Written → List Head → Type 0
AreHeads v ws heads = map (head_read v) ws ≡ map Some heads
