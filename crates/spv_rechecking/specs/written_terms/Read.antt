-- What is read of terms, one behind the other.
use Rattle.std.specs.Prelude.{◌≡◌, false, List, map, Option, Some, None}
use Rattle.std.specs.List.{list_all}
use Rattle.std.specs.Option.{option_map, option_and_then}
use Rattle.spv_logic.specs.declared.types.Sort.{Sort}
use Rattle.spv_logic.specs.declared.types.Shape.{Shape}
use Rattle.spv_logic.specs.declared.types.Decl.{Decl}
use Rattle.spv_logic.specs.declared.operators.Head.{Head}
use Rattle.spv_logic.specs.Sorts.{term_sort}
use Rattle.spv_term.specs.Arena.{sort_in}
use Rattle.spv_listing_values.specs.declared.texts.Text.{Text}
use Rattle.spv_listing_values.specs.Written.{Written}
use Rattle.spv_rechecking.specs.written_terms.Standing.{Vocabulary, top, sort_over, term_for, stands}
use Rattle.spv_rechecking.specs.declared.written_terms.reading.One.{One}

-- the head of the term that a text stands for
abbrev pub head_read : Vocabulary → Written → Option Head
head_read v w = option_map top (term_for v w)

-- its sort
abbrev pub sort_read : Vocabulary → Written → Option Sort
sort_read v w = option_and_then (term_sort v.shapes v.decls) (term_for v w)

-- each text stands for a term with its head and of its sort
pub record AreRead (v : Vocabulary) (ws : List Written) (heads : List Head) (sorts : List Sort) : Type 0 where
  pub heads_are : map (head_read v) ws ≡ map Some heads
  pub sorts_are : map (sort_read v) ws ≡ map Some sorts

-- the heads of the terms that texts stand for; none where one stands for no term
abbrev pub HeadsAre : Vocabulary → List Written → Option (List Head) → Type 0
HeadsAre v ws None = list_all (stands v) ws ≡ false
HeadsAre v ws (Some heads) = map (head_read v) ws ≡ map Some heads

-- ---- on the way

-- the sorts at these places
abbrev pub sorts_of : List Sort → List Text → List Sort
sorts_of sorts args = map (λ t. sort_in sorts (record { 0 = t.0 })) args

-- the head of a word and the sort of the term, where it may stand over arguments of these sorts
abbrev pub IsOneOver : Option Sort → Head → Option One → Type 0
IsOneOver None h one = one ≡ None
IsOneOver (Some s) h one = one ≡ Some (record { head = h; sort = s })

abbrev pub IsOne : List Shape → List Decl → Option Head → List Sort → Option One → Type 0
IsOne shapes decls None given one = one ≡ None
IsOne shapes decls (Some h) given one = IsOneOver (sort_over shapes decls h given) h one
