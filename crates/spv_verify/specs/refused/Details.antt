-- What is told behind the line of a refusal: a word, a name, or items.
use Rattle.std.specs.Prelude.{ℕ, List, [], ◌++◌, Option, Some, None, codes, decimal, slice_get}
use Rattle.spv_logic.specs.declared.names.names.Symbol.{Symbol}
use Rattle.spv_tree.specs.declared.tokens.token.Word.{Word}
use Rattle.spv_tree.specs.declared.tokens.token.Word.TheVariants.{Packed, Set, File, With, In, Goto, Label}
use Rattle.spv_logic.specs.declared.types.TypeId.{TypeId}
use Rattle.spv_program.specs.declared.types.Item.{Item}
use Rattle.spv_program.specs.declared.types.Item.TheVariants.{Variable, Class}

-- a word that is left out
abbrev pub left_out_text : Word → List ℕ
left_out_text Packed = codes "PACKED"
left_out_text Set = codes "SET"
left_out_text File = codes "FILE"
left_out_text With = codes "WITH"
left_out_text In = codes "IN"
left_out_text Goto = codes "GOTO"
left_out_text Label = codes "LABEL"
left_out_text _ = []

abbrev pub text_or_none : Option (List ℕ) → List ℕ
text_or_none (Some text) = text
text_or_none None = []

-- the text of a name
abbrev pub name_text : List (List ℕ) → Symbol → List ℕ
name_text names x = text_or_none (slice_get names x.0)

abbrev pub title_or_none : Option (Option Symbol) → Option Symbol
title_or_none (Some title) = title
title_or_none None = None

-- the first name of a type, where it has one
abbrev pub title : List (Option Symbol) → TypeId → Option Symbol
title titles t = title_or_none (slice_get titles t.0)

abbrev pub title_text : List (List ℕ) → Option Symbol → List ℕ
title_text names (Some x) = name_text names x
title_text names None = []

-- a variable by its name, a class by a sign and the first name of its type
abbrev pub item_text : List (List ℕ) → List (Option Symbol) → Item → List ℕ
item_text names titles (Variable x) = name_text names x
item_text names titles (Class t) = codes "#" ++ title_text names (title titles t)

abbrev pub items_text : List (List ℕ) → List (Option Symbol) → Item → Item → List ℕ
items_text names titles a b = item_text names titles a ++ codes " " ++ item_text names titles b

-- how many conditions, or terms, there may be
abbrev pub conditions_text : ℕ → List ℕ
conditions_text most = codes "CONDITIONS " ++ decimal most

abbrev pub terms_text : ℕ → List ℕ
terms_text most = codes "TERMS " ++ decimal most
