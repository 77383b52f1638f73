-- The parts of a refusal: its number and word, its line, and what is told behind it.
use Rattle.std.specs.Prelude.{ℕ, List, codes}
use Rattle.spv_verify.specs.declared.refused.refusal.Refusal.{Refusal}
use Rattle.spv_verify.specs.declared.refused.refusal.Refusal.TheVariants.{Byte, Comment, Numeral, Length, Syntax, Depth, Profile, Undeclared, Twice, Typing, Count, Alias, Nested, Parameter, Control, Global, Function, Size, Unbound, Listing}

-- the number and the word of a refusal
abbrev pub reason : Refusal → List ℕ
reason (Byte line detail) = codes "1 BYTE"
reason (Comment line detail) = codes "2 COMMENT"
reason (Numeral line detail) = codes "3 NUMERAL"
reason (Length line detail) = codes "4 LENGTH"
reason (Syntax line detail) = codes "5 SYNTAX"
reason (Depth line detail) = codes "6 DEPTH"
reason (Profile line detail) = codes "7 PROFILE"
reason (Undeclared line detail) = codes "8 UNDECLARED"
reason (Twice line detail) = codes "9 TWICE"
reason (Typing line detail) = codes "10 TYPE"
reason (Count line detail) = codes "11 COUNT"
reason (Alias line detail) = codes "12 ALIAS"
reason (Nested line detail) = codes "13 NESTED"
reason (Parameter line detail) = codes "14 PARAMETER"
reason (Control line detail) = codes "15 CONTROL"
reason (Global line detail) = codes "16 GLOBAL"
reason (Function line detail) = codes "17 FUNCTION"
reason (Size line detail) = codes "19 SIZE"
reason (Unbound line detail) = codes "20 UNBOUND"
reason (Listing line detail) = codes "21 LISTING"

abbrev pub line_of : Refusal → ℕ
line_of (Byte line detail) = line
line_of (Comment line detail) = line
line_of (Numeral line detail) = line
line_of (Length line detail) = line
line_of (Syntax line detail) = line
line_of (Depth line detail) = line
line_of (Profile line detail) = line
line_of (Undeclared line detail) = line
line_of (Twice line detail) = line
line_of (Typing line detail) = line
line_of (Count line detail) = line
line_of (Alias line detail) = line
line_of (Nested line detail) = line
line_of (Parameter line detail) = line
line_of (Control line detail) = line
line_of (Global line detail) = line
line_of (Function line detail) = line
line_of (Size line detail) = line
line_of (Unbound line detail) = line
line_of (Listing line detail) = line

-- what is told behind the line
abbrev pub detail_of : Refusal → List ℕ
detail_of (Byte line detail) = detail
detail_of (Comment line detail) = detail
detail_of (Numeral line detail) = detail
detail_of (Length line detail) = detail
detail_of (Syntax line detail) = detail
detail_of (Depth line detail) = detail
detail_of (Profile line detail) = detail
detail_of (Undeclared line detail) = detail
detail_of (Twice line detail) = detail
detail_of (Typing line detail) = detail
detail_of (Count line detail) = detail
detail_of (Alias line detail) = detail
detail_of (Nested line detail) = detail
detail_of (Parameter line detail) = detail
detail_of (Control line detail) = detail
detail_of (Global line detail) = detail
detail_of (Function line detail) = detail
detail_of (Size line detail) = detail
detail_of (Unbound line detail) = detail
detail_of (Listing line detail) = detail
