-- Reading at the front of tokens: a part, and the tokens behind it, or where the tokens go wrong.
use Rattle.std.specs.Prelude.{ℕ, zero, suc, Bool, false, if◌then◌else◌, List, [], ◌∷◌, Option, Some, None, length}
use denote.Enum.Bare.{sameb}
use Rattle.spv_tree.specs.declared.tokens.token.Token.{Token}
use Rattle.spv_tree.specs.declared.tokens.token.TokenKind.{TokenKind}
use Rattle.spv_tree.specs.declared.tokens.token.TokenKind.TheVariants as kind
use Rattle.spv_tree.specs.contracts.tokens.token.Word.{the_type as words}
use Rattle.spv_tree.specs.contracts.tokens.token.Sign.{the_type as signs}
use Rattle.spv_tree.specs.declared.syntax.lists.Several.{Several}
use Rattle.spv_tree.specs.declared.syntax.names.Name.{Name}
use Rattle.spv_tree.specs.syntax.Steps.{first_line}

-- ---- the first token

abbrev pub first : List TokenKind → Option TokenKind
first [] = None
first (k ∷ kinds) = Some k

abbrev pub front : List Token → Option TokenKind
front [] = None
front (t ∷ tokens) = Some t.kind

abbrev pub after : List Token → List Token
after [] = []
after (t ∷ tokens) = tokens

-- whether a token is this word or sign
abbrev pub same_kind : TokenKind → TokenKind → Bool
same_kind (kind.Word v) (kind.Word w) = sameb words v w
same_kind (kind.Sign s) (kind.Sign t) = sameb signs s t
same_kind _ _ = false

-- the same of the first token, if there is one
abbrev pub is : TokenKind → Option TokenKind → Bool
is k None = false
is k (Some l) = same_kind l k

-- ---- parts

-- why reading stops where so many tokens are left: none goes on so, or a part is due for which no level is left
pub data Stop : Type 0 where
  wrong : ℕ → Stop
  deep : ℕ → Stop

-- what comes of reading: a part and the tokens behind it, or a stop
pub data Outcome (A : Type 0) : Type 0 where
  Read : A × List Token → Outcome A
  Halted : Stop → Outcome A

abbrev pub Reader : Type 0 → Type 0
Reader A = List Token → Outcome A

-- no part fits the first token
abbrev pub misfit : {A : Type 0} → Reader A
misfit tokens = Halted (wrong (length tokens))

-- no level is left
abbrev pub nothing : {A : Type 0} → Reader A
nothing tokens = Halted (deep (length tokens))

-- a part, and then what the next reader makes of it and of the tokens behind it
abbrev pub and_then : {A B : Type 0} → Outcome A → (A → List Token → Outcome B) → Outcome B
and_then (Read r) next = next r.0 r.1
and_then (Halted s) next = Halted s

-- behind this word or sign, if the tokens begin with it
abbrev pub past : {B : Type 0} → TokenKind → List Token → (List Token → Outcome B) → Outcome B
past k tokens next = if is k (front tokens) then next (after tokens) else misfit tokens

abbrev pub name_of : Option TokenKind → Reader Name
name_of (Some (kind.Name x)) tokens = Read (record { line = first_line tokens; symbol = x }, after tokens)
name_of _ tokens = misfit tokens

abbrev pub name : Reader Name
name tokens = name_of (front tokens) tokens

-- ---- lists

-- what is read where an item may follow: no item begins here, or one is read, or fails to be
abbrev pub Next : Type 0 → Type 0
Next A = List Token → Option (Outcome A)

-- an item behind this word or sign
abbrev pub behind : {A : Type 0} → TokenKind → Reader A → Next A
behind k item tokens = if is k (front tokens) then Some (item (after tokens)) else None

-- an item behind an operator
abbrev pub operated : {O A : Type 0} → Option O → Reader A → Next (O × A)
operated None item tokens = None
operated (Some o) item tokens = Some (and_then (item (after tokens)) (λ x rest. Read ((o, x), rest)))

-- an item and the others, or none
abbrev pub items_by : {A L : Type 0} → L → (A → L → L) → Reader L → Option (Outcome A) → Reader L
items_by none add others None tokens = Read (none, tokens)
items_by none add others (Some item) tokens = and_then item (λ x mid. and_then (others mid) (λ xs rest. Read (add x xs, rest)))

-- as many items as follow, n at most: a list that is `none`, or an item put in front of the others by `add`
abbrev pub items : {A L : Type 0} → L → (A → L → L) → Next A → ℕ → Reader L
items none add next zero tokens = Read (none, tokens)
items none add next (suc n) tokens = items_by none add (items none add next n) (next tokens) tokens

-- as many items as follow
abbrev pub all_items : {A L : Type 0} → L → (A → L → L) → Next A → Reader L
all_items none add next tokens = items none add next (length tokens) tokens

-- at least one part, and a word or sign between two of them
abbrev pub several_of : {A : Type 0} → TokenKind → Reader A → Reader (Several A)
several_of k item tokens = and_then (item tokens) (λ x mid. and_then (all_items [] ◌∷◌ (behind k item) mid) (λ xs rest. Read (record { first = x; more = xs }, rest)))

-- ---- parts that stand behind a word

-- an item, where the first token begins one
abbrev pub starting : {A : Type 0} → (Option TokenKind → Bool) → Reader A → Next A
starting begins item tokens = if begins (front tokens) then Some (item tokens) else None

-- a word and at least one item, if the word is there, and as many items as begin
abbrev pub headed_by : {A : Type 0} → TokenKind → (Option TokenKind → Bool) → Reader A → Reader (List A)
headed_by k begins item tokens =
    if is k (front tokens) then and_then (item (after tokens)) (λ x mid. and_then (all_items [] ◌∷◌ (starting begins item) mid) (λ xs rest. Read (x ∷ xs, rest))) else Read ([], tokens)

-- what stands behind this word or sign, if it is there
abbrev pub optional : {A : Type 0} → TokenKind → Reader A → Reader (Option A)
optional k part tokens = if is k (front tokens) then and_then (part (after tokens)) (λ x rest. Read (Some x, rest)) else Read (None, tokens)

-- a part and the word or sign that ends it
abbrev pub ended : {A : Type 0} → TokenKind → Reader A → Reader A
ended k part tokens = and_then (part tokens) (λ x mid. past k mid (λ rest. Read (x, rest)))
