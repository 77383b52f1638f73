-- The table of names as tokens are entered.
use Rattle.std.proofs.Common.{◌≡◌, ◌++◌, ℕ, Bool, true, false, if◌then◌else◌, List, [], ◌∷◌, Result, Ok, Err, IfOk, OnOk, OnErr, Vec, Global, All, take, refl, sym, ap, ◌∙◌, arith}
use Rattle.std.specs.List.{list_any}
use Rattle.std.specs.Str.{bytes_eq}
use Rattle.std.proofs.lemmas.List.{append_assoc, append-nil, length-append}
use Rattle.std.proofs.lemmas.List.Elements.{All-cons}
use Rattle.spv_tree.specs.declared.tokens.token.Token.{Token}
use Rattle.std.proofs.lemmas.Option.{slice_get_within}
use Rattle.spv_logic.specs.names.Names.{place_of, with_text}
use Rattle.spv_logic.proofs.names.NameTable.{stands}
use Rattle.spv_lexer.specs.Spelling.{Spelling, word, name, number, sign}
use Rattle.spv_lexer.specs.Reading.{Spelled}
use Rattle.spv_lexer.specs.Tokens.{with_name, kind_of, names_after, numbered, IsInTable}

-- entering keeps what is there
with_name-grows : (names : List (List ℕ)) (kind : Spelling) → (more : List (List ℕ)) × (with_name names kind ≡ names ++ more)
with_name-grows names (word w) = ([], sym (append-nil names))
with_name-grows names (name text) = by (list_any (bytes_eq text) names)
  where
    by : (b : Bool) → (more : List (List ℕ)) × ((if b then names else names ++ text ∷ []) ≡ names ++ more)
    by true = ([], sym (append-nil names))
    by false = (text ∷ [], refl)
with_name-grows names (number n) = ([], sym (append-nil names))
with_name-grows names (sign s) = ([], sym (append-nil names))

pub names_after-grows : (names : List (List ℕ)) (tokens : List Spelled) → (more : List (List ℕ)) × (names_after names tokens ≡ names ++ more)
names_after-grows names [] = ([], sym (append-nil names))
names_after-grows names (t ∷ tokens) =
    let first = with_name-grows names t.kind in
    let rest = names_after-grows (with_name names t.kind) tokens in
    (first.0 ++ rest.0, rest.1 ∙ ap (λ l. l ++ rest.0) first.1 ∙ append_assoc names first.0 rest.0)

-- the names of the first tokens
pub grown-kept : {T E : Type 0} (r : Result T E) (start names : List (List ℕ)) (tokens : List Spelled) → OnOk r (names ≡ names_after start tokens)
    → OnErr r ((k : ℕ) × (names ≡ names_after start (take k tokens))) → (more : List (List ℕ)) × (names ≡ start ++ more)
grown-kept (Ok x) start names tokens all some = let more = names_after-grows start tokens in (more.0, all ∙ more.1)
grown-kept (Err e) start names tokens all some = let more = names_after-grows start (take some.0 tokens) in (more.0, some.1 ∙ more.1)

-- a name stays in a table that grows
IsInTable-grows : (names more : List (List ℕ)) (kind : Spelling) → IsInTable (with_name names kind ++ more) (kind_of names kind)
IsInTable-grows names more (word w) = tt
IsInTable-grows names more (name text) =
    let within = slice_get_within (with_text names text) (place_of names text) text (stands names text) in
    omega (arith, length-append (with_text names text) more)
IsInTable-grows names more (number n) = tt
IsInTable-grows names more (sign s) = tt

-- each name among the tokens is one of the table after them
pub numbered-in_table : (names : List (List ℕ)) (tokens : List Spelled) → All (λ t. IsInTable (names_after names tokens) t.kind) (numbered names tokens)
unfolding numbered
numbered-in_table names [] = λ k d below. absurd (omega arith)
numbered-in_table names (t ∷ tokens) =
    let more = names_after-grows (with_name names t.kind) tokens in
    let first : IsInTable (names_after (with_name names t.kind) tokens) (kind_of names t.kind) = rw more.1 (IsInTable-grows names more.0 t.kind) in
    All-cons (λ u. IsInTable (names_after (with_name names t.kind) tokens) u.kind) (record { kind = kind_of names t.kind; line = t.line }) (numbered (with_name names t.kind) tokens) first (numbered-in_table (with_name names t.kind) tokens)

-- so it is of the tokens that are answered
pub result-in_table : {E : Type 0} (r : Result (Vec Token Global) E) (start names : List (List ℕ)) (tokens : List Spelled) → IfOk r (λ ts. ts.items ≡ numbered start tokens) → OnOk r (names ≡ names_after start tokens)
    → IfOk r (λ ts. All (λ t. IsInTable names t.kind) ts.items)
result-in_table (Ok ts) start names tokens items after = rw (items, after) (numbered-in_table start tokens)
result-in_table (Err e) start names tokens items after = tt
