-- Declarations that are spelled are read.
use Rattle.std.proofs.Common.{◌≡◌, ℕ, suc, ◌+◌, ◌≤◌, false, ◌||◌, List, [], ◌∷◌, Option, Some, None, length, refl, ap, arith}
use Rattle.spv_logic.proofs.list.Tests.{left_false, right_false, both_false}
use Rattle.spv_tree.specs.declared.tokens.token.Token.{Token}
use Rattle.spv_tree.specs.declared.tokens.token.TokenKind.{TokenKind}
use Rattle.spv_tree.specs.declared.tokens.token.TokenKind.TheVariants as kind
use Rattle.spv_tree.specs.declared.tokens.token.Word.TheVariants as word
use Rattle.spv_tree.specs.declared.tokens.token.Sign.TheVariants as sign
use Rattle.spv_tree.specs.declared.syntax.lists.Several.{Several}
use Rattle.spv_tree.specs.declared.syntax.declarations.Const.{Const}
use Rattle.spv_tree.specs.declared.syntax.declarations.Typedef.{Typedef}
use Rattle.spv_tree.specs.declared.syntax.declarations.Vars.{Vars}
use Rattle.spv_tree.specs.declared.syntax.declarations.NameOrClass.{NameOrClass}
use Rattle.spv_tree.specs.declared.syntax.declarations.NameOrClass.TheVariants as either
use Rattle.spv_tree.specs.declared.syntax.declarations.SortName.{SortName}
use Rattle.spv_tree.specs.declared.syntax.declarations.SymbolText.{SymbolText}
use Rattle.spv_tree.specs.declared.syntax.declarations.Declarations.{Declarations}
use Rattle.spv_tree.specs.syntax.Lists.{further, headed}
use Rattle.spv_tree.specs.syntax.Steps.{Step, passes, first_line}
use Rattle.spv_grammar.specs.reading.Readers.{first, is, several_of, headed_by, optional}
use Rattle.spv_grammar.specs.reading.StatementReaders.{read_constant}
use Rattle.spv_grammar.specs.reading.TypeReaders.{begins_name, read_type}
use Rattle.spv_grammar.specs.reading.DeclarationReaders.{read_const, read_name_or_class, read_sort, read_sorts, read_symbol, read_typedef, read_vars, read_declarations}
use Rattle.spv_grammar.specs.reading.Continuing.{continues_type, continues_declarations}
use Rattle.spv_grammar.specs.reading.Depths.{type_depth, typedefs_depth, variables_depth, declarations_depth}
use Rattle.spv_grammar.specs.reading.Parts.{Stands, constant_part, type_part, several_part, headed_part, const_part, typedef_part, vars_part, sort_part, symbol_part, declarations_part}
use Rattle.spv_grammar.proofs.reading.Whole.{Answers, Complete, Each, front_of, begun_of, taken_of, if_true, if_false, name_complete, done, then_answers, past_answers, answers_after, several_complete}
use Rattle.spv_grammar.proofs.reading.WholeHeads.{never, ended_complete, absent, present, headed_ends, headed_complete}
use Rattle.spv_grammar.proofs.reading.StatementLengths.{constant_length}
use Rattle.spv_grammar.proofs.reading.StatementWhole.{constant_complete}
use Rattle.spv_grammar.proofs.reading.TypeWhole.{names_complete, type_complete, names_length, type_length}
use Rattle.spv_tree.specs.syntax.Members.{in_kinds, in_lines}
use Rattle.spv_tree.specs.syntax.ProgramSpelling.{name_or_class_spelling, sorts_spelling, symbol_spelling, typedef_spelling, vars_spelling, const_spelling, sort_spelling}
use Rattle.spv_tree.specs.syntax.TypeSpelling.{type_spelling}

-- ---- constants, types and variables

const_complete : (c : Const) → Complete const_part never read_const c
const_complete c tokens spelled steps s e =
    let b = begun_of s in
    then_answers (name_complete c.name b.stands) (λ x is_x mid m. past_answers (kind.Sign sign.Equal) refl m (λ last q. then_answers (ended_complete (kind.Sign sign.Semicolon) constant_part never read_constant c.value refl refl (constant_complete c.value) last spelled steps q refl) (λ v is_v rest r. done {y = record { line = first_line tokens; name = x; value = v }} r (λ i. record { line = b.line i; name = is_x i; value = is_v i }))))

typedef_complete : (n : ℕ) (t : Typedef) → type_depth t.of ≤ n → Complete typedef_part never (read_typedef n) t
typedef_complete n t d tokens spelled steps s e =
    let b = begun_of s in
    then_answers (name_complete t.name b.stands) (λ x is_x mid m. past_answers (kind.Sign sign.Equal) refl m (λ last q. then_answers (ended_complete (kind.Sign sign.Semicolon) type_part continues_type (read_type n) t.of refl refl (type_complete t.of n d) last spelled steps q refl) (λ v is_v rest r. done {y = record { line = first_line tokens; name = x; of = v }} r (λ i. record { line = b.line i; name = is_x i; of = is_v i }))))

vars_complete : (n : ℕ) (t : Vars) → type_depth t.of ≤ n → Complete vars_part never (read_vars n) t
vars_complete n t d tokens spelled steps s e =
    let b = begun_of s in
    then_answers (names_complete t.names tokens (kind.Sign sign.Colon ∷ type_spelling in_kinds t.of (kind.Sign sign.Semicolon ∷ spelled)) (passes ∷ (type_spelling in_lines) t.of (passes ∷ steps)) b.stands refl) (λ xs is_xs mid m. past_answers (kind.Sign sign.Colon) refl m (λ last q. then_answers (ended_complete (kind.Sign sign.Semicolon) type_part continues_type (read_type n) t.of refl refl (type_complete t.of n d) last spelled steps q refl) (λ v is_v rest r. done {y = record { line = first_line tokens; names = xs; of = v }} r (λ i. record { line = b.line i; names = is_xs i; of = is_v i }))))

-- ---- symbols

pub either_answers : (x : NameOrClass) {tokens : List Token} {spelled : List TokenKind} {steps : List Step} → Stands tokens (name_or_class_spelling in_kinds x spelled) (name_or_class_spelling in_lines x steps) → Answers (read_name_or_class tokens) x tokens spelled steps
either_answers (either.Name x) s =
    answers_after (omega arith) (if_false _ (ap (is (kind.Sign sign.Hash)) (front_of s)) refl) (then_answers (name_complete x s) (λ y is_y rest r. done {y = either.Name y} r (ap either.Name is_y)))
either_answers (either.Class x) s =
    let p = taken_of s in
    answers_after (omega (arith, p.shorter)) (if_true _ (ap (is (kind.Sign sign.Hash)) p.front) refl) (then_answers (name_complete x p.stands) (λ y is_y rest r. done {y = either.Class y} r (ap either.Class is_y)))

pub sort_complete : (x : SortName) → Complete sort_part never read_sort x
sort_complete x tokens spelled steps s e =
    let b = begun_of s in
    then_answers (either_answers x.form b.stands) (λ y is_y rest r. done {y = record { line = first_line tokens; form = y }} r (λ i. record { line = b.line i; form = is_y i }))

all_sorts : (xs : List SortName) → Each (Complete sort_part never read_sort) xs
all_sorts [] = tt
all_sorts (x ∷ xs) = (sort_complete x, all_sorts xs)

sorts_answers : (xs : Option (Several SortName)) {tokens : List Token} {spelled : List TokenKind} {steps : List Step} → Stands tokens (sorts_spelling in_kinds xs spelled) (sorts_spelling in_lines xs steps) → is (kind.Sign sign.OpenParenthesis) (first spelled) ≡ false → Answers (optional (kind.Sign sign.OpenParenthesis) read_sorts tokens) xs tokens spelled steps
sorts_answers None s e = absent (kind.Sign sign.OpenParenthesis) read_sorts s e
sorts_answers (Some xs) {tokens} {spelled} {steps} s e =
    present (kind.Sign sign.OpenParenthesis) read_sorts refl s (λ mid m. ended_complete (kind.Sign sign.CloseParenthesis) (several_part (kind.Sign sign.Comma) sort_part) (λ o. is (kind.Sign sign.Comma) o || false) (several_of (kind.Sign sign.Comma) read_sort) xs refl refl (several_complete (kind.Sign sign.Comma) sort_part never read_sort refl refl xs (sort_complete xs.first) (all_sorts xs.more)) mid spelled steps m refl)

symbol_complete : (x : SymbolText) → Complete symbol_part never read_symbol x
symbol_complete x tokens spelled steps s e =
    let b = begun_of s in
    then_answers (name_complete x.name b.stands) (λ y is_y mid m. then_answers (sorts_answers x.arguments m refl) (λ ys is_ys last q. past_answers (kind.Sign sign.Colon) refl q (λ next n. then_answers (ended_complete (kind.Sign sign.Semicolon) sort_part never read_sort x.result refl refl (sort_complete x.result) next spelled steps n refl) (λ z is_z rest r. done {y = record { line = first_line tokens; name = y; arguments = ys; result = z }} r (λ i. record { line = b.line i; name = is_y i; arguments = is_ys i; result = is_z i })))))

-- ---- all of them

all_consts : (xs : List Const) → Each (Complete const_part never read_const) xs
all_consts [] = tt
all_consts (x ∷ xs) = (const_complete x, all_consts xs)

all_typedefs : (n : ℕ) (xs : List Typedef) → typedefs_depth xs ≤ n → Each (Complete typedef_part never (read_typedef n)) xs
all_typedefs n [] d = tt
all_typedefs n (x ∷ xs) d = (typedef_complete n x (omega arith), all_typedefs n xs (omega arith))

all_vars : (n : ℕ) (xs : List Vars) → variables_depth xs ≤ n → Each (Complete vars_part never (read_vars n)) xs
all_vars n [] d = tt
all_vars n (x ∷ xs) d = (vars_complete n x (omega arith), all_vars n xs (omega arith))

all_symbols : (xs : List SymbolText) → Each (Complete symbol_part never read_symbol) xs
all_symbols [] = tt
all_symbols (x ∷ xs) = (symbol_complete x, all_symbols xs)

pub either_length : (x : NameOrClass) (rest : List TokenKind) → suc (length rest) ≤ length (name_or_class_spelling in_kinds x rest)
either_length (either.Name x) rest = omega arith
either_length (either.Class x) rest = omega arith

further_sorts : (xs : List SortName) (rest : List TokenKind) → length rest ≤ length (further (kind.Sign sign.Comma) (sort_spelling in_kinds) xs rest)
further_sorts [] rest = omega arith
further_sorts (x ∷ xs) rest = omega (arith, either_length x.form (further (kind.Sign sign.Comma) (sort_spelling in_kinds) xs rest), further_sorts xs rest)

sorts_length : (xs : Option (Several SortName)) (rest : List TokenKind) → length rest ≤ length (sorts_spelling in_kinds xs rest)
sorts_length None rest = omega arith
sorts_length (Some xs) rest =
    omega (arith, either_length xs.first.form (further (kind.Sign sign.Comma) (sort_spelling in_kinds) xs.more (kind.Sign sign.CloseParenthesis ∷ rest)), further_sorts xs.more (kind.Sign sign.CloseParenthesis ∷ rest))

pub const_length : (x : Const) (rest : List TokenKind) → suc (length rest) ≤ length (const_spelling in_kinds x rest)
const_length x rest = omega (arith, constant_length x.value (kind.Sign sign.Semicolon ∷ rest))

pub typedef_length : (x : Typedef) (rest : List TokenKind) → suc (type_depth x.of + length rest) ≤ length (typedef_spelling in_kinds x rest)
typedef_length x rest = omega (arith, type_length x.of (kind.Sign sign.Semicolon ∷ rest))

pub vars_length : (x : Vars) (rest : List TokenKind) → suc (type_depth x.of + length rest) ≤ length (vars_spelling in_kinds x rest)
vars_length x rest = omega (arith, names_length x.names (kind.Sign sign.Colon ∷ type_spelling in_kinds x.of (kind.Sign sign.Semicolon ∷ rest)), type_length x.of (kind.Sign sign.Semicolon ∷ rest))

pub symbol_length : (x : SymbolText) (rest : List TokenKind) → suc (length rest) ≤ length (symbol_spelling in_kinds x rest)
symbol_length x rest =
    omega (arith, sorts_length x.arguments (kind.Sign sign.Colon ∷ sort_spelling in_kinds x.result (kind.Sign sign.Semicolon ∷ rest)), either_length x.result.form (kind.Sign sign.Semicolon ∷ rest))

pub consts_complete : (xs : List Const) → Complete (headed_part (kind.Word word.Const) const_part) (λ o. is (kind.Word word.Const) o || begins_name o) (headed_by (kind.Word word.Const) begins_name read_const) xs
consts_complete xs = headed_complete const_part begins_name read_const (λ x rest. refl) const_length (kind.Word word.Const) refl xs (all_consts xs)

typedefs_complete : (n : ℕ) (xs : List Typedef) → typedefs_depth xs ≤ n → Complete (headed_part (kind.Word word.Type) typedef_part) (λ o. is (kind.Word word.Type) o || begins_name o) (headed_by (kind.Word word.Type) begins_name (read_typedef n)) xs
typedefs_complete n xs d = headed_complete typedef_part begins_name (read_typedef n) (λ x rest. refl) (λ x rest. omega (arith, typedef_length x rest)) (kind.Word word.Type) refl xs (all_typedefs n xs d)

pub variables_complete : (n : ℕ) (xs : List Vars) → variables_depth xs ≤ n → Complete (headed_part (kind.Word word.Var) vars_part) (λ o. is (kind.Word word.Var) o || begins_name o) (headed_by (kind.Word word.Var) begins_name (read_vars n)) xs
variables_complete n xs d = headed_complete vars_part begins_name (read_vars n) (λ x rest. refl) (λ x rest. omega (arith, vars_length x rest)) (kind.Word word.Var) refl xs (all_vars n xs d)

symbols_complete : (xs : List SymbolText) → Complete (headed_part (kind.Word word.Declare) symbol_part) (λ o. is (kind.Word word.Declare) o || begins_name o) (headed_by (kind.Word word.Declare) begins_name read_symbol) xs
symbols_complete xs = headed_complete symbol_part begins_name read_symbol (λ x rest. refl) symbol_length (kind.Word word.Declare) refl xs (all_symbols xs)

-- what ends declarations ends each kind of them
record Ends (o : Option TokenKind) : Type 0 where
  constants : (is (kind.Word word.Const) o || begins_name o) ≡ false
  types : (is (kind.Word word.Type) o || begins_name o) ≡ false
  variables : (is (kind.Word word.Var) o || begins_name o) ≡ false
  symbols : (is (kind.Word word.Declare) o || begins_name o) ≡ false

ends_of : (o : Option TokenKind) → continues_declarations o ≡ false → Ends o
ends_of o e =
    let no_name = left_false (begins_name o) _ e in
    let one = right_false (begins_name o) _ e in
    let two = right_false (is (kind.Word word.Const) o) _ one in
    let three = right_false (is (kind.Word word.Type) o) _ two in
    record {
      constants = both_false _ _ (left_false (is (kind.Word word.Const) o) _ one) no_name;
      types = both_false _ _ (left_false (is (kind.Word word.Type) o) _ two) no_name;
      variables = both_false _ _ (left_false (is (kind.Word word.Var) o) _ three) no_name;
      symbols = both_false _ _ (right_false (is (kind.Word word.Var) o) _ three) no_name;
    }

pub declarations_complete : (x : Declarations) (n : ℕ) → declarations_depth x ≤ n → Complete declarations_part continues_declarations (read_declarations n) x
declarations_complete x n d tokens spelled steps s e =
    let b = begun_of s in
    then_answers (consts_complete x.constants tokens (headed (kind.Word word.Type) (typedef_spelling in_kinds) x.types after_types) (headed passes (typedef_spelling in_lines) x.types lines_after_types) b.stands end_of_constants) (λ cs is_cs two m. then_answers (typedefs_complete n x.types (omega arith) two after_types lines_after_types m end_of_types) (λ ts is_ts three q. then_answers (variables_complete n x.variables (omega arith) three after_variables lines_after_variables q end_of_variables) (λ vs is_vs four v. then_answers (symbols_complete x.symbols four spelled steps v ends.symbols) (λ ss is_ss rest r. done {y = record { line = first_line tokens; constants = cs; types = ts; variables = vs; symbols = ss }} r (λ i. record { line = b.line i; constants = is_cs i; types = is_ts i; variables = is_vs i; symbols = is_ss i })))))
  where
    ends : Ends (first spelled)
    ends = ends_of (first spelled) e

    after_variables : List TokenKind
    after_variables = headed (kind.Word word.Declare) (symbol_spelling in_kinds) x.symbols spelled

    lines_after_variables : List Step
    lines_after_variables = headed passes (symbol_spelling in_lines) x.symbols steps

    after_types : List TokenKind
    after_types = headed (kind.Word word.Var) (vars_spelling in_kinds) x.variables after_variables

    lines_after_types : List Step
    lines_after_types = headed passes (vars_spelling in_lines) x.variables lines_after_variables

    end_of_variables : (is (kind.Word word.Var) (first after_variables) || begins_name (first after_variables)) ≡ false
    end_of_variables = headed_ends (λ o. is (kind.Word word.Var) o || begins_name o) (kind.Word word.Declare) (symbol_spelling in_kinds) x.symbols spelled refl ends.variables

    end_of_types : (is (kind.Word word.Type) (first after_types) || begins_name (first after_types)) ≡ false
    end_of_types =
        headed_ends (λ o. is (kind.Word word.Type) o || begins_name o) (kind.Word word.Var) (vars_spelling in_kinds) x.variables after_variables refl (headed_ends (λ o. is (kind.Word word.Type) o || begins_name o) (kind.Word word.Declare) (symbol_spelling in_kinds) x.symbols spelled refl ends.types)

    end_of_constants : (is (kind.Word word.Const) (first (headed (kind.Word word.Type) (typedef_spelling in_kinds) x.types after_types)) || begins_name (first (headed (kind.Word word.Type) (typedef_spelling in_kinds) x.types after_types))) ≡ false
    end_of_constants =
        headed_ends (λ o. is (kind.Word word.Const) o || begins_name o) (kind.Word word.Type) (typedef_spelling in_kinds) x.types after_types refl (headed_ends (λ o. is (kind.Word word.Const) o || begins_name o) (kind.Word word.Var) (vars_spelling in_kinds) x.variables after_variables refl (headed_ends (λ o. is (kind.Word word.Const) o || begins_name o) (kind.Word word.Declare) (symbol_spelling in_kinds) x.symbols spelled refl ends.constants))
