-- A type that is spelled is read.
use Rattle.std.proofs.Common.{◌≡◌, ℕ, zero, suc, ◌+◌, ◌≤◌, Bool, false, ◌||◌, List, [], ◌∷◌, Option, Some, None, length, refl, ap, ◌∙◌, arith}
use Rattle.spv_logic.proofs.list.Tests.{left_false, right_false}
use Rattle.spv_tree.specs.declared.tokens.token.Token.{Token}
use Rattle.spv_tree.specs.declared.tokens.token.TokenKind.{TokenKind}
use Rattle.spv_tree.specs.declared.tokens.token.TokenKind.TheVariants as kind
use Rattle.spv_tree.specs.declared.tokens.token.Word.TheVariants as word
use Rattle.spv_tree.specs.declared.tokens.token.Sign.TheVariants as sign
use Rattle.spv_tree.specs.declared.syntax.lists.Several.{Several}
use Rattle.spv_tree.specs.declared.syntax.names.Name.{Name}
use Rattle.spv_tree.specs.declared.syntax.names.Scalar.{Scalar}
use Rattle.spv_tree.specs.declared.syntax.names.Scalar.TheVariants as scalar
use Rattle.spv_tree.specs.declared.syntax.names.Constant.{Constant}
use Rattle.spv_tree.specs.declared.syntax.operators.PlusOrMinus.{PlusOrMinus}
use Rattle.spv_tree.specs.declared.syntax.operators.PlusOrMinus.TheVariants as prefix
use Rattle.spv_tree.specs.syntax.Types.{TypeDenoter, named, range, pointer, array, fields, MoreTypes, no_more_types, more_types, Field, no_field, field, MoreFields, no_more_fields, more_fields}
use Rattle.spv_tree.specs.syntax.Lists.{further}
use Rattle.spv_tree.specs.syntax.Members.{in_kinds}
use Rattle.spv_tree.specs.syntax.FormulaSpelling.{name_spelling}
use Rattle.spv_tree.specs.syntax.TypeSpelling.{constant_spelling, field_spelling, more_fields_spelling, more_types_spelling, names_spelling, type_spelling}
use Rattle.spv_tree.specs.syntax.Steps.{Step, passes, first_line}
use Rattle.spv_grammar.specs.reading.Readers.{first, after, is, Reader, name, behind, items}
use Rattle.spv_grammar.specs.reading.TypeReaders.{read_names, begins_name, read_upper, read_range, read_field_part, type_on, type_by, read_lower_type, read_type}
use Rattle.spv_grammar.specs.reading.Continuing.{continues_type, continues_types, continues_field, continues_fields}
use Rattle.spv_grammar.specs.reading.Depths.{type_depth, more_types_depth, field_depth, more_fields_depth}
use Rattle.spv_grammar.specs.reading.Parts.{Stands, name_part, constant_part, names_part, type_part, more_types_part, field_part, more_fields_part}
use Rattle.spv_grammar.proofs.reading.Whole.{Answers, Complete, CompleteList, Each, front_of, begun_of, taken_of, if_true, if_false, none_complete, more_complete, name_complete, behind_complete, behind_none, done, then_answers, past_answers, answers_after, several_complete}
use Rattle.spv_grammar.proofs.reading.StatementLengths.{constant_length}
use Rattle.spv_grammar.proofs.reading.StatementWhole.{name_same, constant_complete}
use Rattle.spv_grammar.proofs.reading.WholeHeads.{never}

-- ---- names

name_whole : (x : Name) → Complete name_part never name x
name_whole x tokens spelled steps s e = name_complete x s

all_names : (xs : List Name) → Each (Complete name_part never name) xs
all_names [] = tt
all_names (x ∷ xs) = (name_whole x, all_names xs)

or_false : (b : Bool) → b ≡ false → (b || false) ≡ false
or_false b h = ap (λ c. c || false) h

pub names_complete : (xs : Several Name) → Complete names_part (is (kind.Sign sign.Comma)) read_names xs
names_complete xs tokens spelled steps s e =
    several_complete (kind.Sign sign.Comma) name_part never name refl refl xs (name_whole xs.first) (all_names xs.more) tokens spelled steps (record { spelled = s.spelled; lined = s.lined }) (or_false _ e)

-- ---- types

lower_of : (n : ℕ) (t : TypeDenoter) → ((m : ℕ) → type_depth t ≤ m → Complete type_part continues_type (read_type m) t) → suc (type_depth t) ≤ n → Complete type_part continues_type (read_lower_type n) t
lower_of zero t h d = absurd (omega arith)
lower_of (suc n) t h d = h n (omega arith)

module _ (lower : Reader TypeDenoter) where
  abbrev IsType : TypeDenoter → Type 0
  IsType t = Complete type_part continues_type (type_by lower) t

  abbrev IsLower : TypeDenoter → Type 0
  IsLower t = Complete type_part continues_type lower t

  named_step : (line : ℕ) (x : Name) → IsType (named line x)
  named_step line x tokens spelled steps s e =
      let b = begun_of s in
      let y = begun_of b.stands in
      let p = taken_of y.stands in
      let line_is : first_line tokens ≡ line = b.line in
      let name_is : record { line = first_line tokens; symbol = x.symbol } ≡ x = name_same tokens x y.line in
      answers_after (omega (arith, p.shorter)) (ap (λ o. type_on lower o tokens) p.front ∙ if_false _ (ap (is (kind.Sign sign.Range)) (front_of p.stands) ∙ e) refl) (done {y = named (first_line tokens) (record { line = first_line tokens; symbol = x.symbol })} p.stands (cc (line_is, name_is)))

  pointer_step : (line : ℕ) (x : Name) → IsType (pointer line x)
  pointer_step line x tokens spelled steps s e =
      let b = begun_of s in
      let p = taken_of b.stands in
      answers_after (omega (arith, p.shorter)) (ap (λ o. type_on lower o tokens) p.front) (then_answers (name_complete x p.stands) (λ y is_y rest r. done {y = pointer (first_line tokens) y} r (cc (b.line, is_y))))

  -- the upper bound
  upper_answers : (line here : ℕ) (low read : Constant) (high : Constant) → here ≡ line → read ≡ low → (tokens : List Token) (spelled : List TokenKind) (steps : List Step) → Stands tokens (constant_spelling in_kinds high spelled) (constant_part.lined high steps) → Answers (read_upper here read tokens) (range line low high) tokens spelled steps
  upper_answers line here low read high a b tokens spelled steps s =
      then_answers (constant_complete high tokens spelled steps s refl) (λ y is_y rest r. done {y = range here read y} r (cc (a, b, is_y)))

  -- a range that does not begin with a name
  signed_step : (line : ℕ) (low high : Constant) (tokens : List Token) (spelled : List TokenKind) (steps : List Step) → Stands tokens (type_spelling in_kinds (range line low high) spelled) (type_part.lined (range line low high) steps) → type_on lower (first (type_spelling in_kinds (range line low high) spelled)) tokens ≡ read_range tokens → Answers (type_by lower tokens) (range line low high) tokens spelled steps
  signed_step line low high tokens spelled steps s same =
      let b = begun_of s in
      answers_after (omega arith) (ap (λ o. type_on lower o tokens) (front_of s) ∙ same) (then_answers (constant_complete low tokens _ _ b.stands refl) (λ x is_x mid m. past_answers (kind.Sign sign.Range) refl m (λ last q. upper_answers line (first_line tokens) low x high b.line is_x last spelled steps q)))

  -- one that begins with a name
  named_range_step : (line here : ℕ) (x : Name) (high : Constant) → IsType (range line (record { line = here; sign = None; value = scalar.Name x }) high)
  named_range_step line here x high tokens spelled steps s e =
      let b = begun_of s in
      let c = begun_of b.stands in
      let y = begun_of c.stands in
      let p = taken_of y.stands in
      let q = taken_of p.stands in
      let name_is : record { line = first_line tokens; symbol = x.symbol } ≡ x = name_same tokens x y.line in
      answers_after (omega (arith, p.shorter, q.shorter)) (ap (λ o. type_on lower o tokens) p.front ∙ if_true _ (ap (is (kind.Sign sign.Range)) q.front) refl) (upper_answers line (first_line tokens) (record { line = here; sign = None; value = scalar.Name x }) (record { line = first_line tokens; sign = None; value = scalar.Name (record { line = first_line tokens; symbol = x.symbol }) }) high b.line (λ i. record { line = c.line i; sign = None; value = scalar.Name (name_is i) }) (after (after tokens)) spelled steps q.stands)

  range_by : (line here : ℕ) (s : Option PlusOrMinus) (x : Scalar) (high : Constant) → IsType (range line (record { line = here; sign = s; value = x }) high)
  range_by line here None (scalar.Name x) high = named_range_step line here x high
  range_by line here None (scalar.Number n) high = λ tokens spelled steps s e. signed_step line (record { line = here; sign = None; value = scalar.Number n }) high tokens spelled steps s refl
  range_by line here (Some prefix.Plus) x high = λ tokens spelled steps s e. signed_step line (record { line = here; sign = Some prefix.Plus; value = x }) high tokens spelled steps s refl
  range_by line here (Some prefix.Minus) x high = λ tokens spelled steps s e. signed_step line (record { line = here; sign = Some prefix.Minus; value = x }) high tokens spelled steps s refl

  range_step : (line : ℕ) (low high : Constant) → IsType (range line low high)
  range_step line low high = range_by line low.line low.sign low.value high

  abbrev AllTypes : MoreTypes → Type 0
  AllTypes more = CompleteList more_types_part continues_types (items no_more_types more_types (behind (kind.Sign sign.Comma) lower)) more

  types_end : (more : MoreTypes) (spelled : List TokenKind) → continues_types (first spelled) ≡ false → continues_type (first (more_types_spelling in_kinds more spelled)) ≡ false
  types_end no_more_types spelled e = right_false (is (kind.Sign sign.Comma) (first spelled)) _ e
  types_end (more_types t more) spelled e = refl

  array_step : (line : ℕ) (t : TypeDenoter) (more : MoreTypes) (elements : TypeDenoter) → IsLower t → AllTypes more → IsLower elements → IsType (array line t more elements)
  array_step line t more elements g h k tokens spelled steps s e =
      let b = begun_of s in
      let p = taken_of b.stands in
      answers_after (omega (arith, p.shorter)) (ap (λ o. type_on lower o tokens) p.front) (past_answers (kind.Sign sign.OpenBracket) refl p.stands (λ opened o. then_answers (g opened _ _ o (types_end more _ refl)) (λ u is_u mid m. then_answers (h (length mid) mid _ _ (omega arith) m refl) (λ us is_us last q. past_answers (kind.Sign sign.CloseBracket) refl q (λ shut v. past_answers (kind.Word word.Of) refl v (λ next n. then_answers (k next spelled steps n e) (λ w is_w rest r. done {y = array (first_line tokens) u us w} r (cc (b.line, is_u, is_us, is_w)))))))))

  -- ---- fields

  field_step : (line : ℕ) (xs : Several Name) (t : TypeDenoter) → IsLower t → Complete field_part continues_type (read_field_part lower) (field line xs t)
  field_step line xs t g tokens spelled steps s e =
      let b = begun_of s in
      answers_after (omega arith) (if_true _ (ap begins_name (front_of s)) refl) (then_answers (names_complete xs tokens (kind.Sign sign.Colon ∷ type_spelling in_kinds t spelled) (passes ∷ type_part.lined t steps) b.stands refl) (λ ys is_ys mid m. past_answers (kind.Sign sign.Colon) refl m (λ last q. then_answers (g last spelled steps q e) (λ u is_u rest r. done {y = field (first_line tokens) ys u} r (cc (b.line, is_ys, is_u))))))

  no_field_step : (line : ℕ) → Complete field_part begins_name (read_field_part lower) (no_field line)
  no_field_step line tokens spelled steps s e =
      let b = begun_of s in
      answers_after (omega arith) (if_false _ (ap begins_name (front_of s) ∙ e) refl) (done {y = no_field (first_line tokens)} b.stands (ap no_field b.line))

  field_ends : (f : Field) (o : Option TokenKind) → continues_fields o ≡ false → continues_field f o ≡ false
  field_ends (no_field line) o e = left_false (begins_name o) _ (right_false (is (kind.Sign sign.Semicolon) o) _ e)
  field_ends (field line xs t) o e = right_false (begins_name o) _ (right_false (is (kind.Sign sign.Semicolon) o) _ e)

  field_ends_at : (f : Field) → continues_field f (Some (kind.Sign sign.Semicolon)) ≡ false
  field_ends_at (no_field line) = refl
  field_ends_at (field line xs t) = refl

  fields_end : (f : Field) (more : MoreFields) (spelled : List TokenKind) → continues_fields (first spelled) ≡ false → continues_field f (first (more_fields_spelling in_kinds more spelled)) ≡ false
  fields_end f no_more_fields spelled e = field_ends f (first spelled) e
  fields_end f (more_fields g more) spelled e = field_ends_at f

  abbrev AllFields : MoreFields → Type 0
  AllFields more = CompleteList more_fields_part continues_fields (items no_more_fields more_fields (behind (kind.Sign sign.Semicolon) (read_field_part lower))) more

  record_step : (line : ℕ) (f : Field) (more : MoreFields) → Complete field_part (continues_field f) (read_field_part lower) f → AllFields more → IsType (fields line f more)
  record_step line f more g h tokens spelled steps s e =
      let b = begun_of s in
      let p = taken_of b.stands in
      answers_after (omega (arith, p.shorter)) (ap (λ o. type_on lower o tokens) p.front) (then_answers (g (after tokens) _ _ p.stands (fields_end f more _ refl)) (λ u is_u mid m. then_answers (h (length mid) mid _ _ (omega arith) m refl) (λ us is_us last q. past_answers (kind.Word word.End) refl q (λ rest r. done {y = fields (first_line tokens) u us} r (cc (b.line, is_u, is_us))))))

-- ---- at every level

mutual
  pub type_complete : (t : TypeDenoter) (n : ℕ) → type_depth t ≤ n → Complete type_part continues_type (read_type n) t
  type_complete (named line x) n d = named_step (read_lower_type n) line x
  type_complete (range line low high) n d = range_step (read_lower_type n) line low high
  type_complete (pointer line x) n d = pointer_step (read_lower_type n) line x
  type_complete (array line t more elements) n d =
      array_step (read_lower_type n) line t more elements (lower_of n t (λ m h. type_complete t m h) (omega arith)) (more_types_complete more n (omega arith)) (lower_of n elements (λ m h. type_complete elements m h) (omega arith))
  type_complete (fields line f more) n d = record_step (read_lower_type n) line f more (field_complete f n (omega arith)) (more_fields_complete more n (omega arith))

  more_types_complete : (ts : MoreTypes) (n : ℕ) → more_types_depth ts ≤ n → AllTypes (read_lower_type n) ts
  more_types_complete no_more_types n d m tokens spelled steps l s e =
      none_complete _ _ _ m s (behind_none (kind.Sign sign.Comma) (read_lower_type n) tokens (ap (is (kind.Sign sign.Comma)) (front_of s) ∙ left_false _ _ e))
  more_types_complete (more_types t more) n d m tokens spelled steps l s e =
      let a = behind_complete (kind.Sign sign.Comma) (read_lower_type n) type_part continues_type t refl (lower_of n t (λ k h. type_complete t k h) (omega arith)) tokens _ _ s (types_end (read_lower_type n) more spelled e) in
      more_complete _ _ _ m l a (λ k h. more_types_complete more n (omega arith) k a.rest spelled steps h a.stands e)

  field_complete : (f : Field) (n : ℕ) → field_depth f ≤ n → Complete field_part (continues_field f) (read_field_part (read_lower_type n)) f
  field_complete (no_field line) n d = no_field_step (read_lower_type n) line
  field_complete (field line xs t) n d = field_step (read_lower_type n) line xs t (lower_of n t (λ m h. type_complete t m h) d)

  more_fields_complete : (fs : MoreFields) (n : ℕ) → more_fields_depth fs ≤ n → AllFields (read_lower_type n) fs
  more_fields_complete no_more_fields n d m tokens spelled steps l s e =
      none_complete _ _ _ m s (behind_none (kind.Sign sign.Semicolon) (read_field_part (read_lower_type n)) tokens (ap (is (kind.Sign sign.Semicolon)) (front_of s) ∙ left_false _ _ e))
  more_fields_complete (more_fields f more) n d m tokens spelled steps l s e =
      let a = behind_complete (kind.Sign sign.Semicolon) (read_field_part (read_lower_type n)) field_part (continues_field f) f refl (field_complete f n (omega arith)) tokens _ _ s (fields_end (read_lower_type n) f more spelled e) in
      more_complete _ _ _ m l a (λ k h. more_fields_complete more n (omega arith) k a.rest spelled steps h a.stands e)

-- ---- a type has at least as many tokens as levels

further_names : (xs : List Name) (rest : List TokenKind) → length rest ≤ length (further (kind.Sign sign.Comma) (name_spelling in_kinds) xs rest)
further_names [] rest = omega arith
further_names (x ∷ xs) rest = omega (arith, further_names xs rest)

pub names_length : (xs : Several Name) (rest : List TokenKind) → suc (length rest) ≤ length (names_spelling in_kinds xs rest)
names_length xs rest = omega (arith, further_names xs.more rest)

mutual
  pub type_length : (t : TypeDenoter) (rest : List TokenKind) → suc (type_depth t + length rest) ≤ length (type_spelling in_kinds t rest)
  type_length (named line x) rest = omega arith
  type_length (range line low high) rest = omega (arith, constant_length low (kind.Sign sign.Range ∷ constant_spelling in_kinds high rest), constant_length high rest)
  type_length (pointer line x) rest = omega arith
  type_length (array line t more elements) rest =
      omega (arith, type_length t (more_types_spelling in_kinds more (kind.Sign sign.CloseBracket ∷ kind.Word word.Of ∷ type_spelling in_kinds elements rest)), more_types_length more (kind.Sign sign.CloseBracket ∷ kind.Word word.Of ∷ type_spelling in_kinds elements rest), type_length elements rest)
  type_length (fields line f more) rest = omega (arith, field_length f (more_fields_spelling in_kinds more (kind.Word word.End ∷ rest)), more_fields_length more (kind.Word word.End ∷ rest))

  more_types_length : (ts : MoreTypes) (rest : List TokenKind) → more_types_depth ts + length rest ≤ length (more_types_spelling in_kinds ts rest)
  more_types_length no_more_types rest = omega arith
  more_types_length (more_types t more) rest = omega (arith, type_length t (more_types_spelling in_kinds more rest), more_types_length more rest)

  field_length : (f : Field) (rest : List TokenKind) → field_depth f + length rest ≤ length (field_spelling in_kinds f rest)
  field_length (no_field line) rest = omega arith
  field_length (field line xs t) rest = omega (arith, names_length xs (kind.Sign sign.Colon ∷ type_spelling in_kinds t rest), type_length t rest)

  more_fields_length : (fs : MoreFields) (rest : List TokenKind) → more_fields_depth fs + length rest ≤ length (more_fields_spelling in_kinds fs rest)
  more_fields_length no_more_fields rest = omega arith
  more_fields_length (more_fields f more) rest = omega (arith, field_length f (more_fields_spelling in_kinds more rest), more_fields_length more rest)
