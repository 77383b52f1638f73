-- What the walk over operators answers is good, where the forms that it is given keep what is claimed of their parts.
use Rattle.std.proofs.Common.{◌≡◌, ℕ, Bool, true, false, cond, refl, sym, ap, ◌∙◌, subst}
use Rattle.std.proofs.lemmas.Bool.{false≢true}
use Rattle.spv_logic.specs.Shapes.{is_pointer}
use Rattle.std.specs.Prelude.{List, [], ◌∷◌, ℤ, pos, Option, Some, None, Ok, Err}
use Rattle.spv_logic.specs.declared.types.TypeId.{TypeId}
use Rattle.spv_logic.specs.declared.types.Sort.{Sort}
use Rattle.spv_logic.specs.declared.types.Sort.TheVariants as sort
use Rattle.spv_logic.specs.Terms.{sort_eq}
use Rattle.spv_logic.proofs.Equality.{sort_eq-true}
use Rattle.spv_tree.specs.declared.syntax.names.Name.{Name}
use Rattle.spv_tree.specs.declared.syntax.operators.PlusOrMinus.{PlusOrMinus}
use Rattle.spv_tree.specs.declared.syntax.operators.PlusOrMinus.TheVariants as prefix
use Rattle.spv_tree.specs.declared.syntax.operators.Comparison.{Comparison as ComparisonSign}
use Rattle.spv_tree.specs.declared.syntax.operators.Comparison.TheVariants as comparison_sign
use Rattle.spv_tree.specs.declared.syntax.operators.Adding.{Adding}
use Rattle.spv_tree.specs.declared.syntax.operators.Adding.TheVariants as adding
use Rattle.spv_tree.specs.declared.syntax.operators.Multiplying.{Multiplying}
use Rattle.spv_tree.specs.declared.syntax.operators.Multiplying.TheVariants as multiplying
use Rattle.spv_tree.specs.syntax.Formulas.{Formula, Relation, Simple, MoreTerms, Term, MoreFactors, Factor, MoreFormulas, Designator, Selectors, Selector, formula, no_conclusion, implies, relation, no_right_side, compared, simple, no_more_terms, more_terms, term, no_more_factors, more_factors, number, truth, nil, class, place, application, bracketed, negation, no_more_formulas, more_formulas, designator, no_selectors, selectors, index, field, content}
use Rattle.spv_program.specs.declared.operators.Arithmetic.{Arithmetic}
use Rattle.spv_program.specs.declared.operators.Arithmetic.TheVariants as arithmetic
use Rattle.spv_program.specs.declared.operators.Comparison.{Comparison}
use Rattle.spv_program.specs.declared.operators.Comparison.TheVariants as comparison
use Rattle.spv_program.specs.declared.operators.Connective.{Connective}
use Rattle.spv_program.specs.declared.operators.Connective.TheVariants as connective
use Rattle.spv_typing.specs.declared.faults.TypeFault.{TypeFault}
use Rattle.spv_typing.specs.Outcomes.{Outcome, after, wrong}
use Rattle.spv_typing.specs.TypeWalk.{negative}
use Rattle.spv_typing.specs.OperatorWalk.{Operand, Of, NilAt, Argument, Forms, settled, two_of, numbers, truths, product, total, with_sign, opposite, alike, ordered, related, conclusion, argument, formula_walk, relation_walk, simple_walk, more_terms_walk, term_walk, more_factors_walk, factor_walk, designator_walk, selectors_walk, selector_walk, arguments, written_place, relation_place, simple_place, term_place, factor_place}
use Rattle.spv_program.proofs.SortFacts.{nothing_there, some_is}
use Rattle.spv_type_soundness.proofs.well_typed.Outcomes.{fine, no_fault, same_value, went, held, behind_test}

-- what became of a form is good, with its sort, and is not NIL alone
pub record Fine {X : Type 0} (Good : X → Sort → Type 0) (Bare : X → Type 0) (x : X) (s : Sort) : Type 0 where
  pub good : Good x s
  pub bare : Bare x

pub data GoodOperand {X : Type 0} (Good : X → Sort → Type 0) (Bare : X → Type 0) : Operand X → Type 0 where
  of : (x : X) (s : Sort) → Fine Good Bare x s → GoodOperand Good Bare (Of x s)
  nil_at : (line : ℕ) → GoodOperand Good Bare (NilAt line)

pub record GoodArgument {X S : Type 0} (Good : X → Sort → Type 0) (Bare : X → Type 0) (Written : S → Type 0) (a : Argument X S) : Type 0
  where
    pub operand : (o : Operand X) → a.operand ≡ Ok o → GoodOperand Good Bare o
    pub place : (s : S) → a.place ≡ Some (Ok s) → Written s

pub data GoodArguments {X S : Type 0} (Good : X → Sort → Type 0) (Bare : X → Type 0) (Written : S → Type 0) : List (Argument X S)
    → Type 0 where
  no_more : GoodArguments Good Bare Written []
  one_more : (a : Argument X S) (others : List (Argument X S)) → GoodArgument Good Bare Written a → GoodArguments Good Bare Written others
      → GoodArguments Good Bare Written (a ∷ others)

-- what selectors keep
pub record Selects {X S : Type 0} (k : Forms X S) (Good : X → Sort → Type 0) (Bare : X → Type 0) (Written : S → Type 0)
    (Reached : S → Type 0) : Type 0 where
  pub indexed : (line : ℕ) (s t : S) (given : List (Argument X S)) → Reached s → GoodArguments Good Bare Written given
      → k.indexed line s given ≡ Ok t → Reached t
  pub field_of : (line : ℕ) (s t : S) (x : Name) → Reached s → k.field_of line s x ≡ Ok t → Reached t
  pub content_of : (line at : ℕ) (s t : S) → Reached s → k.content_of line at s ≡ Ok t → Reached t

-- what forms have to keep
pub record Keeps {X S : Type 0} (k : Forms X S) (Good : X → Sort → Type 0) (Bare : X → Type 0) (Read Written : S → Type 0) : Type 0 where
  pub numeral : (z : ℤ) → Fine Good Bare (k.numeral z) sort.Int
  pub boolean : (b : Bool) → Fine Good Bare (k.boolean b) sort.Bool
  pub nil_of : (t : TypeId) (y : X) → Good y (sort.Ptr t) → Good (k.nil_of t) (sort.Ptr t)
  pub negative_of : (x : X) → Good x sort.Int → Fine Good Bare (k.negative_of x) sort.Int
  pub calculated : (o : Arithmetic) (x y : X) → Good x sort.Int → Good y sort.Int → Fine Good Bare (k.calculated o x y) sort.Int
  pub equal_left : (x y : X) (s : Sort) → k.comparable s ≡ true → Fine Good Bare x s → Good y s
      → Fine Good Bare (k.compares comparison.Equal x y) sort.Bool
  pub equal_right : (x y : X) (s : Sort) → k.comparable s ≡ true → Good x s → Fine Good Bare y s
      → Fine Good Bare (k.compares comparison.Equal x y) sort.Bool
  pub unequal_left : (x y : X) (s : Sort) → k.comparable s ≡ true → Fine Good Bare x s → Good y s
      → Fine Good Bare (k.compares comparison.NotEqual x y) sort.Bool
  pub unequal_right : (x y : X) (s : Sort) → k.comparable s ≡ true → Good x s → Fine Good Bare y s
      → Fine Good Bare (k.compares comparison.NotEqual x y) sort.Bool
  pub less : (x y : X) → Good x sort.Int → Good y sort.Int → Fine Good Bare (k.compares comparison.Less x y) sort.Bool
  pub at_most : (x y : X) → Good x sort.Int → Good y sort.Int → Fine Good Bare (k.compares comparison.AtMost x y) sort.Bool
  pub greater : (x y : X) → Good x sort.Int → Good y sort.Int → Fine Good Bare (k.compares comparison.Greater x y) sort.Bool
  pub at_least : (x y : X) → Good x sort.Int → Good y sort.Int → Fine Good Bare (k.compares comparison.AtLeast x y) sort.Bool
  pub negated : (x : X) → Good x sort.Bool → Fine Good Bare (k.negated x) sort.Bool
  pub joined : (o : Connective) (x y : X) → Good x sort.Bool → Good y sort.Bool → Fine Good Bare (k.joined o x y) sort.Bool
  pub implied : (x y : X) → k.may_imply ≡ true → Good x sort.Bool → Good y sort.Bool → Fine Good Bare (k.implied x y) sort.Bool
  pub class_of : (line : ℕ) (x : Name) (o : Operand X) → k.class_of line x ≡ Ok o → GoodOperand Good Bare o
  pub begin : (line : ℕ) (x : Name) (s : S) → k.begin line x ≡ Ok s → Read s
  pub begin_written : (line : ℕ) (x : Name) (s : S) → k.begin_written line x ≡ Ok s → Written s
  pub apply : (line : ℕ) (x : Name) (s : S) (given : List (Argument X S)) → GoodArguments Good Bare Written given
      → k.apply line x given ≡ Ok s → Read s
  pub reads : Selects k Good Bare Written Read
  pub writes : Selects k Good Bare Written Written
  pub finish : (s : S) → Read s → GoodOperand Good Bare (k.finish s)

-- an operand that was settled to a sort; NIL is good where it is of that sort
pub settled_at : {X : Type 0} (Good : X → Sort → Type 0) (Bare : X → Type 0) (nil_of : TypeId → X) (fault : TypeFault) (s : Sort)
    → ((t : TypeId) → s ≡ sort.Ptr t → Good (nil_of t) (sort.Ptr t)) → (o : Operand X) (x : X) → GoodOperand Good Bare o
    → settled nil_of fault s o ≡ Ok x → Good x s
settled_at {X} Good Bare nil_of fault s nil_is (Of y u) x (of z v h) e = by_case (sort_eq u s) refl e
  where
    by_case : (b : Bool) → sort_eq u s ≡ b → cond b (fine y) (Err fault) ≡ Ok x → Good x s
    by_case true same f = subst (λ z. Good z s) (same_value f) (subst (λ r. Good y r) (sort_eq-true u s same) h.good)
    by_case false same f = absurd (no_fault f)
settled_at {X} Good Bare nil_of fault (sort.Ptr t) nil_is (NilAt line) x h e =
    subst (λ z. Good z (sort.Ptr t)) (same_value e) (nil_is t refl)
settled_at {X} Good Bare nil_of fault sort.Int nil_is (NilAt line) x h e = absurd (no_fault e)
settled_at {X} Good Bare nil_of fault sort.Bool nil_is (NilAt line) x h e = absurd (no_fault e)
settled_at {X} Good Bare nil_of fault sort.List nil_is (NilAt line) x h e = absurd (no_fault e)
settled_at {X} Good Bare nil_of fault (sort.Whole t) nil_is (NilAt line) x h e = absurd (no_fault e)
settled_at {X} Good Bare nil_of fault (sort.Class t) nil_is (NilAt line) x h e = absurd (no_fault e)

module _ {X S : Type 0} (k : Forms X S) (Good : X → Sort → Type 0) (Bare : X → Type 0) (Read Written : S → Type 0)
    (keeps : Keeps k Good Bare Read Written) where
  no_pointer : (s : Sort) → is_pointer s ≡ false → (t : TypeId) → s ≡ sort.Ptr t → Good (k.nil_of t) (sort.Ptr t)
  no_pointer s plain t e = absurd (false≢true (sym plain ∙ ap is_pointer e))

  -- what two operands of one sort become
  pub record Both (s : Sort) (result : X → X → Operand X) (o : Operand X) : Type 0 where
    pub left : X
    pub right : X
    pub left_good : Good left s
    pub right_good : Good right s
    pub is : result left right ≡ o

  both_of : (line : ℕ) (s : Sort) → is_pointer s ≡ false → (a b o : Operand X) (result : X → X → Operand X) → GoodOperand Good Bare a
      → GoodOperand Good Bare b → two_of k line s a b result ≡ Ok o → Both s result o
  both_of line s plain a b o result g h e =
      let one = went (settled k.nil_of (wrong line) s a) (λ x. after (settled k.nil_of (wrong line) s b) (λ y. Ok (result x y))) o e in
      let two = went (settled k.nil_of (wrong line) s b) (λ y. Ok (result one.value y)) o one.rest in
      record {
        left = one.value;
        right = two.value;
        left_good = settled_at Good Bare k.nil_of (wrong line) s (no_pointer s plain) a one.value g one.first;
        right_good = settled_at Good Bare k.nil_of (wrong line) s (no_pointer s plain) b two.value h two.first;
        is = same_value two.rest;
      }

  become : (x : X) (s : Sort) (o : Operand X) → Of x s ≡ o → Fine Good Bare x s → GoodOperand Good Bare o
  become x s o e h = subst (GoodOperand Good Bare) e (of x s h)

  numbers_good : (line : ℕ) (o : Arithmetic) (a b c : Operand X) → GoodOperand Good Bare a → GoodOperand Good Bare b
      → numbers k line o a b ≡ Ok c → GoodOperand Good Bare c
  numbers_good line o a b c g h e =
      let two = both_of line sort.Int refl a b c (λ x y. Of (k.calculated o x y) sort.Int) g h e in
      become (k.calculated o two.left two.right) sort.Int c two.is (keeps.calculated o two.left two.right two.left_good two.right_good)

  truths_good : (line : ℕ) (o : Connective) (a b c : Operand X) → GoodOperand Good Bare a → GoodOperand Good Bare b
      → truths k line o a b ≡ Ok c → GoodOperand Good Bare c
  truths_good line o a b c g h e =
      let two = both_of line sort.Bool refl a b c (λ x y. Of (k.joined o x y) sort.Bool) g h e in
      become (k.joined o two.left two.right) sort.Bool c two.is (keeps.joined o two.left two.right two.left_good two.right_good)

  product_good : (line : ℕ) (o : Multiplying) (a b c : Operand X) → GoodOperand Good Bare a → GoodOperand Good Bare b
      → product k line o a b ≡ Ok c → GoodOperand Good Bare c
  product_good line multiplying.Times = numbers_good line arithmetic.Times
  product_good line multiplying.Div = numbers_good line arithmetic.Div
  product_good line multiplying.Mod = numbers_good line arithmetic.Mod
  product_good line multiplying.And = truths_good line connective.And

  total_good : (line : ℕ) (o : Adding) (a b c : Operand X) → GoodOperand Good Bare a → GoodOperand Good Bare b → total k line o a b ≡ Ok c
      → GoodOperand Good Bare c
  total_good line adding.Plus = numbers_good line arithmetic.Plus
  total_good line adding.Minus = numbers_good line arithmetic.Minus
  total_good line adding.Or = truths_good line connective.Or

  -- one operand of a sort that no pointer has
  one_of : (line : ℕ) (s : Sort) → is_pointer s ≡ false → (a : Operand X) (o : Operand X) (result : X → Operand X)
      → GoodOperand Good Bare a → after (settled k.nil_of (wrong line) s a) (λ x. Ok (result x)) ≡ Ok o
      → ((x : X) → Good x s → GoodOperand Good Bare (result x)) → GoodOperand Good Bare o
  one_of line s plain a o result g e f =
      let one = went (settled k.nil_of (wrong line) s a) (λ x. Ok (result x)) o e in
      subst (GoodOperand Good Bare) (same_value one.rest)
      (f one.value (settled_at Good Bare k.nil_of (wrong line) s (no_pointer s plain) a one.value g one.first))

  opposite_good : (line : ℕ) (a c : Operand X) → GoodOperand Good Bare a → opposite k line a ≡ Ok c → GoodOperand Good Bare c
  opposite_good line a c g e =
      one_of line sort.Bool refl a c (λ x. Of (k.negated x) sort.Bool) g e (λ x h. of (k.negated x) sort.Bool (keeps.negated x h))

  ordered_good : (line : ℕ) (o : Comparison)
      → ((x y : X) → Good x sort.Int → Good y sort.Int → Fine Good Bare (k.compares o x y) sort.Bool) → (a b c : Operand X)
      → GoodOperand Good Bare a → GoodOperand Good Bare b → ordered k line o a b ≡ Ok c → GoodOperand Good Bare c
  ordered_good line o keep a b c g h e =
      let two = both_of line sort.Int refl a b c (λ x y. Of (k.compares o x y) sort.Bool) g h e in
      become (k.compares o two.left two.right) sort.Bool c two.is (keep two.left two.right two.left_good two.right_good)

  conclusion_good : (line : ℕ) (a b c : Operand X) → GoodOperand Good Bare a → GoodOperand Good Bare b → conclusion k line a b ≡ Ok c
      → GoodOperand Good Bare c
  conclusion_good line a b c g h e =
      let next = two_of k line sort.Bool a b (λ x y. Of (k.implied x y) sort.Bool) in
      let two = both_of line sort.Bool refl a b c (λ x y. Of (k.implied x y) sort.Bool) g h
      (behind_test k.may_imply (wrong line) next c e) in
      become (k.implied two.left two.right) sort.Bool c two.is
      (keeps.implied two.left two.right (held k.may_imply (wrong line) next c e) two.left_good two.right_good)

  -- two operands of one sort, one of which may be NIL
  alike_good : (line : ℕ) (o : Comparison)
      → ((x y : X) (s : Sort) → k.comparable s ≡ true → Fine Good Bare x s → Good y s → Fine Good Bare (k.compares o x y) sort.Bool)
      → ((x y : X) (s : Sort) → k.comparable s ≡ true → Good x s → Fine Good Bare y s → Fine Good Bare (k.compares o x y) sort.Bool)
      → (a b c : Operand X) → GoodOperand Good Bare a → GoodOperand Good Bare b → alike k line o a b ≡ Ok c → GoodOperand Good Bare c
  alike_good line o left right (Of x s) b c (of y u h) g e =
      let next = after (settled k.nil_of (wrong line) s b) (λ z. fine (Of (k.compares o x z) sort.Bool)) in
      let one = went (settled k.nil_of (wrong line) s b) (λ z. fine (Of (k.compares o x z) sort.Bool)) c
      (behind_test (k.comparable s) (wrong line) next c e) in
      let other = settled_at Good Bare k.nil_of (wrong line) s (λ t q. keeps.nil_of t x (subst (Good x) q h.good)) b one.value g
      one.first in
      become (k.compares o x one.value) sort.Bool c (same_value one.rest)
      (left x one.value s (held (k.comparable s) (wrong line) next c e) h other)
  alike_good line o left right (NilAt at) (Of y s) c g (of z u h) e =
      let next = after (settled k.nil_of (wrong line) s (NilAt at)) (λ x. fine (Of (k.compares o x y) sort.Bool)) in
      let one = went (settled k.nil_of (wrong line) s (NilAt at)) (λ x. fine (Of (k.compares o x y) sort.Bool)) c
      (behind_test (k.comparable s) (wrong line) next c e) in
      let other = settled_at Good Bare k.nil_of (wrong line) s (λ t q. keeps.nil_of t y (subst (Good y) q h.good)) (NilAt at) one.value
      (nil_at at) one.first in
      become (k.compares o one.value y) sort.Bool c (same_value one.rest)
      (right one.value y s (held (k.comparable s) (wrong line) next c e) other h)
  alike_good line o left right (NilAt at) (NilAt on) c g h e = absurd (no_fault e)

  related_good : (line : ℕ) (o : ComparisonSign) (a b c : Operand X) → GoodOperand Good Bare a → GoodOperand Good Bare b
      → related k line o a b ≡ Ok c → GoodOperand Good Bare c
  related_good line comparison_sign.Equal = alike_good line comparison.Equal keeps.equal_left keeps.equal_right
  related_good line comparison_sign.NotEqual = alike_good line comparison.NotEqual keeps.unequal_left keeps.unequal_right
  related_good line comparison_sign.Less = ordered_good line comparison.Less keeps.less
  related_good line comparison_sign.AtMost = ordered_good line comparison.AtMost keeps.at_most
  related_good line comparison_sign.Greater = ordered_good line comparison.Greater keeps.greater
  related_good line comparison_sign.AtLeast = ordered_good line comparison.AtLeast keeps.at_least

  minus_good : (line : ℕ) (a c : Operand X) → GoodOperand Good Bare a
      → after (settled k.nil_of (wrong line) sort.Int a) (λ x. fine (Of (k.negative_of x) sort.Int)) ≡ Ok c → GoodOperand Good Bare c
  minus_good line a c g e =
      one_of line sort.Int refl a c (λ x. Of (k.negative_of x) sort.Int) g e (λ x h. of (k.negative_of x) sort.Int (keeps.negative_of x h))

  -- a number that stays as it is; it was no NIL, since NIL is no number
  kept_number : (line : ℕ) (a c : Operand X) → GoodOperand Good Bare a
      → after (settled k.nil_of (wrong line) sort.Int a) (λ x. fine (Of x sort.Int)) ≡ Ok c → GoodOperand Good Bare c
  kept_number line (Of x s) c (of y u h) e = by_case (sort_eq s sort.Int) refl e
    where
      by_case : (b : Bool) → sort_eq s sort.Int ≡ b → after (cond b (fine x) (Err (wrong line))) (λ y. fine (Of y sort.Int)) ≡ Ok c
          → GoodOperand Good Bare c
      by_case true same f = become x sort.Int c (same_value f) (subst (λ r. Fine Good Bare x r) (sort_eq-true s sort.Int same) h)
      by_case false same f = absurd (no_fault f)
  kept_number line (NilAt at) c g e = absurd (no_fault e)

  signed_good : (line : ℕ) (sign : Option PlusOrMinus) (t : Term) (a c : Operand X) → GoodOperand Good Bare a
      → with_sign k line sign t a ≡ Ok c → GoodOperand Good Bare c
  signed_good line None t a c g e = subst (GoodOperand Good Bare) (same_value e) g
  signed_good line (Some prefix.Plus) t a c g e = kept_number line a c g e
  signed_good line (Some prefix.Minus) (term at (number on n) no_more_factors) a c g e =
      become (k.numeral (negative (pos n))) sort.Int c (same_value e) (keeps.numeral (negative (pos n)))
  signed_good line (Some prefix.Minus) (term at (number on n) (more_factors o f more)) a c g e = minus_good line a c g e
  signed_good line (Some prefix.Minus) (term at (truth on b) more) a c g e = minus_good line a c g e
  signed_good line (Some prefix.Minus) (term at (nil on) more) a c g e = minus_good line a c g e
  signed_good line (Some prefix.Minus) (term at (class on x) more) a c g e = minus_good line a c g e
  signed_good line (Some prefix.Minus) (term at (place on d) more) a c g e = minus_good line a c g e
  signed_good line (Some prefix.Minus) (term at (application on x f fs ss) more) a c g e = minus_good line a c g e
  signed_good line (Some prefix.Minus) (term at (bracketed on f) more) a c g e = minus_good line a c g e
  signed_good line (Some prefix.Minus) (term at (negation on f) more) a c g e = minus_good line a c g e

  -- ---- the walk

  -- what names with selectors have come to, of those that are written or of those that are read
  abbrev reached : Bool → S → Type 0
  reached true = Written
  reached false = Read

  selects : (written : Bool) → Selects k Good Bare Written (reached written)
  selects true = keeps.writes
  selects false = keeps.reads

  pub argument_good : (f : Formula) → ((o : Operand X) → formula_walk k f ≡ Ok o → GoodOperand Good Bare o)
      → ((s : S) → written_place k f ≡ Some (Ok s) → Written s)
      → GoodArgument Good Bare Written (argument f (formula_walk k f) (written_place k f))
  argument_good f good placed = record { operand = good; place = placed }

  mutual
    pub formula_good : (f : Formula) (o : Operand X) → formula_walk k f ≡ Ok o → GoodOperand Good Bare o
    formula_good (formula line r no_conclusion) o e = relation_good r o e
    formula_good (formula line r (implies f)) o e =
        let one = went (relation_walk k r) (λ a. after (formula_walk k f) (λ b. conclusion k line a b)) o e in
        let two = went (formula_walk k f) (λ b. conclusion k line one.value b) o one.rest in
        conclusion_good line one.value two.value o (relation_good r one.value one.first) (formula_good f two.value two.first) two.rest

    relation_good : (r : Relation) (o : Operand X) → relation_walk k r ≡ Ok o → GoodOperand Good Bare o
    relation_good (relation line s no_right_side) o e = simple_good s o e
    relation_good (relation line s (compared c t)) o e =
        let one = went (simple_walk k s) (λ a. after (simple_walk k t) (λ b. related k line c a b)) o e in
        let two = went (simple_walk k t) (λ b. related k line c one.value b) o one.rest in
        related_good line c one.value two.value o (simple_good s one.value one.first) (simple_good t two.value two.first) two.rest

    simple_good : (s : Simple) (o : Operand X) → simple_walk k s ≡ Ok o → GoodOperand Good Bare o
    simple_good (simple line sign t more) o e =
        let one = went (term_walk k t) (λ a. after (with_sign k line sign t a) (λ b. more_terms_walk k line b more)) o e in
        let two = went (with_sign k line sign t one.value) (λ b. more_terms_walk k line b more) o one.rest in
        more_terms_good line two.value more o (signed_good line sign t one.value two.value (term_good t one.value one.first) two.first)
        two.rest

    more_terms_good : (line : ℕ) (a : Operand X) (more : MoreTerms) (o : Operand X) → GoodOperand Good Bare a
        → more_terms_walk k line a more ≡ Ok o → GoodOperand Good Bare o
    more_terms_good line a no_more_terms o g e = subst (GoodOperand Good Bare) (same_value e) g
    more_terms_good line a (more_terms sign t more) o g e =
        let one = went (term_walk k t) (λ b. after (total k line sign a b) (λ c. more_terms_walk k line c more)) o e in
        let two = went (total k line sign a one.value) (λ c. more_terms_walk k line c more) o one.rest in
        more_terms_good line two.value more o (total_good line sign a one.value two.value g (term_good t one.value one.first) two.first)
        two.rest

    term_good : (t : Term) (o : Operand X) → term_walk k t ≡ Ok o → GoodOperand Good Bare o
    term_good (term line f more) o e =
        let one = went (factor_walk k f) (λ a. more_factors_walk k line a more) o e in
        more_factors_good line one.value more o (factor_good f one.value one.first) one.rest

    more_factors_good : (line : ℕ) (a : Operand X) (more : MoreFactors) (o : Operand X) → GoodOperand Good Bare a
        → more_factors_walk k line a more ≡ Ok o → GoodOperand Good Bare o
    more_factors_good line a no_more_factors o g e = subst (GoodOperand Good Bare) (same_value e) g
    more_factors_good line a (more_factors sign f more) o g e =
        let one = went (factor_walk k f) (λ b. after (product k line sign a b) (λ c. more_factors_walk k line c more)) o e in
        let two = went (product k line sign a one.value) (λ c. more_factors_walk k line c more) o one.rest in
        more_factors_good line two.value more o
        (product_good line sign a one.value two.value g (factor_good f one.value one.first) two.first) two.rest

    factor_good : (f : Factor) (o : Operand X) → factor_walk k f ≡ Ok o → GoodOperand Good Bare o
    factor_good (number line n) o e = become (k.numeral (pos n)) sort.Int o (same_value e) (keeps.numeral (pos n))
    factor_good (truth line b) o e = become (k.boolean b) sort.Bool o (same_value e) (keeps.boolean b)
    factor_good (nil line) o e = subst (GoodOperand Good Bare) (same_value e) (nil_at line)
    factor_good (class line x) o e = keeps.class_of line x o e
    factor_good (place line d) o e =
        let one = went (designator_walk k k.begin d) (λ s. fine (k.finish s)) o e in
        subst (GoodOperand Good Bare) (same_value one.rest)
        (keeps.finish one.value (designator_good false k.begin keeps.begin d one.value one.first))
    factor_good (application line x f more behind) o e =
        let given = argument f (formula_walk k f) (written_place k f) ∷ arguments k more in
        let one = went (k.apply line x given) (λ s. after (selectors_walk k line s behind) (λ t. fine (k.finish t))) o e in
        let two = went (selectors_walk k line one.value behind) (λ t. fine (k.finish t)) o one.rest in
        let all = one_more (argument f (formula_walk k f) (written_place k f)) (arguments k more)
        (argument_good f (formula_good f) (place_good f)) (arguments_good more) in
        subst (GoodOperand Good Bare) (same_value two.rest) (keeps.finish two.value
        (selectors_good false line one.value behind two.value (keeps.apply line x one.value given all one.first) two.first))
    factor_good (bracketed line f) o e = formula_good f o e
    factor_good (negation line f) o e =
        let one = went (factor_walk k f) (λ a. opposite k line a) o e in
        opposite_good line one.value o (factor_good f one.value one.first) one.rest

    pub designator_good : (written : Bool) (start : ℕ → Name → Outcome S)
        → ((line : ℕ) (x : Name) (s : S) → start line x ≡ Ok s → reached written s) → (d : Designator) (s : S)
        → designator_walk k start d ≡ Ok s → reached written s
    designator_good written start first (designator line x behind) s e =
        let one = went (start line x) (λ s. selectors_walk k line s behind) s e in
        selectors_good written line one.value behind s (first line x one.value one.first) one.rest

    selectors_good : (written : Bool) (line : ℕ) (s : S) (ss : Selectors) (t : S) → reached written s → selectors_walk k line s ss ≡ Ok t
        → reached written t
    selectors_good written line s no_selectors t g e = subst (reached written) (same_value e) g
    selectors_good written line s (selectors one ss) t g e =
        let step = went (selector_walk k line s one) (λ next. selectors_walk k line next ss) t e in
        selectors_good written line step.value ss t (selector_good written line s one step.value g step.first) step.rest

    selector_good : (written : Bool) (line : ℕ) (s : S) (one : Selector) (t : S) → reached written s → selector_walk k line s one ≡ Ok t
        → reached written t
    selector_good written line s (index at f fs) t g e =
        (selects written).indexed line s t (argument f (formula_walk k f) (written_place k f) ∷ arguments k fs) g
        (one_more (argument f (formula_walk k f) (written_place k f)) (arguments k fs) (argument_good f (formula_good f) (place_good f))
        (arguments_good fs)) e
    selector_good written line s (field at x) t g e = (selects written).field_of line s t x g e
    selector_good written line s (content at) t g e = (selects written).content_of line at s t g e

    arguments_good : (fs : MoreFormulas) → GoodArguments Good Bare Written (arguments k fs)
    arguments_good no_more_formulas = no_more
    arguments_good (more_formulas f fs) =
        one_more (argument f (formula_walk k f) (written_place k f)) (arguments k fs) (argument_good f (formula_good f) (place_good f))
        (arguments_good fs)

    pub place_good : (f : Formula) (s : S) → written_place k f ≡ Some (Ok s) → Written s
    place_good (formula line r no_conclusion) s e = relation_place_good r s e
    place_good (formula line r (implies f)) s e = absurd (nothing_there e)

    relation_place_good : (r : Relation) (s : S) → relation_place k r ≡ Some (Ok s) → Written s
    relation_place_good (relation line a no_right_side) s e = simple_place_good a s e
    relation_place_good (relation line a (compared o b)) s e = absurd (nothing_there e)

    simple_place_good : (a : Simple) (s : S) → simple_place k a ≡ Some (Ok s) → Written s
    simple_place_good (simple line None t no_more_terms) s e = term_place_good t s e
    simple_place_good (simple line None t (more_terms o u more)) s e = absurd (nothing_there e)
    simple_place_good (simple line (Some sign) t more) s e = absurd (nothing_there e)

    term_place_good : (t : Term) (s : S) → term_place k t ≡ Some (Ok s) → Written s
    term_place_good (term line f no_more_factors) s e = factor_place_good f s e
    term_place_good (term line f (more_factors o g more)) s e = absurd (nothing_there e)

    factor_place_good : (f : Factor) (s : S) → factor_place k f ≡ Some (Ok s) → Written s
    factor_place_good (place line d) s e = designator_good true k.begin_written keeps.begin_written d s (some_is e)
    factor_place_good (number line n) s e = absurd (nothing_there e)
    factor_place_good (truth line b) s e = absurd (nothing_there e)
    factor_place_good (nil line) s e = absurd (nothing_there e)
    factor_place_good (class line x) s e = absurd (nothing_there e)
    factor_place_good (application line x f more behind) s e = absurd (nothing_there e)
    factor_place_good (bracketed line f) s e = absurd (nothing_there e)
    factor_place_good (negation line f) s e = absurd (nothing_there e)
