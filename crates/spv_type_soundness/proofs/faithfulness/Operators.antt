-- What the walk over operators answers comes from its tree, where what it is given does so.
use Rattle.std.proofs.Common.{◌≡◌, ℕ, Bool, true, false, cond, refl, sym, ap, ◌∙◌, subst}
use Rattle.std.proofs.lemmas.Bool.{false≢true}
use Rattle.std.specs.Prelude.{List, [], ◌∷◌, pos, Option, Some, None, Ok, Err}
use Rattle.spv_logic.specs.Shapes.{is_pointer}
use Rattle.spv_logic.specs.declared.types.TypeId.{TypeId}
use Rattle.spv_logic.specs.declared.types.Sort.{Sort}
use Rattle.spv_logic.specs.declared.types.Sort.TheVariants as sort
use Rattle.spv_logic.specs.Terms.{sort_eq}
use Rattle.spv_logic.proofs.Equality.{sort_eq-true}
use Rattle.spv_tree.specs.declared.syntax.names.Name.{Name}
use Rattle.spv_tree.specs.declared.syntax.operators.PlusOrMinus.{PlusOrMinus}
use Rattle.spv_tree.specs.declared.syntax.operators.PlusOrMinus.TheVariants as prefix
use Rattle.spv_tree.specs.declared.syntax.operators.Comparison.{Comparison as ComparisonSign}
use Rattle.spv_tree.specs.declared.syntax.operators.Comparison.TheVariants as comparison_sign
use Rattle.spv_tree.specs.declared.syntax.operators.Adding.{Adding}
use Rattle.spv_tree.specs.declared.syntax.operators.Adding.TheVariants as adding
use Rattle.spv_tree.specs.declared.syntax.operators.Multiplying.{Multiplying}
use Rattle.spv_tree.specs.declared.syntax.operators.Multiplying.TheVariants as multiplying
use Rattle.spv_tree.specs.syntax.Formulas.{Formula, Relation, Simple, MoreTerms, Term, MoreFactors, Factor, MoreFormulas, Designator, Selectors, Selector, formula, no_conclusion, implies, relation, no_right_side, compared, simple, no_more_terms, more_terms, term, no_more_factors, more_factors, number, truth, nil, class, place, application, bracketed, negation, no_more_formulas, more_formulas, designator, no_selectors, selectors, index, field, content}
use Rattle.spv_program.specs.declared.operators.Arithmetic.TheVariants as arithmetic
use Rattle.spv_program.specs.declared.operators.Comparison.{Comparison}
use Rattle.spv_program.specs.declared.operators.Comparison.TheVariants as comparison
use Rattle.spv_program.specs.declared.operators.Connective.TheVariants as connective
use Rattle.spv_program.proofs.SortFacts.{nothing_there, some_is}
use Rattle.spv_typing.specs.declared.faults.TypeFault.{TypeFault}
use Rattle.spv_typing.specs.Outcomes.{after, wrong}
use Rattle.spv_typing.specs.TypeWalk.{negative}
use Rattle.spv_typing.specs.OperatorWalk.{Operand, Of, NilAt, Argument, Forms, settled, two_of, numbers, truths, product, total, with_sign, opposite, alike, ordered, related, conclusion, argument, bare, designator_alone, formula_walk, relation_walk, simple_walk, more_terms_walk, term_walk, more_factors_walk, factor_walk, designator_walk, selectors_walk, selector_walk, arguments, written_place, relation_place, simple_place, term_place, factor_place}
use Rattle.spv_type_soundness.proofs.well_typed.Outcomes.{fine, no_fault, same_value, went, held, behind_test}
use Rattle.spv_type_soundness.specs.faithfulness.Operators.{comparison_of, is_numeral, designator_of, relation_designator, simple_designator, term_designator, factor_designator, Given, FieldName, Operators, sum_of, product_of}
use Rattle.spv_type_soundness.specs.faithfulness.Operators as origin

-- what an operand has become comes from a tree; NIL does so as that of any type
pub data IsFrom {X : Type 0} (nil_of : TypeId → X) (P : X → Type 0) : Operand X → Type 0 where
  of : (x : X) (s : Sort) → P x → IsFrom nil_of P (Of x s)
  nil_at : (line : ℕ) → ((t : TypeId) → P (nil_of t)) → IsFrom nil_of P (NilAt line)

pub from_of : {X : Type 0} {nil_of : TypeId → X} {P : X → Type 0} {x : X} {s : Sort} → IsFrom nil_of P (Of x s) → P x
from_of (of x s h) = h

pub from_map : {X : Type 0} {nil_of : TypeId → X} {P Q : X → Type 0} → (o : Operand X) → ((x : X) → P x → Q x) → IsFrom nil_of P o
    → IsFrom nil_of Q o
from_map {X} {nil_of} o f (of x s h) = of x s (f x h)
from_map {X} {nil_of} o f (nil_at line h) = nil_at line (λ t. f (nil_of t) (h t))

-- an operand that was settled to a sort
pub settled_from : {X : Type 0} (nil_of : TypeId → X) (P : X → Type 0) (fault : TypeFault) (s : Sort) (o : Operand X) (x : X)
    → IsFrom nil_of P o → settled nil_of fault s o ≡ Ok x → P x
settled_from {X} nil_of P fault s (Of y u) x (of z v h) e = by_case (sort_eq u s) e
  where
    by_case : (b : Bool) → cond b (fine y) (Err fault) ≡ Ok x → P x
    by_case true f = subst P (same_value f) h
    by_case false f = absurd (no_fault f)
settled_from nil_of P fault (sort.Ptr t) (NilAt line) x (nil_at at h) e = subst P (same_value e) (h t)
settled_from nil_of P fault sort.Int (NilAt line) x h e = absurd (no_fault e)
settled_from nil_of P fault sort.Bool (NilAt line) x h e = absurd (no_fault e)
settled_from nil_of P fault sort.List (NilAt line) x h e = absurd (no_fault e)
settled_from nil_of P fault (sort.Whole t) (NilAt line) x h e = absurd (no_fault e)
settled_from nil_of P fault (sort.Class t) (NilAt line) x h e = absurd (no_fault e)

-- one that was settled to a sort that no pointer has
pub settled_plain : {X : Type 0} (nil_of : TypeId → X) (fault : TypeFault) (s : Sort) (o : Operand X) (x : X) → is_pointer s ≡ false
    → settled nil_of fault s o ≡ Ok x → o ≡ Of x s
settled_plain {X} nil_of fault s (Of y u) x plain e = by_case (sort_eq u s) refl e
  where
    by_case : (b : Bool) → sort_eq u s ≡ b → cond b (fine y) (Err fault) ≡ Ok x → Of y u ≡ Of x s
    by_case true same f = ap (λ z. Of z u) (same_value f) ∙ ap (λ r. Of x r) (sort_eq-true u s same)
    by_case false same f = absurd (no_fault f)
settled_plain nil_of fault (sort.Ptr t) (NilAt line) x plain e = absurd (false≢true (sym plain))
settled_plain nil_of fault sort.Int (NilAt line) x plain e = absurd (no_fault e)
settled_plain nil_of fault sort.Bool (NilAt line) x plain e = absurd (no_fault e)
settled_plain nil_of fault sort.List (NilAt line) x plain e = absurd (no_fault e)
settled_plain nil_of fault (sort.Whole t) (NilAt line) x plain e = absurd (no_fault e)
settled_plain nil_of fault (sort.Class t) (NilAt line) x plain e = absurd (no_fault e)

-- two operands of one sort and what they become
pub record Both {X : Type 0} (op : X → X → X) (a b c : Operand X) : Type 0 where
  pub left : X
  pub right : X
  pub sort : Sort
  pub result : Sort
  pub left_is : a ≡ Of left sort
  pub right_is : b ≡ Of right sort
  pub is : Of (op left right) result ≡ c

-- ---- designators alone

term_alone : (t : Term) → term_designator t ≡ Rattle.spv_typing.specs.OperatorWalk.term_alone t
term_alone (term line (place at d) no_more_factors) = refl
term_alone (term line (number at n) no_more_factors) = refl
term_alone (term line (truth at b) no_more_factors) = refl
term_alone (term line (nil at) no_more_factors) = refl
term_alone (term line (class at x) no_more_factors) = refl
term_alone (term line (application at x f fs ss) no_more_factors) = refl
term_alone (term line (bracketed at f) no_more_factors) = refl
term_alone (term line (negation at f) no_more_factors) = refl
term_alone (term line f (more_factors o g more)) = refl

alone_is : (f : Formula) → designator_of f ≡ designator_alone f
alone_is (formula line (relation at (simple on None t no_more_terms) no_right_side) no_conclusion) = term_alone t
alone_is (formula line (relation at (simple on None t (more_terms o u more)) no_right_side) no_conclusion) = refl
alone_is (formula line (relation at (simple on (Some sign) t more) no_right_side) no_conclusion) = refl
alone_is (formula line (relation at s (compared o t)) no_conclusion) = refl
alone_is (formula line r (implies f)) = refl

pub record IsBare (d : Option Designator) (x : Name) : Type 0 where
  pub line : ℕ
  pub is : d ≡ Some (designator line x no_selectors)

bare_is : (d : Option Designator) (x : Name) → bare d ≡ Some x → IsBare d x
bare_is None x e = absurd (nothing_there e)
bare_is (Some (designator line y no_selectors)) x e = record
    { line = line; is = ap (λ z. Some (designator line z no_selectors)) (some_is e) }
bare_is (Some (designator line y (selectors one more))) x e = absurd (nothing_there e)

-- ---- what the walk is given

module _ {X S : Type 0} (k : Forms X S) (m : Operators X) (Reads Writes : Name → X → Type 0)
    (Applies : Name → List (Given X) → X → Type 0) (x_of : S → X) (sort_for : S → Sort) (Good : S → Type 0) where
  -- the operators are those of the walk
  abbrev pub made : Operators X
  made = record {
    numeral = k.numeral;
    boolean = k.boolean;
    nil_of = k.nil_of;
    negative = k.negative_of;
    calculated = k.calculated;
    compared = k.compares;
    negated = k.negated;
    joined = k.joined;
    implied = m.implied;
    class_of = m.class_of;
    element = m.element;
    field_of = m.field_of;
    content_of = m.content_of;
  }

  abbrev pub FromFormula : X → Formula → Type 0
  FromFormula = origin.FromFormula made Reads Writes Applies

  abbrev pub FromRelation : X → Relation → Type 0
  FromRelation = origin.FromRelation made Reads Writes Applies

  abbrev pub FromSimple : X → Simple → Type 0
  FromSimple = origin.FromSimple made Reads Writes Applies

  abbrev pub FromTerms : X → MoreTerms → X → Type 0
  FromTerms = origin.FromTerms made Reads Writes Applies

  abbrev pub FromTerm : X → Term → Type 0
  FromTerm = origin.FromTerm made Reads Writes Applies

  abbrev pub FromFactors : X → MoreFactors → X → Type 0
  FromFactors = origin.FromFactors made Reads Writes Applies

  abbrev pub FromFactor : X → Factor → Type 0
  FromFactor = origin.FromFactor made Reads Writes Applies

  abbrev pub FromRead : X → Designator → Type 0
  FromRead = origin.FromRead made Reads Writes Applies

  abbrev pub FromWritten : X → Designator → Type 0
  FromWritten = origin.FromWritten made Reads Writes Applies

  abbrev pub FromSelectors : X → Selectors → X → Type 0
  FromSelectors = origin.FromSelectors made Reads Writes Applies

  abbrev pub FromArguments : List (Given X) → MoreFormulas → Type 0
  FromArguments = origin.FromArguments made Reads Writes Applies

  abbrev pub FromArgument : Given X → Formula → Type 0
  FromArgument = origin.FromArgument made Reads Writes Applies

  -- a formula that is a place that is written
  pub record PlacedFrom (f : Formula) (s : S) : Type 0 where
    pub designator : Designator
    pub is : designator_of f ≡ Some designator
    pub from : FromWritten (x_of s) designator
    pub good : Good s

  pub record ArgumentFrom (a : Argument X S) (f : Formula) : Type 0 where
    pub operand : (o : Operand X) → a.operand ≡ Ok o → IsFrom k.nil_of (λ x. FromFormula x f) o
    pub place : (s : S) → a.place ≡ Some (Ok s) → PlacedFrom f s
    pub name : (x : Name) → a.name ≡ Some x → FromArgument (FieldName x.symbol) f

  pub data ArgumentsFrom : List (Argument X S) → MoreFormulas → Type 0 where
    no_more : ArgumentsFrom [] no_more_formulas
    one_more : (a : Argument X S) (others : List (Argument X S)) (f : Formula) (more : MoreFormulas) → ArgumentFrom a f
        → ArgumentsFrom others more → ArgumentsFrom (a ∷ others) (more_formulas f more)

  -- one selector more
  pub record Extends (s : S) (one : Selector) (t : S) : Type 0 where
    pub good : Good t
    pub on : (more : Selectors) (z : X) → FromSelectors (x_of t) more z → FromSelectors (x_of s) (selectors one more) z

  pub record Begun (P : Name → X → Type 0) (x : Name) (s : S) : Type 0 where
    pub good : Good s
    pub is : P x (x_of s)

  pub record AppliedFrom (x : Name) (more : MoreFormulas) (s : S) : Type 0 where
    pub given : List (Given X)
    pub from : FromArguments given more
    pub is : Applies x given (x_of s)
    pub good : Good s

  pub record ClassFrom (line : ℕ) (x : Name) (o : Operand X) : Type 0 where
    pub value : X
    pub sort : Sort
    pub is : o ≡ Of value sort
    pub from : m.class_of line x ≡ Some value

  -- what has to come from its tree
  pub record Comes : Type 0 where
    pub implied : (x y : X) → k.may_imply ≡ true → m.implied x y ≡ Some (k.implied x y)
    pub class_of : (line : ℕ) (x : Name) (o : Operand X) → k.class_of line x ≡ Ok o → ClassFrom line x o
    pub begin : (line : ℕ) (x : Name) (s : S) → k.begin line x ≡ Ok s → Begun Reads x s
    pub begin_written : (line : ℕ) (x : Name) (s : S) → k.begin_written line x ≡ Ok s → Begun Writes x s
    pub apply : (line : ℕ) (x : Name) (s : S) (given : List (Argument X S)) (f : Formula) (more : MoreFormulas)
        → ArgumentsFrom given (more_formulas f more)
        → k.apply line x given ≡ Ok s → AppliedFrom x (more_formulas f more) s
    pub indexed : (line at : ℕ) (s t : S) (given : List (Argument X S)) (f : Formula) (more : MoreFormulas) → Good s
        → ArgumentsFrom given (more_formulas f more)
        → k.indexed line s given ≡ Ok t → Extends s (index at f more) t
    pub field_of : (line at : ℕ) (s t : S) (x : Name) → Good s → k.field_of line s x ≡ Ok t → Extends s (field at x) t
    pub content_of : (line at : ℕ) (s t : S) → Good s → k.content_of line at s ≡ Ok t → Extends s (content at) t
    pub finish : (s : S) → k.finish s ≡ Of (x_of s) (sort_for s)

  -- ---- operators

  abbrev OperandFrom : (X → Type 0) → Operand X → Type 0
  OperandFrom P o = IsFrom k.nil_of P o

  both_of : (line : ℕ) (s r : Sort) (op : X → X → X) (a b c : Operand X) → is_pointer s ≡ false
      → two_of k line s a b (λ x y. Of (op x y) r) ≡ Ok c → Both op a b c
  both_of line s r op a b c plain e =
      let one = went (settled k.nil_of (wrong line) s a) (λ x. after (settled k.nil_of (wrong line) s b) (λ y. Ok (Of (op x y) r))) c e in
      let two = went (settled k.nil_of (wrong line) s b) (λ y. Ok (Of (op one.value y) r)) c one.rest in
      record {
        left = one.value;
        right = two.value;
        sort = s;
        result = r;
        left_is = settled_plain k.nil_of (wrong line) s a one.value plain one.first;
        right_is = settled_plain k.nil_of (wrong line) s b two.value plain two.first;
        is = same_value two.rest;
      }

  product_both : (line : ℕ) (o : Multiplying) (a b c : Operand X) → product k line o a b ≡ Ok c → Both (product_of made o) a b c
  product_both line multiplying.Times a b c e = both_of line sort.Int sort.Int (k.calculated arithmetic.Times) a b c refl e
  product_both line multiplying.Div a b c e = both_of line sort.Int sort.Int (k.calculated arithmetic.Div) a b c refl e
  product_both line multiplying.Mod a b c e = both_of line sort.Int sort.Int (k.calculated arithmetic.Mod) a b c refl e
  product_both line multiplying.And a b c e = both_of line sort.Bool sort.Bool (k.joined connective.And) a b c refl e

  total_both : (line : ℕ) (o : Adding) (a b c : Operand X) → total k line o a b ≡ Ok c → Both (sum_of made o) a b c
  total_both line adding.Plus a b c e = both_of line sort.Int sort.Int (k.calculated arithmetic.Plus) a b c refl e
  total_both line adding.Minus a b c e = both_of line sort.Int sort.Int (k.calculated arithmetic.Minus) a b c refl e
  total_both line adding.Or a b c e = both_of line sort.Bool sort.Bool (k.joined connective.Or) a b c refl e

  -- ---- factors behind the first one, terms behind the first one

  pub record On (Behind : X → Type 0) (o : Operand X) : Type 0 where
    pub value : X
    pub sort : Sort
    pub is : o ≡ Of value sort
    pub from : Behind value

  abbrev FactorsFrom : Operand X → MoreFactors → Operand X → Type 0
  FactorsFrom (Of x s) more o = On (FromFactors x more) o
  FactorsFrom (NilAt line) more o = (more ≡ no_more_factors) × (o ≡ NilAt line)

  abbrev TermsFrom : Operand X → MoreTerms → Operand X → Type 0
  TermsFrom (Of x s) more o = On (FromTerms x more) o
  TermsFrom (NilAt line) more o = (more ≡ no_more_terms) × (o ≡ NilAt line)

  no_factor_more : (a o : Operand X) → a ≡ o → FactorsFrom a no_more_factors o
  no_factor_more (Of x s) o e = record { value = x; sort = s; is = sym e; from = origin.no_factors }
  no_factor_more (NilAt line) o e = (refl, sym e)

  no_term_more : (a o : Operand X) → a ≡ o → TermsFrom a no_more_terms o
  no_term_more (Of x s) o e = record { value = x; sort = s; is = sym e; from = origin.no_terms }
  no_term_more (NilAt line) o e = (refl, sym e)

  factor_more : (sign : Multiplying) (f : Factor) (more : MoreFactors) (a b c o : Operand X) → Both (product_of made sign) a b c
      → OperandFrom (λ y. FromFactor y f) b → FactorsFrom c more o → FactorsFrom a (more_factors sign f more) o
  factor_more sign f more a b c o both g rest =
      let y : FromFactor both.right f = from_of (subst (OperandFrom (λ y. FromFactor y f)) both.right_is g) in
      let on : On (FromFactors (product_of made sign both.left both.right) more) o = subst (λ q. FactorsFrom q more o) (sym both.is) rest in
      let all : FactorsFrom (Of both.left both.sort) (more_factors sign f more) o = record
      { value = on.value; sort = on.sort; is = on.is; from = origin.one_factor y on.from } in
      subst (λ q. FactorsFrom q (more_factors sign f more) o) (sym both.left_is) all

  term_more : (sign : Adding) (t : Term) (more : MoreTerms) (a b c o : Operand X) → Both (sum_of made sign) a b c
      → OperandFrom (λ y. FromTerm y t) b → TermsFrom c more o → TermsFrom a (more_terms sign t more) o
  term_more sign t more a b c o both g rest =
      let y : FromTerm both.right t = from_of (subst (OperandFrom (λ y. FromTerm y t)) both.right_is g) in
      let on : On (FromTerms (sum_of made sign both.left both.right) more) o = subst (λ q. TermsFrom q more o) (sym both.is) rest in
      let all : TermsFrom (Of both.left both.sort) (more_terms sign t more) o = record
      { value = on.value; sort = on.sort; is = on.is; from = origin.one_term y on.from } in
      subst (λ q. TermsFrom q (more_terms sign t more) o) (sym both.left_is) all

  term_of : (line : ℕ) (f : Factor) (more : MoreFactors) (a o : Operand X) → OperandFrom (λ x. FromFactor x f) a → FactorsFrom a more o
      → OperandFrom (λ x. FromTerm x (term line f more)) o
  term_of line f more (Of x s) o g on =
      subst (OperandFrom (λ x. FromTerm x (term line f more))) (sym on.is) (of on.value on.sort (origin.product (from_of g) on.from))
  term_of line f more (NilAt at) o (nil_at l h) on =
      subst (λ fs. OperandFrom (λ x. FromTerm x (term line f fs)) o) (sym on.0)
      (subst (OperandFrom (λ x. FromTerm x (term line f no_more_factors))) (sym on.1)
      (nil_at at (λ t. origin.product (h t) origin.no_factors)))

  -- ---- signs

  -- one operand and what it becomes
  record One (op : X → X) (a c : Operand X) : Type 0 where
    pub value : X
    pub sort : Sort
    pub result : Sort
    pub value_is : a ≡ Of value sort
    pub is : Of (op value) result ≡ c

  one_of : (line : ℕ) (s r : Sort) (op : X → X) (a c : Operand X) → is_pointer s ≡ false
      → after (settled k.nil_of (wrong line) s a) (λ x. Ok (Of (op x) r)) ≡ Ok c → One op a c
  one_of line s r op a c plain e =
      let one = went (settled k.nil_of (wrong line) s a) (λ x. Ok (Of (op x) r)) c e in
      record {
        value = one.value;
        sort = s;
        result = r;
        value_is = settled_plain k.nil_of (wrong line) s a one.value plain one.first;
        is = same_value one.rest;
      }

  abbrev SimpleFrom : ℕ → Option PlusOrMinus → Term → MoreTerms → Operand X → Type 0
  SimpleFrom line sign t more o = OperandFrom (λ x. FromSimple x (simple line sign t more)) o

  unsigned_from : (line : ℕ) (t : Term) (more : MoreTerms) (a o : Operand X) → OperandFrom (λ x. FromTerm x t) a → TermsFrom a more o
      → SimpleFrom line None t more o
  unsigned_from line t more (Of x s) o g on = subst (SimpleFrom line None t more) (sym on.is)
      (of on.value on.sort (origin.unsigned (from_of g) on.from))
  unsigned_from line t more (NilAt at) o (nil_at l h) on =
      subst (λ ts. SimpleFrom line None t ts o) (sym on.0)
      (subst (SimpleFrom line None t no_more_terms) (sym on.1) (nil_at at (λ u. origin.unsigned (h u) origin.no_terms)))

  plus_from : (line : ℕ) (t : Term) (more : MoreTerms) (a b o : Operand X) → OperandFrom (λ x. FromTerm x t) a → One (λ x. x) a b
      → TermsFrom b more o → SimpleFrom line (Some prefix.Plus) t more o
  plus_from line t more a b o g one rest =
      let x : FromTerm one.value t = from_of (subst (OperandFrom (λ y. FromTerm y t)) one.value_is g) in
      let on : On (FromTerms one.value more) o = subst (λ q. TermsFrom q more o) (sym one.is) rest in
      subst (SimpleFrom line (Some prefix.Plus) t more) (sym on.is) (of on.value on.sort (origin.plus x on.from))

  minus_from : (line : ℕ) (t : Term) (more : MoreTerms) (a b o : Operand X) → is_numeral t ≡ false → OperandFrom (λ x. FromTerm x t) a
      → One k.negative_of a b → TermsFrom b more o → SimpleFrom line (Some prefix.Minus) t more o
  minus_from line t more a b o other g one rest =
      let x : FromTerm one.value t = from_of (subst (OperandFrom (λ y. FromTerm y t)) one.value_is g) in
      let on : On (FromTerms (k.negative_of one.value) more) o = subst (λ q. TermsFrom q more o) (sym one.is) rest in
      subst (SimpleFrom line (Some prefix.Minus) t more) (sym on.is) (of on.value on.sort (origin.minus other x on.from))

  minus_numeral_from : (line at on n : ℕ) (more : MoreTerms) (b o : Operand X) → Of (k.numeral (negative (pos n))) sort.Int ≡ b
      → TermsFrom b more o → SimpleFrom line (Some prefix.Minus) (term at (number on n) no_more_factors) more o
  minus_numeral_from line at w n more b o is rest =
      let on : On (FromTerms (k.numeral (negative (pos n))) more) o = subst (λ q. TermsFrom q more o) (sym is) rest in
      subst (SimpleFrom line (Some prefix.Minus) (term at (number w n) no_more_factors) more) (sym on.is)
      (of on.value on.sort (origin.minus_numeral on.from))

  signed_from : (line : ℕ) (sign : Option PlusOrMinus) (t : Term) (more : MoreTerms) (a b o : Operand X)
      → OperandFrom (λ x. FromTerm x t) a → with_sign k line sign t a ≡ Ok b → TermsFrom b more o → SimpleFrom line sign t more o
  signed_from line None t more a b o g e rest = unsigned_from line t more a o g (subst (λ q. TermsFrom q more o) (sym (same_value e)) rest)
  signed_from line (Some prefix.Plus) t more a b o g e rest = plus_from line t more a b o g
      (one_of line sort.Int sort.Int (λ x. x) a b refl e) rest
  signed_from line (Some prefix.Minus) (term at (number on n) no_more_factors) more a b o g e rest = minus_numeral_from line at on n more
      b o (same_value e) rest
  signed_from line (Some prefix.Minus) (term at (number on n) (more_factors q f fs)) more a b o g e rest = minus_from line
      (term at (number on n) (more_factors q f fs)) more a b o refl g (one_of line sort.Int sort.Int k.negative_of a b refl e) rest
  signed_from line (Some prefix.Minus) (term at (truth on c) fs) more a b o g e rest = minus_from line (term at (truth on c) fs) more a b
      o refl g (one_of line sort.Int sort.Int k.negative_of a b refl e) rest
  signed_from line (Some prefix.Minus) (term at (nil on) fs) more a b o g e rest = minus_from line (term at (nil on) fs) more a b o refl g
      (one_of line sort.Int sort.Int k.negative_of a b refl e) rest
  signed_from line (Some prefix.Minus) (term at (class on x) fs) more a b o g e rest = minus_from line (term at (class on x) fs) more a b
      o refl g (one_of line sort.Int sort.Int k.negative_of a b refl e) rest
  signed_from line (Some prefix.Minus) (term at (place on d) fs) more a b o g e rest = minus_from line (term at (place on d) fs) more a b
      o refl g (one_of line sort.Int sort.Int k.negative_of a b refl e) rest
  signed_from line (Some prefix.Minus) (term at (application on x f gs ss) fs) more a b o g e rest = minus_from line
      (term at (application on x f gs ss) fs) more a b o refl g (one_of line sort.Int sort.Int k.negative_of a b refl e) rest
  signed_from line (Some prefix.Minus) (term at (bracketed on f) fs) more a b o g e rest = minus_from line (term at (bracketed on f) fs)
      more a b o refl g (one_of line sort.Int sort.Int k.negative_of a b refl e) rest
  signed_from line (Some prefix.Minus) (term at (negation on f) fs) more a b o g e rest = minus_from line (term at (negation on f) fs)
      more a b o refl g (one_of line sort.Int sort.Int k.negative_of a b refl e) rest

  -- ---- relations

  pub record Pair (P Q : X → Type 0) (op : X → X → X) (c : Operand X) : Type 0 where
    pub left : X
    pub right : X
    pub result : Sort
    pub left_from : P left
    pub right_from : Q right
    pub is : Of (op left right) result ≡ c

  ordered_pair : (P Q : X → Type 0) (line : ℕ) (o : Comparison) (a b c : Operand X) → OperandFrom P a → OperandFrom Q b
      → ordered k line o a b ≡ Ok c → Pair P Q (k.compares o) c
  ordered_pair P Q line o a b c g h e =
      let both = both_of line sort.Int sort.Bool (k.compares o) a b c refl e in
      record {
        left = both.left;
        right = both.right;
        result = both.result;
        left_from = from_of (subst (OperandFrom P) both.left_is g);
        right_from = from_of (subst (OperandFrom Q) both.right_is h);
        is = both.is;
      }

  alike_pair : (P Q : X → Type 0) (line : ℕ) (o : Comparison) (a b c : Operand X) → OperandFrom P a → OperandFrom Q b
      → alike k line o a b ≡ Ok c → Pair P Q (k.compares o) c
  alike_pair P Q line o (Of x s) b c g h e =
      let next = after (settled k.nil_of (wrong line) s b) (λ y. fine (Of (k.compares o x y) sort.Bool)) in
      let one = went (settled k.nil_of (wrong line) s b) (λ y. fine (Of (k.compares o x y) sort.Bool)) c
      (behind_test (k.comparable s) (wrong line) next c e) in
      record {
        left = x;
        right = one.value;
        result = sort.Bool;
        left_from = from_of g;
        right_from = settled_from k.nil_of Q (wrong line) s
            b one.value h one.first;
        is = same_value one.rest;
      }
  alike_pair P Q line o (NilAt at) (Of y s) c g h e =
      let next = after (settled k.nil_of (wrong line) s (NilAt at)) (λ x. fine (Of (k.compares o x y) sort.Bool)) in
      let one = went (settled k.nil_of (wrong line) s (NilAt at)) (λ x. fine (Of (k.compares o x y) sort.Bool)) c
      (behind_test (k.comparable s) (wrong line) next c e) in
      record {
        left = one.value;
        right = y;
        result = sort.Bool;
        left_from = settled_from k.nil_of P (wrong line) s (NilAt at) one.value g
            one.first;
        right_from = from_of h;
        is = same_value one.rest;
      }
  alike_pair P Q line o (NilAt at) (NilAt on) c g h e = absurd (no_fault e)

  related_pair : (P Q : X → Type 0) (line : ℕ) (o : ComparisonSign) (a b c : Operand X) → OperandFrom P a → OperandFrom Q b
      → related k line o a b ≡ Ok c → Pair P Q (k.compares (comparison_of o)) c
  related_pair P Q line comparison_sign.Equal a b c g h e = alike_pair P Q line comparison.Equal a b c g h e
  related_pair P Q line comparison_sign.NotEqual a b c g h e = alike_pair P Q line comparison.NotEqual a b c g h e
  related_pair P Q line comparison_sign.Less a b c g h e = ordered_pair P Q line comparison.Less a b c g h e
  related_pair P Q line comparison_sign.AtMost a b c g h e = ordered_pair P Q line comparison.AtMost a b c g h e
  related_pair P Q line comparison_sign.Greater a b c g h e = ordered_pair P Q line comparison.Greater a b c g h e
  related_pair P Q line comparison_sign.AtLeast a b c g h e = ordered_pair P Q line comparison.AtLeast a b c g h e

  -- ---- the walk

  module _ (comes : Comes) where
    implication_from : (line at : ℕ) (r : Relation) (f : Formula) (a b c : Operand X) → OperandFrom (λ x. FromRelation x r) a
        → OperandFrom (λ y. FromFormula y f) b → conclusion k at a b ≡ Ok c
        → OperandFrom (λ z. FromFormula z (formula line r (implies f))) c
    implication_from line at r f a b c g h e =
        let next = two_of k at sort.Bool a b (λ x y. Of (k.implied x y) sort.Bool) in
        let may = held k.may_imply (wrong at) next c e in
        let both = both_of at sort.Bool sort.Bool k.implied a b c refl (behind_test k.may_imply (wrong at) next c e) in
        let x : FromRelation both.left r = from_of (subst (OperandFrom (λ q. FromRelation q r)) both.left_is g) in
        let y : FromFormula both.right f = from_of (subst (OperandFrom (λ q. FromFormula q f)) both.right_is h) in
        subst (OperandFrom (λ z. FromFormula z (formula line r (implies f)))) both.is
        (of (k.implied both.left both.right) both.result (origin.implication x y (comes.implied both.left both.right may)))

    sides_from : (line at : ℕ) (s t : Simple) (o : ComparisonSign) (a b c : Operand X) → OperandFrom (λ x. FromSimple x s) a
        → OperandFrom (λ y. FromSimple y t) b → related k at o a b ≡ Ok c
        → OperandFrom (λ z. FromRelation z (relation line s (compared o t))) c
    sides_from line at s t o a b c g h e =
        let pair = related_pair (λ x. FromSimple x s) (λ y. FromSimple y t) at o a b c g h e in
        subst (OperandFrom (λ z. FromRelation z (relation line s (compared o t)))) pair.is
        (of (k.compares (comparison_of o) pair.left pair.right) pair.result (origin.two_sides pair.left_from pair.right_from))

    class_from : (line : ℕ) (x : Name) (o : Operand X) → ClassFrom line x o → OperandFrom (λ z. FromFactor z (class line x)) o
    class_from line x o c = subst (OperandFrom (λ z. FromFactor z (class line x))) (sym c.is) (of c.value c.sort (origin.class_of c.from))

    negated_from : (line at : ℕ) (f : Factor) (a c : Operand X) → OperandFrom (λ x. FromFactor x f) a → opposite k at a ≡ Ok c
        → OperandFrom (λ z. FromFactor z (negation line f)) c
    negated_from line at f a c g e =
        let one = one_of at sort.Bool sort.Bool k.negated a c refl e in
        let x : FromFactor one.value f = from_of (subst (OperandFrom (λ q. FromFactor q f)) one.value_is g) in
        subst (OperandFrom (λ z. FromFactor z (negation line f))) one.is (of (k.negated one.value) one.result (origin.negated x))

    pub record Selected (s : S) (ss : Selectors) (t : S) : Type 0 where
      pub good : Good t
      pub from : FromSelectors (x_of s) ss (x_of t)

    finished : (P : X → Type 0) (s : S) (o : Operand X) → fine (k.finish s) ≡ Ok o → P (x_of s) → OperandFrom P o
    finished P s o e h = subst (OperandFrom P) (sym (comes.finish s) ∙ same_value e) (of (x_of s) (sort_for s) h)

    pub record WrittenFrom (d : Designator) (s : S) : Type 0 where
      pub good : Good s
      pub from : FromWritten (x_of s) d

    argument_from : (f : Formula) → ((o : Operand X) → formula_walk k f ≡ Ok o → OperandFrom (λ x. FromFormula x f) o)
        → ((s : S) → written_place k f ≡ Some (Ok s) → PlacedFrom f s) → ArgumentFrom (argument f (formula_walk k f) (written_place k f)) f
    argument_from f operand placed = record {
      operand = operand;
      place = placed;
      name = λ x e. let b = bare_is (designator_alone f) x e in origin.field_name (alone_is f ∙ b.is);
    }

    mutual
      pub formula_from : (f : Formula) (o : Operand X) → formula_walk k f ≡ Ok o → OperandFrom (λ x. FromFormula x f) o
      formula_from (formula line r no_conclusion) o e = from_map o (λ x h. origin.alone h) (relation_from r o e)
      formula_from (formula line r (implies f)) o e =
          let one = went (relation_walk k r) (λ a. after (formula_walk k f) (λ b. conclusion k line a b)) o e in
          let two = went (formula_walk k f) (λ b. conclusion k line one.value b) o one.rest in
          implication_from line line r f one.value two.value o (relation_from r one.value one.first) (formula_from f two.value two.first)
          two.rest

      relation_from : (r : Relation) (o : Operand X) → relation_walk k r ≡ Ok o → OperandFrom (λ x. FromRelation x r) o
      relation_from (relation line s no_right_side) o e = from_map o (λ x h. origin.one_side h) (simple_from s o e)
      relation_from (relation line s (compared c t)) o e =
          let one = went (simple_walk k s) (λ a. after (simple_walk k t) (λ b. related k line c a b)) o e in
          let two = went (simple_walk k t) (λ b. related k line c one.value b) o one.rest in
          sides_from line line s t c one.value two.value o (simple_from s one.value one.first) (simple_from t two.value two.first) two.rest

      simple_from : (s : Simple) (o : Operand X) → simple_walk k s ≡ Ok o → OperandFrom (λ x. FromSimple x s) o
      simple_from (simple line sign t more) o e =
          let one = went (term_walk k t) (λ a. after (with_sign k line sign t a) (λ b. more_terms_walk k line b more)) o e in
          let two = went (with_sign k line sign t one.value) (λ b. more_terms_walk k line b more) o one.rest in
          signed_from line sign t more one.value two.value o (term_from t one.value one.first) two.first
          (more_terms_from line two.value more o two.rest)

      more_terms_from : (line : ℕ) (a : Operand X) (more : MoreTerms) (o : Operand X) → more_terms_walk k line a more ≡ Ok o
          → TermsFrom a more o
      more_terms_from line a no_more_terms o e = no_term_more a o (same_value e)
      more_terms_from line a (more_terms sign t more) o e =
          let one = went (term_walk k t) (λ b. after (total k line sign a b) (λ c. more_terms_walk k line c more)) o e in
          let two = went (total k line sign a one.value) (λ c. more_terms_walk k line c more) o one.rest in
          term_more sign t more a one.value two.value o (total_both line sign a one.value two.value two.first)
          (term_from t one.value one.first) (more_terms_from line two.value more o two.rest)

      term_from : (t : Term) (o : Operand X) → term_walk k t ≡ Ok o → OperandFrom (λ x. FromTerm x t) o
      term_from (term line f more) o e =
          let one = went (factor_walk k f) (λ a. more_factors_walk k line a more) o e in
          term_of line f more one.value o (factor_from f one.value one.first) (more_factors_from line one.value more o one.rest)

      more_factors_from : (line : ℕ) (a : Operand X) (more : MoreFactors) (o : Operand X) → more_factors_walk k line a more ≡ Ok o
          → FactorsFrom a more o
      more_factors_from line a no_more_factors o e = no_factor_more a o (same_value e)
      more_factors_from line a (more_factors sign f more) o e =
          let one = went (factor_walk k f) (λ b. after (product k line sign a b) (λ c. more_factors_walk k line c more)) o e in
          let two = went (product k line sign a one.value) (λ c. more_factors_walk k line c more) o one.rest in
          factor_more sign f more a one.value two.value o (product_both line sign a one.value two.value two.first)
          (factor_from f one.value one.first) (more_factors_from line two.value more o two.rest)

      factor_from : (f : Factor) (o : Operand X) → factor_walk k f ≡ Ok o → OperandFrom (λ x. FromFactor x f) o
      factor_from (number line n) o e = subst (OperandFrom (λ x. FromFactor x (number line n))) (same_value e)
          (of (k.numeral (pos n)) sort.Int origin.numeral)
      factor_from (truth line b) o e = subst (OperandFrom (λ x. FromFactor x (truth line b))) (same_value e)
          (of (k.boolean b) sort.Bool origin.boolean)
      factor_from (nil line) o e = subst (OperandFrom (λ x. FromFactor x (nil line))) (same_value e) (nil_at line (λ t. origin.nil_of))
      factor_from (class line x) o e = class_from line x o (comes.class_of line x o e)
      factor_from (place line d) o e =
          let one = went (designator_walk k k.begin d) (λ s. fine (k.finish s)) o e in
          finished (λ x. FromFactor x (place line d)) one.value o one.rest (origin.read (read_from d one.value one.first))
      factor_from (application line x f more behind) o e =
          let given = argument f (formula_walk k f) (written_place k f) ∷ arguments k more in
          let one = went (k.apply line x given) (λ s. after (selectors_walk k line s behind) (λ t. fine (k.finish t))) o e in
          let two = went (selectors_walk k line one.value behind) (λ t. fine (k.finish t)) o one.rest in
          let all = one_more (argument f (formula_walk k f) (written_place k f)) (arguments k more) f more
          (argument_from f (formula_from f) (place_from f)) (arguments_from more) in
          let app = comes.apply line x one.value given f more all one.first in
          let ss = selectors_from line one.value behind two.value app.good two.first in
          finished (λ z. FromFactor z (application line x f more behind)) two.value o two.rest (origin.applied app.from app.is ss.from)
      factor_from (bracketed line f) o e = from_map o (λ x h. origin.in_brackets h) (formula_from f o e)
      factor_from (negation line f) o e =
          let one = went (factor_walk k f) (λ a. opposite k line a) o e in
          negated_from line line f one.value o (factor_from f one.value one.first) one.rest

      read_from : (d : Designator) (s : S) → designator_walk k k.begin d ≡ Ok s → FromRead (x_of s) d
      read_from (designator line x behind) s e =
          let one = went (k.begin line x) (λ s. selectors_walk k line s behind) s e in
          let begun = comes.begin line x one.value one.first in
          origin.read_name begun.is (selectors_from line one.value behind s begun.good one.rest).from

      pub written_from : (d : Designator) (s : S) → designator_walk k k.begin_written d ≡ Ok s → WrittenFrom d s
      written_from (designator line x behind) s e =
          let one = went (k.begin_written line x) (λ s. selectors_walk k line s behind) s e in
          let begun = comes.begin_written line x one.value one.first in
          let ss = selectors_from line one.value behind s begun.good one.rest in
          record { good = ss.good; from = origin.written_name begun.is ss.from }

      selectors_from : (line : ℕ) (s : S) (ss : Selectors) (t : S) → Good s → selectors_walk k line s ss ≡ Ok t → Selected s ss t
      selectors_from line s no_selectors t g e = subst (Selected s no_selectors) (same_value e) (record { good = g; from = origin.no_more })
      selectors_from line s (selectors one ss) t g e =
          let step = went (selector_walk k line s one) (λ next. selectors_walk k line next ss) t e in
          let ext = selector_from line s one step.value g step.first in
          let rest = selectors_from line step.value ss t ext.good step.rest in
          record { good = rest.good; from = ext.on ss (x_of t) rest.from }

      selector_from : (line : ℕ) (s : S) (one : Selector) (t : S) → Good s → selector_walk k line s one ≡ Ok t → Extends s one t
      selector_from line s (index at f fs) t g e =
          comes.indexed line at s t (argument f (formula_walk k f) (written_place k f) ∷ arguments k fs) f fs g
          (one_more (argument f (formula_walk k f) (written_place k f)) (arguments k fs) f fs
          (argument_from f (formula_from f) (place_from f)) (arguments_from fs)) e
      selector_from line s (field at x) t g e = comes.field_of line at s t x g e
      selector_from line s (content at) t g e = comes.content_of line at s t g e

      pub arguments_from : (fs : MoreFormulas) → ArgumentsFrom (arguments k fs) fs
      arguments_from no_more_formulas = no_more
      arguments_from (more_formulas f fs) =
          one_more (argument f (formula_walk k f) (written_place k f)) (arguments k fs) f fs
          (argument_from f (formula_from f) (place_from f)) (arguments_from fs)

      pub place_from : (f : Formula) (s : S) → written_place k f ≡ Some (Ok s) → PlacedFrom f s
      place_from (formula line r no_conclusion) s e = relation_place_from line r s e
      place_from (formula line r (implies f)) s e = absurd (nothing_there e)

      relation_place_from : (line : ℕ) (r : Relation) (s : S) → relation_place k r ≡ Some (Ok s)
          → PlacedFrom (formula line r no_conclusion) s
      relation_place_from line (relation at a no_right_side) s e = simple_place_from line at a s e
      relation_place_from line (relation at a (compared o b)) s e = absurd (nothing_there e)

      simple_place_from : (line at : ℕ) (a : Simple) (s : S) → simple_place k a ≡ Some (Ok s)
          → PlacedFrom (formula line (relation at a no_right_side) no_conclusion) s
      simple_place_from line at (simple on None t no_more_terms) s e = term_place_from line at on t s e
      simple_place_from line at (simple on None t (more_terms o u more)) s e = absurd (nothing_there e)
      simple_place_from line at (simple on (Some sign) t more) s e = absurd (nothing_there e)

      term_place_from : (line at on : ℕ) (t : Term) (s : S) → term_place k t ≡ Some (Ok s)
          → PlacedFrom (formula line (relation at (simple on None t no_more_terms) no_right_side) no_conclusion) s
      term_place_from line at on (term by f no_more_factors) s e = factor_place_from line at on by f s e
      term_place_from line at on (term by f (more_factors o g more)) s e = absurd (nothing_there e)

      factor_place_from : (line at on by : ℕ) (f : Factor) (s : S) → factor_place k f ≡ Some (Ok s)
          → PlacedFrom (formula line (relation at (simple on None (term by f no_more_factors) no_more_terms) no_right_side) no_conclusion) s
      factor_place_from line at on by (place l d) s e =
          let w = written_from d s (some_is e) in record { designator = d; is = refl; from = w.from; good = w.good }
      factor_place_from line at on by (number l n) s e = absurd (nothing_there e)
      factor_place_from line at on by (truth l b) s e = absurd (nothing_there e)
      factor_place_from line at on by (nil l) s e = absurd (nothing_there e)
      factor_place_from line at on by (class l x) s e = absurd (nothing_there e)
      factor_place_from line at on by (application l x f more behind) s e = absurd (nothing_there e)
      factor_place_from line at on by (bracketed l f) s e = absurd (nothing_there e)
      factor_place_from line at on by (negation l f) s e = absurd (nothing_there e)

    pub one_argument_from : (f : Formula) → ArgumentFrom (argument f (formula_walk k f) (written_place k f)) f
    one_argument_from f = argument_from f (formula_from f) (place_from f)
