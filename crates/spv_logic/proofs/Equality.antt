-- The tests of sameness decide equality.
use Rattle.std.proofs.Common.{◌≡◌, ℕ, Bool, true, false, ◌&&◌, List, [], ◌∷◌, ℤ, refl, sym, ap, nat_eq}
use Rattle.std.proofs.lemmas.Bool.{false≢true, eqb-true, eq-eqb}
use Rattle.std.specs.Ordering.{int_eq}
use Rattle.std.specs.Cmp.Derive.{both_true}
use Rattle.std.proofs.lemmas.Bool.Decides.{Decides-int_eq}
use Rattle.spv_logic.proofs.list.Tests.{left_true, right_true}
use Rattle.spv_logic.specs.declared.names.names.Symbol.{Symbol}
use Rattle.spv_logic.specs.declared.types.TypeId.{TypeId}
use Rattle.spv_logic.specs.declared.types.Sort.{Sort}
use Rattle.spv_logic.specs.declared.types.Sort.TheVariants as sort
use Rattle.spv_logic.specs.declared.operators.Head.{Head}
use Rattle.spv_logic.specs.declared.operators.Head.TheVariants.{Var, ClassVar, Start, Num, App, Add, Sub, Mul, Div, Mod, Eq, Lt, Le, Not, And, Or, Implies, Select, Store, Field, Put, Cell, SetCell, Extend, PointerTo, Car, Cdr, Cons, Atom, Nil, True, False}
use Rattle.spv_logic.specs.Values.{Value, Rows, Number, Truth, Pointer, ArrayOf, RecordOf, ClassOf, AtomOf, PairOf, no_rows, row, value_eq, rows_eq, bool_eq, cells_eq}
use Rattle.spv_logic.specs.Terms.{Term, Terms, term, no_terms, terms, sort_eq, head_eq, term_eq, terms_eq}

pub int_eq-true : (x y : ℤ) → int_eq x y ≡ true → x ≡ y
int_eq-true x y h = (Decides-int_eq x y).0 h

pub int_eq-refl : (x : ℤ) → int_eq x x ≡ true
int_eq-refl x = (Decides-int_eq x x).1 refl

pub bool_eq-true : (a b : Bool) → bool_eq a b ≡ true → a ≡ b
bool_eq-true true b h = sym h
bool_eq-true false true h = absurd (false≢true h)
bool_eq-true false false h = refl

pub bool_eq-refl : (a : Bool) → bool_eq a a ≡ true
bool_eq-refl true = refl
bool_eq-refl false = refl

pub cells_eq-true : (cs ds : List ℕ) → cells_eq cs ds ≡ true → cs ≡ ds
cells_eq-true [] [] h = refl
cells_eq-true (c ∷ cs) (d ∷ ds) h =
    let e = eqb-true c d (left_true _ _ h) in
    let f = cells_eq-true cs ds (right_true (nat_eq c d) _ h) in
    cc (e, f)
cells_eq-true _ _ h = absurd (false≢true h)

pub cells_eq-refl : (cs : List ℕ) → cells_eq cs cs ≡ true
cells_eq-refl [] = refl
cells_eq-refl (c ∷ cs) = both_true (eq-eqb c c refl) (cells_eq-refl cs)

mutual
  pub value_eq-true : (v w : Value) → value_eq v w ≡ true → v ≡ w
  value_eq-true (Number x) (Number y) h = ap Number (int_eq-true x y h)
  value_eq-true (Truth a) (Truth b) h = ap Truth (bool_eq-true a b h)
  value_eq-true (Pointer p) (Pointer q) h = ap Pointer (eqb-true p q h)
  value_eq-true (ArrayOf d rows) (ArrayOf e others) h =
      let f = value_eq-true d e (left_true _ _ h) in
      let g = rows_eq-true rows others (right_true (value_eq d e) _ h) in
      cc (f, g)
  value_eq-true (RecordOf rows) (RecordOf others) h = ap RecordOf (rows_eq-true rows others h)
  value_eq-true (ClassOf cells d rows) (ClassOf cells' e others) h =
      let c = cells_eq-true cells cells' (left_true _ _ h) in
      let f = value_eq-true d e (left_true _ _ (right_true (cells_eq cells cells') _ h)) in
      let g = rows_eq-true rows others (right_true (value_eq d e) _ (right_true (cells_eq cells cells') _ h)) in
      cc (c, f, g)
  value_eq-true (AtomOf x) (AtomOf y) h = ap AtomOf (int_eq-true x y h)
  value_eq-true (PairOf a b) (PairOf c d) h =
      let f = value_eq-true a c (left_true _ _ h) in
      let g = value_eq-true b d (right_true (value_eq a c) _ h) in
      cc (f, g)
  value_eq-true _ _ h = absurd (false≢true h)

  pub rows_eq-true : (rows others : Rows) → rows_eq rows others ≡ true → rows ≡ others
  rows_eq-true no_rows no_rows h = refl
  rows_eq-true (row i v rows) (row j w others) h =
      let e = int_eq-true i j (left_true _ _ h) in
      let f = value_eq-true v w (left_true _ _ (right_true (int_eq i j) _ h)) in
      let g = rows_eq-true rows others (right_true (value_eq v w) _ (right_true (int_eq i j) _ h)) in
      cc (e, f, g)
  rows_eq-true _ _ h = absurd (false≢true h)

mutual
  pub value_eq-refl : (v : Value) → value_eq v v ≡ true
  value_eq-refl (Number x) = int_eq-refl x
  value_eq-refl (Truth a) = bool_eq-refl a
  value_eq-refl (Pointer p) = eq-eqb p p refl
  value_eq-refl (ArrayOf d rows) = both_true (value_eq-refl d) (rows_eq-refl rows)
  value_eq-refl (RecordOf rows) = rows_eq-refl rows
  value_eq-refl (ClassOf cells d rows) = both_true (cells_eq-refl cells) (both_true (value_eq-refl d) (rows_eq-refl rows))
  value_eq-refl (AtomOf x) = int_eq-refl x
  value_eq-refl (PairOf a b) = both_true (value_eq-refl a) (value_eq-refl b)

  pub rows_eq-refl : (rows : Rows) → rows_eq rows rows ≡ true
  rows_eq-refl no_rows = refl
  rows_eq-refl (row i v rows) = both_true (int_eq-refl i) (both_true (value_eq-refl v) (rows_eq-refl rows))

-- ---- terms

type_from : (t u : TypeId) → t.0 ≡ u.0 → t ≡ u
type_from t u h = ap (λ n. record { 0 = n }) h

symbol_from : (x y : Symbol) → x.0 ≡ y.0 → x ≡ y
symbol_from x y h = ap (λ n. record { 0 = n }) h

pub sort_eq-true : (s t : Sort) → sort_eq s t ≡ true → s ≡ t
sort_eq-true sort.Int sort.Int h = refl
sort_eq-true sort.Bool sort.Bool h = refl
sort_eq-true sort.List sort.List h = refl
sort_eq-true (sort.Ptr t) (sort.Ptr u) h = ap sort.Ptr (type_from t u (eqb-true t.0 u.0 h))
sort_eq-true (sort.Whole t) (sort.Whole u) h = ap sort.Whole (type_from t u (eqb-true t.0 u.0 h))
sort_eq-true (sort.Class t) (sort.Class u) h = ap sort.Class (type_from t u (eqb-true t.0 u.0 h))
sort_eq-true _ _ h = absurd (false≢true h)

pub sort_eq-refl : (s : Sort) → sort_eq s s ≡ true
sort_eq-refl sort.Int = refl
sort_eq-refl sort.Bool = refl
sort_eq-refl sort.List = refl
sort_eq-refl (sort.Ptr t) = eq-eqb t.0 t.0 refl
sort_eq-refl (sort.Whole t) = eq-eqb t.0 t.0 refl
sort_eq-refl (sort.Class t) = eq-eqb t.0 t.0 refl

-- the parts of a variable
parts : (x y : Symbol) (s t : Sort) (n m : ℕ) → x.0 ≡ y.0 → s ≡ t → n ≡ m → Var x s n ≡ Var y t m
parts x y s t n m e f g = let h = symbol_from x y e in cc

start_parts : (x y : Symbol) (s t : Sort) → x.0 ≡ y.0 → s ≡ t → Start x s ≡ Start y t
start_parts x y s t e f = let h = symbol_from x y e in cc

class_parts : (t u : TypeId) (n m : ℕ) → t.0 ≡ u.0 → n ≡ m → ClassVar t n ≡ ClassVar u m
class_parts t u n m e f = let h = type_from t u e in cc

pub head_eq-true : (h k : Head) → head_eq h k ≡ true → h ≡ k
head_eq-true (Var x s n) (Var y t m) e =
    parts x y s t n m (eqb-true x.0 y.0 (left_true _ _ e)) (sort_eq-true s t (left_true _ _ (right_true (nat_eq x.0 y.0) _ e)))
    (eqb-true n m (right_true (sort_eq s t) _ (right_true (nat_eq x.0 y.0) _ e)))
head_eq-true (ClassVar t n) (ClassVar u m) e =
    class_parts t u n m (eqb-true t.0 u.0 (left_true _ _ e)) (eqb-true n m (right_true (nat_eq t.0 u.0) _ e))
head_eq-true (Start x s) (Start y t) e =
    start_parts x y s t (eqb-true x.0 y.0 (left_true _ _ e)) (sort_eq-true s t (right_true (nat_eq x.0 y.0) _ e))
head_eq-true (Num x) (Num y) e = ap Num (int_eq-true x y e)
head_eq-true (App f) (App g) e = ap App (symbol_from f g (eqb-true f.0 g.0 e))
head_eq-true Add Add e = refl
head_eq-true Sub Sub e = refl
head_eq-true Mul Mul e = refl
head_eq-true Div Div e = refl
head_eq-true Mod Mod e = refl
head_eq-true Eq Eq e = refl
head_eq-true Lt Lt e = refl
head_eq-true Le Le e = refl
head_eq-true Not Not e = refl
head_eq-true And And e = refl
head_eq-true Or Or e = refl
head_eq-true Implies Implies e = refl
head_eq-true Select Select e = refl
head_eq-true Store Store e = refl
head_eq-true (Field f) (Field g) e = ap Field (symbol_from f g (eqb-true f.0 g.0 e))
head_eq-true (Put f) (Put g) e = ap Put (symbol_from f g (eqb-true f.0 g.0 e))
head_eq-true Cell Cell e = refl
head_eq-true SetCell SetCell e = refl
head_eq-true Extend Extend e = refl
head_eq-true PointerTo PointerTo e = refl
head_eq-true Car Car e = refl
head_eq-true Cdr Cdr e = refl
head_eq-true Cons Cons e = refl
head_eq-true Atom Atom e = refl
head_eq-true (Nil t) (Nil u) e = ap Nil (type_from t u (eqb-true t.0 u.0 e))
head_eq-true True True e = refl
head_eq-true False False e = refl
head_eq-true _ _ e = absurd (false≢true e)

pub head_eq-refl : (h : Head) → head_eq h h ≡ true
head_eq-refl (Var x s n) = both_true (eq-eqb x.0 x.0 refl) (both_true (sort_eq-refl s) (eq-eqb n n refl))
head_eq-refl (ClassVar t n) = both_true (eq-eqb t.0 t.0 refl) (eq-eqb n n refl)
head_eq-refl (Start x s) = both_true (eq-eqb x.0 x.0 refl) (sort_eq-refl s)
head_eq-refl (Num x) = int_eq-refl x
head_eq-refl (App f) = eq-eqb f.0 f.0 refl
head_eq-refl (Field f) = eq-eqb f.0 f.0 refl
head_eq-refl (Put f) = eq-eqb f.0 f.0 refl
head_eq-refl (Nil t) = eq-eqb t.0 t.0 refl
head_eq-refl _ = refl

mutual
  pub term_eq-true : (t u : Term) → term_eq t u ≡ true → t ≡ u
  term_eq-true (term h ts) (term k us) e =
      let f = head_eq-true h k (left_true _ _ e) in
      let g = terms_eq-true ts us (right_true (head_eq h k) _ e) in
      cc (f, g)

  pub terms_eq-true : (ts us : Terms) → terms_eq ts us ≡ true → ts ≡ us
  terms_eq-true no_terms no_terms e = refl
  terms_eq-true (terms t ts) (terms u us) e =
      let f = term_eq-true t u (left_true _ _ e) in
      let g = terms_eq-true ts us (right_true (term_eq t u) _ e) in
      cc (f, g)
  terms_eq-true _ _ e = absurd (false≢true e)

mutual
  pub term_eq-refl : (t : Term) → term_eq t t ≡ true
  term_eq-refl (term h ts) = both_true (head_eq-refl h) (terms_eq-refl ts)

  pub terms_eq-refl : (ts : Terms) → terms_eq ts ts ≡ true
  terms_eq-refl no_terms = refl
  terms_eq-refl (terms t ts) = both_true (term_eq-refl t) (terms_eq-refl ts)
