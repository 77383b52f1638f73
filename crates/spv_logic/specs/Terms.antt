-- Terms as trees, and what a term is worth.
use Rattle.std.specs.Prelude.{ℕ, Bool, true, false, ◌&&◌, ◌||◌, not, List, [], ◌∷◌, ℤ, pos, ◌+ℤ◌, ◌-ℤ◌, ◌*ℤ◌, nat_eq}
use Rattle.std.specs.Int.RustNames.{int_lt, int_div, int_rem}
use Rattle.std.specs.Ordering.{int_eq}
use Rattle.std.specs.List.{list_any}
use Rattle.spv_logic.specs.declared.types.Sort.{Sort}
use Rattle.spv_logic.specs.declared.types.Sort.TheVariants as sort
use Rattle.spv_logic.specs.declared.operators.Head.{Head}
use Rattle.spv_logic.specs.declared.operators.Head.TheVariants.{Var, ClassVar, Start, Num, App, Add, Sub, Mul, Div, Mod, Eq, Lt, Le, Not, And, Or, Implies, Select, Store, Field, Put, Cell, SetCell, Extend, PointerTo, Car, Cdr, Cons, Atom, Nil, True, False}
use Rattle.spv_logic.specs.Values.{Value, Number, Truth, Pointer, ArrayOf, RecordOf, ClassOf, PairOf, value_eq, number_of, truth_of, pointer_of, default_in, rows_in, members_of, first_of_pair, second_of_pair, is_pair, row_at, put_row, set_row, with_member}

mutual
  -- a head over its arguments
  pub data Term : Type 0 where
    term : Head → Terms → Term

  pub data Terms : Type 0 where
    no_terms : Terms
    terms : Term → Terms → Terms

-- ---- sameness

abbrev pub sort_eq : Sort → Sort → Bool
sort_eq sort.Int sort.Int = true
sort_eq sort.Bool sort.Bool = true
sort_eq sort.List sort.List = true
sort_eq (sort.Ptr t) (sort.Ptr u) = nat_eq t.0 u.0
sort_eq (sort.Whole t) (sort.Whole u) = nat_eq t.0 u.0
sort_eq (sort.Class t) (sort.Class u) = nat_eq t.0 u.0
sort_eq _ _ = false

abbrev pub head_eq : Head → Head → Bool
head_eq (Var x s n) (Var y t m) = nat_eq x.0 y.0 && (sort_eq s t && nat_eq n m)
head_eq (ClassVar t n) (ClassVar u m) = nat_eq t.0 u.0 && nat_eq n m
head_eq (Start x s) (Start y t) = nat_eq x.0 y.0 && sort_eq s t
head_eq (Num x) (Num y) = int_eq x y
head_eq (App f) (App g) = nat_eq f.0 g.0
head_eq Add Add = true
head_eq Sub Sub = true
head_eq Mul Mul = true
head_eq Div Div = true
head_eq Mod Mod = true
head_eq Eq Eq = true
head_eq Lt Lt = true
head_eq Le Le = true
head_eq Not Not = true
head_eq And And = true
head_eq Or Or = true
head_eq Implies Implies = true
head_eq Select Select = true
head_eq Store Store = true
head_eq (Field f) (Field g) = nat_eq f.0 g.0
head_eq (Put f) (Put g) = nat_eq f.0 g.0
head_eq Cell Cell = true
head_eq SetCell SetCell = true
head_eq Extend Extend = true
head_eq PointerTo PointerTo = true
head_eq Car Car = true
head_eq Cdr Cdr = true
head_eq Cons Cons = true
head_eq Atom Atom = true
head_eq (Nil t) (Nil u) = nat_eq t.0 u.0
head_eq True True = true
head_eq False False = true
head_eq _ _ = false

abbrev mutual
  pub term_eq : Term → Term → Bool
  term_eq (term h ts) (term k us) = head_eq h k && terms_eq ts us

  pub terms_eq : Terms → Terms → Bool
  terms_eq no_terms no_terms = true
  terms_eq (terms t ts) (terms u us) = term_eq t u && terms_eq ts us
  terms_eq _ _ = false

-- ---- worth

-- the arguments of an operator; past the end, the number 0
abbrev pub first : List Value → Value
first [] = Number (pos 0)
first (v ∷ vs) = v

abbrev pub second : List Value → Value
second [] = Number (pos 0)
second (v ∷ vs) = first vs

abbrev pub third : List Value → Value
third [] = Number (pos 0)
third (v ∷ vs) = second vs

-- a relation, or an operator, on the first two numbers or truth values
abbrev pub numbers : (ℤ → ℤ → ℤ) → List Value → Value
numbers f vs = Number (f (number_of (first vs)) (number_of (second vs)))

abbrev pub compared : (ℤ → ℤ → Bool) → List Value → Value
compared f vs = Truth (f (number_of (first vs)) (number_of (second vs)))

abbrev pub truths : (Bool → Bool → Bool) → List Value → Value
truths f vs = Truth (f (truth_of (first vs)) (truth_of (second vs)))

abbrev pub store_in : Value → Value → Value → Value
store_in a i v = ArrayOf (default_in a) (put_row (rows_in a) (number_of i) v (default_in a))

-- a class with these members, whose content at a pointer is this one
abbrev pub class_with : List ℕ → Value → Value → Value → Value
class_with cells c p v = ClassOf cells (default_in c) (put_row (rows_in c) (pos (pointer_of p)) v (default_in c))

-- what a head is worth at its arguments' values, where `symbols` says what the declared symbols answer and `v` what the variables are
abbrev pub worth : (ℕ → List Value → Value) → (Head → Value) → Head → List Value → Value
worth symbols v (Var x s n) vs = v (Var x s n)
worth symbols v (ClassVar t n) vs = v (ClassVar t n)
worth symbols v (Start x s) vs = v (Start x s)
worth symbols v (Num z) vs = Number z
worth symbols v (App f) vs = symbols f.0 vs
worth symbols v Add vs = numbers ◌+ℤ◌ vs
worth symbols v Sub vs = numbers ◌-ℤ◌ vs
worth symbols v Mul vs = numbers ◌*ℤ◌ vs
worth symbols v Div vs = numbers int_div vs
worth symbols v Mod vs = numbers int_rem vs
worth symbols v Eq vs = Truth (value_eq (first vs) (second vs))
worth symbols v Lt vs = compared int_lt vs
worth symbols v Le vs = compared (λ a b. not (int_lt b a)) vs
worth symbols v Not vs = Truth (not (truth_of (first vs)))
worth symbols v And vs = truths ◌&&◌ vs
worth symbols v Or vs = truths ◌||◌ vs
worth symbols v Implies vs = truths (λ a b. not a || b) vs
worth symbols v Select vs = row_at (rows_in (first vs)) (number_of (second vs)) (default_in (first vs))
worth symbols v Store vs = store_in (first vs) (second vs) (third vs)
worth symbols v (Field f) vs = row_at (rows_in (first vs)) (pos f.0) (Number (pos 0))
worth symbols v (Put f) vs = RecordOf (set_row (rows_in (first vs)) (pos f.0) (second vs))
worth symbols v Cell vs = row_at (rows_in (first vs)) (pos (pointer_of (second vs))) (default_in (first vs))
worth symbols v SetCell vs = class_with (members_of (first vs)) (first vs) (second vs) (third vs)
worth symbols v Extend vs = class_with (with_member (members_of (first vs)) (pointer_of (second vs))) (first vs) (second vs) (third vs)
worth symbols v PointerTo vs = Truth (list_any (nat_eq (pointer_of (first vs))) (members_of (second vs)))
worth symbols v Car vs = first_of_pair (first vs)
worth symbols v Cdr vs = second_of_pair (first vs)
worth symbols v Cons vs = PairOf (first vs) (second vs)
worth symbols v Atom vs = Truth (not (is_pair (first vs)))
worth symbols v (Nil t) vs = Pointer 0
worth symbols v True vs = Truth true
worth symbols v False vs = Truth false

abbrev mutual
  -- what a term is worth
  pub eval : (ℕ → List Value → Value) → (Head → Value) → Term → Value
  eval symbols v (term h ts) = worth symbols v h (eval_all symbols v ts)

  pub eval_all : (ℕ → List Value → Value) → (Head → Value) → Terms → List Value
  eval_all symbols v no_terms = []
  eval_all symbols v (terms t ts) = eval symbols v t ∷ eval_all symbols v ts

-- ---- the heads of a term

abbrev mutual
  -- whether each head in a term passes a test
  pub heads_pass : (Head → Bool) → Term → Bool
  heads_pass test (term h ts) = test h && all_heads_pass test ts

  pub all_heads_pass : (Head → Bool) → Terms → Bool
  all_heads_pass test no_terms = true
  all_heads_pass test (terms t ts) = heads_pass test t && all_heads_pass test ts
