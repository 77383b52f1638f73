-- Facts about values that a reader may want to see said.
use Rattle.std.specs.Prelude.{◌≡◌, ◌≢◌, ℕ, suc, Bool, true, false, List, [], ◌∷◌, ℤ, pos, negsuc, Some, IsTrue, ◌↔◌}
use Rattle.spv_logic.specs.declared.types.Sort.{Sort}
use Rattle.spv_logic.specs.declared.types.Shape.{Shape}
use Rattle.spv_logic.specs.declared.types.Decl.{Decl}
use Rattle.spv_logic.specs.declared.operators.Head.{Head}
use Rattle.spv_logic.specs.declared.operators.Head.TheVariants.{Sub, Div, Mod, Select, Store, Cell, SetCell, Extend, PointerTo, Cons, Atom}
use Rattle.spv_logic.specs.Values.{Value, Number, Truth, Pointer, ArrayOf, AtomOf, no_rows, value_eq, members_of}
use Rattle.spv_logic.specs.Terms.{Term, worth, eval, term_eq}
use Rattle.spv_logic.specs.Shapes.{element_sort, content_sort, shapes_ok}
use Rattle.spv_logic.specs.Fits.{fits, default_of}
use Rattle.spv_logic.specs.Sorts.{declared, term_sort}
use Rattle.spv_logic.specs.Conditions.{Meaning, Valuation, Sequent, IsValuation, answers, declared_result, holds, follows}

-- what an operator gives, whatever symbols answer and variables are
abbrev pub Gives : Head → List Value → Value → Type 0
Gives head values result = (symbols : Meaning) (v : Valuation) → worth symbols v head values ≡ result

-- what a test of two numbers answers
abbrev pub Compares : Head → ℤ → ℤ → Bool → Type 0
Compares head a b answer = Gives head (Number a ∷ Number b ∷ []) (Truth answer)

-- what a connective of two truth values answers, where the first is this one, from the second
abbrev pub Connects : Head → Bool → (Bool → Bool) → Type 0
Connects head a answer = (b : Bool) → Gives head (Truth a ∷ Truth b ∷ []) (Truth (answer b))

-- 2 - 7 is -5
abbrev pub DifferenceTakesTheSecondAway : Type 0
DifferenceTakesTheSecondAway = Gives Sub (Number (pos 2) ∷ Number (pos 7) ∷ []) (Number (negsuc 4))

-- -7 DIV 2 is -3
abbrev pub QuotientTruncates : Type 0
QuotientTruncates = Gives Div (Number (negsuc 6) ∷ Number (pos 2) ∷ []) (Number (negsuc 2))

-- -7 MOD 2 is -1
abbrev pub RemainderHasTheDividendsSign : Type 0
RemainderHasTheDividendsSign = Gives Mod (Number (negsuc 6) ∷ Number (pos 2) ∷ []) (Number (negsuc 0))

-- with the divisor 0, DIV gives 0 and MOD the dividend
abbrev pub QuotientByZero : Type 0
QuotientByZero = (a : ℤ) → Gives Div (Number a ∷ Number (pos 0) ∷ []) (Number (pos 0))

abbrev pub RemainderByZero : Type 0
RemainderByZero = (a : ℤ) → Gives Mod (Number a ∷ Number (pos 0) ∷ []) (Number a)

-- an element that is the default has no row
abbrev pub DefaultHasNoRow : Type 0
DefaultHasNoRow = (d : Value) (i : ℤ) → Gives Store (ArrayOf d no_rows ∷ Number i ∷ d ∷ []) (ArrayOf d no_rows)

-- the element that was stored is read at its index
abbrev pub StoredElement : Type 0
StoredElement =
    (shapes : List Shape) (s e : Sort) → element_sort shapes s ≡ Some e → (a w : Value) → IsTrue (fits shapes a s) → (i : ℤ) (symbols : Meaning) (v : Valuation)
    → worth symbols v Select (worth symbols v Store (a ∷ Number i ∷ w ∷ []) ∷ Number i ∷ []) ≡ w

-- at every other index it is as before
abbrev pub OtherElements : Type 0
OtherElements =
    (a w : Value) (i j : ℤ) → j ≢ i → (symbols : Meaning) (v : Valuation)
    → worth symbols v Select (worth symbols v Store (a ∷ Number i ∷ w ∷ []) ∷ Number j ∷ []) ≡ worth symbols v Select (a ∷ Number j ∷ [])

-- the new content is read at its pointer
abbrev pub ChangedContent : Head → Type 0
ChangedContent head =
    (shapes : List Shape) (s e : Sort) → content_sort shapes s ≡ Some e → (c w : Value) → IsTrue (fits shapes c s) → (p : ℕ) (symbols : Meaning) (v : Valuation)
    → worth symbols v Cell (worth symbols v head (c ∷ Pointer p ∷ w ∷ []) ∷ Pointer p ∷ []) ≡ w

-- at every other pointer it is as before
abbrev pub OtherContents : Head → Type 0
OtherContents head =
    (c w : Value) (p q : ℕ) → q ≢ p → (symbols : Meaning) (v : Valuation)
    → worth symbols v Cell (worth symbols v head (c ∷ Pointer p ∷ w ∷ []) ∷ Pointer q ∷ []) ≡ worth symbols v Cell (c ∷ Pointer q ∷ [])

-- a new content leaves the members
abbrev pub SetCellLeavesMembers : Type 0
SetCellLeavesMembers = (c p w : Value) (symbols : Meaning) (v : Valuation) → members_of (worth symbols v SetCell (c ∷ p ∷ w ∷ [])) ≡ members_of c

-- NIL becomes no member
abbrev pub ExtendAtNilAddsNone : Type 0
ExtendAtNilAddsNone = (c w : Value) (symbols : Meaning) (v : Valuation) → members_of (worth symbols v Extend (c ∷ Pointer 0 ∷ w ∷ [])) ≡ members_of c

-- every other pointer becomes a member
abbrev pub ExtendAddsItsPointer : Type 0
ExtendAddsItsPointer =
    (c w : Value) (p : ℕ) (symbols : Meaning) (v : Valuation)
    → let extended = worth symbols v Extend (c ∷ Pointer (suc p) ∷ w ∷ []) in worth symbols v PointerTo (Pointer (suc p) ∷ extended ∷ []) ≡ Truth true

-- what a head gives of the pair of two lists
abbrev pub GivesOfPair : Head → (Value → Value → Value) → Type 0
GivesOfPair head part =
    (a b : Value) (symbols : Meaning) (v : Valuation) → worth symbols v head (worth symbols v Cons (a ∷ b ∷ []) ∷ []) ≡ part a b

-- an atom is one
abbrev pub AtomIsOne : Type 0
AtomIsOne = (z : ℤ) → Gives Atom (AtomOf z ∷ []) (Truth true)

-- an atom's parts are the default atom
abbrev pub PartsOfAnAtom : Head → Type 0
PartsOfAnAtom head = (z : ℤ) → Gives head (AtomOf z ∷ []) (AtomOf (pos 0))

-- an answer of another sort counts as the default
abbrev pub OtherSortCountsAsDefault : Type 0
OtherSortCountsAsDefault =
    (shapes : List Shape) (decls : List Decl) (world : Meaning) (symbol : ℕ) (values : List Value)
    → let s = declared_result (declared decls symbol) in fits shapes (world symbol values) s ≡ false → answers shapes decls world symbol values ≡ default_of shapes s

-- without hypotheses a sequent is true where its goal is
abbrev pub GoalAlone : Type 0
GoalAlone =
    (symbols : Meaning) (v : Valuation) (goal : Term) → follows symbols v (record { given = []; goal = goal }) ≡ holds symbols v goal

-- a true hypothesis may be left out
abbrev pub TrueHypothesis : Type 0
TrueHypothesis =
    (symbols : Meaning) (v : Valuation) (h : Term) (s : Sequent) → holds symbols v h ≡ true → follows symbols v (record { given = h ∷ s.given; goal = s.goal }) ≡ follows symbols v s

-- from a false hypothesis everything follows
abbrev pub FalseHypothesis : Type 0
FalseHypothesis =
    (symbols : Meaning) (v : Valuation) (h : Term) (s : Sequent) → holds symbols v h ≡ false → follows symbols v (record { given = h ∷ s.given; goal = s.goal }) ≡ true

-- the test of sameness is true of equal values alone
abbrev pub ValueTestDecides : Type 0
ValueTestDecides = (v w : Value) → IsTrue (value_eq v w) ↔ (v ≡ w)

abbrev pub TermTestDecides : Type 0
TermTestDecides = (t u : Term) → IsTrue (term_eq t u) ↔ (t ≡ u)

-- each sort has its default among its values
abbrev pub DefaultsFit : Type 0
DefaultsFit = (shapes : List Shape) → IsTrue (shapes_ok shapes) → (s : Sort) → IsTrue (fits shapes (default_of shapes s) s)

-- there is a valuation: what is said of every one is not said of none
abbrev pub SomeValuation : Type 0
SomeValuation = (shapes : List Shape) → IsTrue (shapes_ok shapes) → (v : Valuation) × IsValuation shapes v

-- in every world, under every valuation, a well sorted term is worth a value of its sort
abbrev pub TermsHaveTheirSort : Type 0
TermsHaveTheirSort =
    (shapes : List Shape) → IsTrue (shapes_ok shapes) → (decls : List Decl) (world : Meaning) (v : Valuation) → IsValuation shapes v
    → (t : Term) (s : Sort) → term_sort shapes decls t ≡ Some s → IsTrue (fits shapes (eval (answers shapes decls world) v t) s)
