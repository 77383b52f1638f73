-- Small rule files for one program, and what is told of each.
use Rattle.std.specs.Prelude.{◌≡◌, ℕ, pos, List, [], ◌∷◌, codes}
use Rattle.spv_logic.specs.declared.names.names.Symbol.{Symbol}
use Rattle.spv_logic.specs.declared.types.Sort.TheVariants as sort
use Rattle.spv_logic.specs.declared.operators.Head.{Head}
use Rattle.spv_logic.specs.declared.operators.Head.TheVariants as head
use Rattle.spv_logic.specs.Terms.{Term}
use Rattle.spv_program.specs.Terms.{alone, unary, binary, numeral}
use Rattle.spv_proof_rules.specs.Rules.{Rule}
use Rattle.spv_worked.specs.rule_texts.Told.{Told, told, said, undeclared, twice, wrong_type, wrong_count, unbound}

-- its names in order: A C R N INTEGER P X F G H Q
abbrev pub program : List ℕ
program = codes "PROGRAM a; CONST c = 3; TYPE r = RECORD n: INTEGER END; p = ^r; VAR x: INTEGER; DECLARE f(INTEGER): INTEGER; g(INTEGER): INTEGER; h(p): p; PROCEDURE q; BEGIN END; BEGIN END."

abbrev pub AllTold : List (List ℕ × Told) → Type 0
AllTold [] = Unit {0}
AllTold (t ∷ others) = (told program t.0 ≡ t.1) × AllTold others

-- ---- terms

abbrev symbol : ℕ → Symbol
symbol n = record { 0 = n }

-- a number's variable
abbrev of_number : ℕ → Head
of_number x = head.Var (symbol x) sort.Int 0

-- a pointer's variable; the records have the type 2
abbrev of_pointer : ℕ → Head
of_pointer x = head.Var (symbol x) (sort.Ptr (record { 0 = 2 })) 0

abbrev f_of : Term → Term
f_of t = unary (head.App (symbol 7)) t

abbrev g_of : Term → Term
g_of t = unary (head.App (symbol 8)) t

abbrev h_of : Term → Term
h_of t = unary (head.App (symbol 9)) t

abbrev a_rule : List Head → Term → Term → Rule
a_rule variables trigger formula = record { replaced = variables; trigger = trigger; formula = formula }

abbrev pub zero_one : Rule
zero_one = a_rule [] (f_of (numeral (pos 0))) (binary head.Eq (f_of (numeral (pos 0))) (numeral (pos 1)))

abbrev pub number_before : Rule
number_before =
    a_rule (of_number 11 ∷ []) (f_of (alone (of_number 11)))
    (binary head.Implies (binary head.Lt (numeral (pos 0)) (alone (of_number 11)))
    (binary head.Eq (f_of (alone (of_number 11)))
    (binary head.Mul (alone (of_number 11)) (f_of (binary head.Sub (alone (of_number 11)) (numeral (pos 1)))))))

-- ---- rules that are read

abbrev pub Read : Type 0
Read = AllTold (
    (codes "", said [])
    ∷ (codes "VAR m: INTEGER;", said [])
    ∷ (codes "REPLACE f(0) BY 1; REPLACE f(n) BY 1;", undeclared 1 (codes "N"))
    ∷ (
      codes "VAR m: INTEGER; REPLACE f(0) BY 1; REPLACE f(m) BY m * f(m - 1) WHERE m > 0;",
      said (zero_one ∷ number_before ∷ []),
    )
    -- NIL takes the other side's type
    ∷ (
      codes "VAR y: p; REPLACE h(y) BY NIL;",
      said (a_rule (of_pointer 11 ∷ []) (h_of (alone (of_pointer 11)))
          (binary head.Eq (h_of (alone (of_pointer 11))) (alone (head.Nil (record { 0 = 2 })))) ∷ []),
    )
    -- a variable of the program is not seen, and its name may be taken; so may that of a function that is known from the start
    ∷ (
      codes "VAR x: INTEGER; INFER f(x) = c;",
      said (a_rule (of_number 6 ∷ []) (f_of (alone (of_number 6))) (binary head.Eq (f_of (alone (of_number 6))) (numeral (pos 3))) ∷ []),
    )
    ∷ (
      codes "VAR car: INTEGER; INFER f(car) = car;",
      said (a_rule (of_number 11 ∷ []) (f_of (alone (of_number 11))) (binary head.Eq (f_of (alone (of_number 11))) (alone (of_number 11))) ∷ []),
    )
    ∷ [])

-- ---- triggers

abbrev pub Triggers : Type 0
Triggers = AllTold ((
  codes "INFER f(1) > g(2);",
  said (a_rule [] (f_of (numeral (pos 1))) (binary head.Lt (g_of (numeral (pos 2))) (f_of (numeral (pos 1)))) ∷ []),
)
    ∷ (
      codes "VAR m, k: INTEGER; INFER g(f(m + k) + m) = 0;",
      said (a_rule (of_number 11 ∷ of_number 12 ∷ [])
          (g_of (binary head.Add (f_of (binary head.Add (alone (of_number 11)) (alone (of_number 12)))) (alone (of_number 11))))
          (binary head.Eq (g_of (binary head.Add (f_of (binary head.Add (alone (of_number 11)) (alone (of_number 12)))) (alone (of_number 11))))
          (numeral (pos 0))) ∷ []),
    )
    -- the right side has no trigger
    ∷ (codes "REPLACE 1 BY f(1);", wrong_type 1)
    ∷ (codes "INFER 1 = 1;", wrong_type 1)
    ∷ (codes "VAR y: p; REPLACE NIL BY h(y);", wrong_type 1)
    ∷ (codes "INFER TRUE FROM f(1) = 1;", wrong_type 1)
    ∷ [])

-- ---- faults of names and types

abbrev pub Refused : Type 0
Refused = AllTold (
    (codes "VAR c: INTEGER;", twice 1 (codes "C"))
    ∷ (codes "VAR r: INTEGER;", twice 1 (codes "R"))
    ∷ (codes "VAR f: INTEGER;", twice 1 (codes "F"))
    ∷ (codes "VAR integer: BOOLEAN;", twice 1 (codes "INTEGER"))
    ∷ (codes "VAR m, m: BOOLEAN;", twice 1 (codes "M"))
    ∷ (codes "VAR m: BOOLEAN; m: INTEGER;", twice 1 (codes "M"))
    ∷ (codes "VAR m: m;", undeclared 1 (codes "M"))
    ∷ (codes "VAR m: INTEGER; k: m;", wrong_type 1)
    ∷ (codes "VAR m: c;", wrong_type 1)
    ∷ (codes "VAR m: #zz;", undeclared 1 (codes "ZZ"))
    ∷ (codes "INFER f(x) = 1;", undeclared 1 (codes "X"))
    ∷ (codes "INFER f(q) = 1;", undeclared 1 (codes "Q"))
    ∷ (codes "INFER f(TRUE) = 1;", wrong_type 1)
    ∷ (codes "INFER f(1, 2) = 1;", wrong_count 1)
    ∷ (codes "INFER f(1);", wrong_type 1)
    ∷ (codes "REPLACE f(1) BY TRUE;", wrong_type 1)
    ∷ (codes "REPLACE f(1) BY NIL;", wrong_type 1)
    ∷ (codes "REPLACE f(1) BY 1 WHERE 1;", wrong_type 1)
    -- no `#` and no `^`; a class is a variable's sort alone
    ∷ (codes "VAR y: p; INFER f(y^.n) = 1;", wrong_type 1)
    ∷ (codes "VAR y: p; INFER h(y) = y FROM POINTERTO(y, #r);", wrong_type 1)
    ∷ (codes "VAR y: p; INFER h(y) = y FROM POINTERTO(y, #zz);", undeclared 1 (codes "ZZ"))
    ∷ [])

-- ---- variables that are not in the trigger

abbrev pub Unbound : Type 0
Unbound = AllTold (
    (codes "VAR m, k: INTEGER; INFER f(m) = k;", unbound 1 (codes "K"))
    ∷ (codes "VAR m, k, i: INTEGER; INFER i + f(m) = k;", unbound 1 (codes "I"))
    ∷ (codes "VAR m: INTEGER; REPLACE f(0) BY m;", unbound 1 (codes "M"))
    ∷ (codes "VAR l: LIST; INFER f(0) = 1 FROM ATOM(l);", unbound 1 (codes "L"))
    ∷ (codes "VAR m: #r; y: p; INFER h(y) = y FROM POINTERTO(y, m);", unbound 1 (codes "M"))
    -- after all other faults of its rule, and before those of the next
    ∷ (codes "VAR m: INTEGER; INFER f(0) = m FROM zz;", undeclared 1 (codes "ZZ"))
    ∷ (codes "VAR m: INTEGER; INFER f(0) = m; INFER zz;", unbound 1 (codes "M"))
    ∷ [])
