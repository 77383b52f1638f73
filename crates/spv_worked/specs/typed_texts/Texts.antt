-- Small texts, and what the walk tells of each.
use Rattle.std.specs.Prelude.{◌≡◌, ℕ, List, [], ◌∷◌, pos, codes}
use Rattle.spv_worked.specs.typed_texts.Told.{Told, told, typed, undeclared, twice, label_twice, wrong_type, wrong_count, nested, is_parameter, counts}

abbrev pub AllTold : List (List ℕ × Told) → Type 0
AllTold [] = Unit {0}
AllTold (t ∷ others) = (told t.0 ≡ t.1) × AllTold others

-- one text for each fault
abbrev pub EachFault : Type 0
EachFault = AllTold (
    (codes "PROGRAM a; BEGIN x := 1 END.", undeclared 1 (codes "X"))
    ∷ (codes "PROGRAM a; VAR x, X: INTEGER; BEGIN  END.", twice 1 (codes "X"))
    ∷ (codes "PROGRAM a; VAR x: INTEGER; BEGIN CASE x OF 1: ; 1: END END.", label_twice 1 (pos 1))
    ∷ (codes "PROGRAM a; VAR x: INTEGER; BEGIN x := TRUE END.", wrong_type 1)
    ∷ (codes "PROGRAM a; PROCEDURE p(n: INTEGER); BEGIN END; BEGIN p END.", wrong_count 1)
    ∷ (codes "PROGRAM a; PROCEDURE p; PROCEDURE q; BEGIN END; BEGIN END; BEGIN  END.", nested 1 (codes "Q"))
    ∷ (codes "PROGRAM a; PROCEDURE p(PROCEDURE q); BEGIN END; BEGIN  END.", is_parameter 1 (codes "Q"))
    ∷ (codes "PROGRAM a; VAR i: INTEGER; BEGIN FOR i := 1 TO 2 DO i := 1 END.", counts 1 (codes "I"))
    ∷ [])

-- which names may be declared, and what they hide
abbrev pub Names : Type 0
Names = AllTold (
    (codes "PROGRAM a; CONST c = 1; TYPE t = 0..c; VAR x: t; DECLARE f(t): BOOLEAN; BEGIN x := c END.", typed)
    ∷ (codes "PROGRAM a; CONST c = 1; VAR c: INTEGER; BEGIN  END.", twice 1 (codes "C"))
    ∷ (codes "PROGRAM a; VAR integer: BOOLEAN; BEGIN  END.", twice 1 (codes "INTEGER"))
    ∷ (codes "PROGRAM a; TYPE list = INTEGER; BEGIN  END.", twice 1 (codes "LIST"))
    ∷ (codes "PROGRAM a; DECLARE car: INTEGER; BEGIN  END.", twice 1 (codes "CAR"))
    ∷ (codes "PROGRAM a; VAR car: INTEGER; BEGIN car := 1 END.", typed)
    ∷ (codes "PROGRAM a; PROCEDURE store; BEGIN END; BEGIN  END.", twice 1 (codes "STORE"))
    ∷ (codes "PROGRAM a; VAR x: INTEGER; PROCEDURE p(x: BOOLEAN); BEGIN x := TRUE END; BEGIN x := 1 END.", typed)
    ∷ (codes "PROGRAM a; PROCEDURE p(p: INTEGER); BEGIN END; BEGIN  END.", twice 1 (codes "P"))
    ∷ (codes "PROGRAM a; VAR x: INTEGER; PROCEDURE p(x: INTEGER); GLOBAL (x); BEGIN END; BEGIN  END.", twice 1 (codes "X"))
    ∷ (codes "PROGRAM a; PROCEDURE p; VAR x: INTEGER; BEGIN x := 1 END; BEGIN x := 1 END.", undeclared 1 (codes "X"))
    ∷ (codes "PROGRAM a; VAR x: x; BEGIN  END.", undeclared 1 (codes "X"))
    ∷ (codes "PROGRAM a; TYPE t = INTEGER; PROCEDURE p(t: t); BEGIN t := 1 END; BEGIN  END.", typed)
    ∷ (codes "PROGRAM a; PROCEDURE p(n: INTEGER); CONST n = 1; BEGIN END; BEGIN  END.", twice 1 (codes "N"))
    ∷ (codes "PROGRAM a; CONST c = -1; d = c; e = -d; VAR x: d..e; BEGIN x := e END.", typed)
    ∷ [])

-- which types there are, and which are one
abbrev pub Types : Type 0
Types = AllTold (
    (codes "PROGRAM a; VAR x: 5..3; BEGIN  END.", wrong_type 1)
    ∷ (codes "PROGRAM a; VAR x: 3..3; BEGIN x := 3 END.", typed)
    ∷ (codes "PROGRAM a; VAR x: ARRAY [INTEGER] OF INTEGER; BEGIN  END.", wrong_type 1)
    ∷ (codes "PROGRAM a; VAR x: ARRAY [INTEGER] OF zz; BEGIN  END.", undeclared 1 (codes "ZZ"))
    ∷ (codes "PROGRAM a; VAR x: ARRAY [1..2, 3..4] OF BOOLEAN; y: BOOLEAN; BEGIN y := x[1, 3]; y := x[1][3] END.", typed)
    ∷ (codes "PROGRAM a; VAR x: ARRAY [1..2] OF BOOLEAN; y: BOOLEAN; BEGIN y := x[1, 3] END.", wrong_count 1)
    ∷ (codes "PROGRAM a; VAR x: ARRAY [1..2] OF BOOLEAN; y: BOOLEAN; BEGIN y := x[1][3] END.", wrong_type 1)
    ∷ (codes "PROGRAM a; VAR x: INTEGER; BEGIN x := x[1] END.", wrong_type 1)
    ∷ (codes "PROGRAM a; VAR r: RECORD f: INTEGER; f: BOOLEAN END; BEGIN  END.", twice 1 (codes "F"))
    ∷ (codes "PROGRAM a; VAR r: RECORD f, g: INTEGER END; BEGIN r.f := r.g END.", typed)
    ∷ (codes "PROGRAM a; VAR r: RECORD f: INTEGER END; BEGIN r.h := 1 END.", undeclared 1 (codes "H"))
    ∷ (codes "PROGRAM a; VAR r: RECORD integer: INTEGER END; BEGIN r.integer := 1 END.", typed)
    ∷ (codes "PROGRAM a; TYPE p = ^t; t = RECORD next: p END; VAR x, y: ^t; BEGIN x := y; x^.next := y END.", typed)
    ∷ (codes "PROGRAM a; TYPE p = ^t; q = ^u; t = RECORD n: INTEGER END; u = t; VAR x: p; y: q; BEGIN x := y END.", typed)
    ∷ (codes "PROGRAM a; TYPE p = ^t; q = ^u; t = RECORD n: INTEGER END; u = RECORD n: INTEGER END; VAR x: p; y: q; BEGIN x := y END.", wrong_type 1)
    ∷ (codes "PROGRAM a; TYPE p = ^q; q = ^p; VAR x: p; y: q; BEGIN x := y END.", wrong_type 1)
    ∷ (codes "PROGRAM a; TYPE p = ^t; q = ^u; t = RECORD n: INTEGER END; u = t; VAR x: ^p; y: ^q; BEGIN x := y END.", typed)
    ∷ (codes "PROGRAM a; VAR x: ^INTEGER; BEGIN  END.", wrong_type 1)
    ∷ (codes "PROGRAM a; TYPE i = INTEGER; VAR x: ^i; BEGIN x^ := 1 END.", typed)
    ∷ (codes "PROGRAM a; TYPE p = ^zz; BEGIN  END.", undeclared 1 (codes "ZZ"))
    ∷ (codes "PROGRAM a; TYPE t = RECORD f: t END; BEGIN  END.", undeclared 1 (codes "T"))
    ∷ (codes "PROGRAM a; VAR x: LIST; BEGIN  END.", wrong_type 1)
    ∷ (codes "PROGRAM a; DECLARE f(LIST): LIST; BEGIN  END.", typed)
    ∷ (codes "PROGRAM a; TYPE s = ARRAY [1..2] OF INTEGER; VAR x: s; y: ARRAY [1..2] OF INTEGER; BEGIN x := y END.", wrong_type 1)
    ∷ (codes "PROGRAM a; TYPE s = ARRAY [1..2] OF INTEGER; r = s; VAR x: s; y: r; BEGIN x := y END.", typed)
    ∷ [])

-- what operators and statements take
abbrev pub Expressions : Type 0
Expressions = AllTold (
    (codes "PROGRAM a; VAR x: 1..9; y: INTEGER; BEGIN x := y; y := x + 1; y := -x; y := +y END.", typed)
    ∷ (codes "PROGRAM a; VAR b: BOOLEAN; BEGIN b := -b END.", wrong_type 1)
    ∷ (codes "PROGRAM a; VAR b: BOOLEAN; x: INTEGER; BEGIN b := (x < 1) AND NOT b OR (x = 2) END.", typed)
    ∷ (codes "PROGRAM a; VAR b: BOOLEAN; x: INTEGER; BEGIN b := x AND b END.", wrong_type 1)
    ∷ (codes "PROGRAM a; VAR b: BOOLEAN; BEGIN b := b < TRUE END.", wrong_type 1)
    ∷ (codes "PROGRAM a; VAR b: BOOLEAN; BEGIN b := b = TRUE END.", typed)
    ∷ (codes "PROGRAM a; VAR b: BOOLEAN; BEGIN b := b -> b END.", wrong_type 1)
    ∷ (codes "PROGRAM a; VAR r, s: RECORD f: INTEGER END; b: BOOLEAN; BEGIN b := r = s END.", wrong_type 1)
    ∷ (codes "PROGRAM a; TYPE t = RECORD f: INTEGER END; VAR p: ^t; b: BOOLEAN; BEGIN b := p = NIL; b := NIL <> p; p := NIL; p := (NIL) END.", typed)
    ∷ (codes "PROGRAM a; VAR b: BOOLEAN; BEGIN b := NIL = NIL END.", wrong_type 1)
    ∷ (codes "PROGRAM a; VAR x: INTEGER; BEGIN x := NIL END.", wrong_type 1)
    ∷ (codes "PROGRAM a; VAR x: INTEGER; BEGIN x := 1 + NIL END.", wrong_type 1)
    ∷ (codes "PROGRAM a; VAR x: INTEGER; BEGIN IF x THEN END.", wrong_type 1)
    ∷ (codes "PROGRAM a; VAR x: INTEGER; BEGIN WHILE x = 1 DO x := 2 END.", typed)
    ∷ (codes "PROGRAM a; VAR b: BOOLEAN; BEGIN CASE b OF 1: END END.", wrong_type 1)
    ∷ (codes "PROGRAM a; CONST c = 2; VAR x: INTEGER; BEGIN CASE x OF 1, c: x := 1; -c: END END.", typed)
    ∷ (codes "PROGRAM a; VAR x: INTEGER; BEGIN CASE x OF x: END END.", wrong_type 1)
    ∷ (codes "PROGRAM a; CONST c = 1; BEGIN c := 2 END.", wrong_type 1)
    ∷ (codes "PROGRAM a; TYPE t = RECORD f: INTEGER END; VAR p: ^t; BEGIN NEW(p); p^.f := 1 END.", typed)
    ∷ (codes "PROGRAM a; VAR x: INTEGER; BEGIN NEW(x) END.", wrong_type 1)
    ∷ (codes "PROGRAM a; VAR x: INTEGER; BEGIN x^ := 1 END.", wrong_type 1)
    ∷ (codes "PROGRAM a; VAR x: INTEGER; DECLARE f(INTEGER): INTEGER; BEGIN x := f(x) END.", wrong_type 1)
    ∷ (codes "PROGRAM a; VAR x: INTEGER; DECLARE f(INTEGER): INTEGER; BEGIN x := f END.", wrong_count 1)
    ∷ (codes "PROGRAM a; VAR x: INTEGER; BEGIN x := car END.", wrong_count 1)
    ∷ (codes "PROGRAM a; VAR x: INTEGER; BEGIN x := car(y) END.", undeclared 1 (codes "Y"))
    ∷ (codes "PROGRAM a; VAR x: INTEGER; BEGIN x := car(x) END.", wrong_type 1)
    ∷ [])

-- calls of procedures and functions
abbrev pub Calls : Type 0
Calls = AllTold (
    (codes "PROGRAM a; VAR x: INTEGER; PROCEDURE p(VAR y: INTEGER); BEGIN y := 1 END; BEGIN p(x) END.", typed)
    ∷ (codes "PROGRAM a; VAR x: INTEGER; PROCEDURE p(VAR y: INTEGER); BEGIN y := 1 END; BEGIN p(x + 1) END.", wrong_type 1)
    ∷ (codes "PROGRAM a; VAR x: INTEGER; PROCEDURE p(VAR y: INTEGER); BEGIN y := 1 END; BEGIN p((x)) END.", wrong_type 1)
    ∷ (codes "PROGRAM a; VAR x: 1..9; PROCEDURE p(VAR y: INTEGER); BEGIN y := 1 END; BEGIN p(x) END.", wrong_type 1)
    ∷ (codes "PROGRAM a; TYPE s = 1..9; VAR x: 1..9; PROCEDURE p(VAR y: s); BEGIN y := 1 END; BEGIN p(x) END.", typed)
    ∷ (codes "PROGRAM a; VAR x: 1..9; PROCEDURE p(y: INTEGER); BEGIN END; BEGIN p(x); p(3) END.", typed)
    ∷ (codes "PROGRAM a; PROCEDURE p(y: BOOLEAN); BEGIN END; BEGIN p(3) END.", wrong_type 1)
    ∷ (codes "PROGRAM a; PROCEDURE p(y: BOOLEAN); BEGIN END; BEGIN p(3, z) END.", undeclared 1 (codes "Z"))
    ∷ (codes "PROGRAM a; PROCEDURE p(y: BOOLEAN); BEGIN END; BEGIN p(3, 4) END.", wrong_count 1)
    ∷ (codes "PROGRAM a; BEGIN q(u) END.", undeclared 1 (codes "Q"))
    ∷ (codes "PROGRAM a; VAR x: INTEGER; PROCEDURE p; BEGIN END; BEGIN x := p END.", wrong_type 1)
    ∷ (codes "PROGRAM a; FUNCTION f: INTEGER; BEGIN f := 1 END; BEGIN f END.", wrong_type 1)
    ∷ (codes "PROGRAM a; VAR x: INTEGER; FUNCTION f: INTEGER; BEGIN f := 1 END; BEGIN x := f + f END.", typed)
    ∷ (codes "PROGRAM a; VAR x: INTEGER; FUNCTION f(n: INTEGER): INTEGER; BEGIN f := 1; IF n > 0 THEN f := f(n - 1) END; BEGIN x := f(2) END.", typed)
    ∷ (codes "PROGRAM a; FUNCTION f: INTEGER; BEGIN f := 1 END; BEGIN f := 2 END.", wrong_type 1)
    ∷ (codes "PROGRAM a; FUNCTION f; BEGIN END; BEGIN  END.", wrong_type 1)
    ∷ (codes "PROGRAM a; TYPE r = RECORD n: INTEGER END; FUNCTION f: r; BEGIN END; BEGIN  END.", wrong_type 1)
    ∷ (codes "PROGRAM a; TYPE r = RECORD n: INTEGER END; p = ^r; VAR x: INTEGER; FUNCTION f: p; BEGIN f := NIL END; BEGIN x := f^.n END.", typed)
    ∷ (codes "PROGRAM a; TYPE r = RECORD n: INTEGER END; p = ^r; FUNCTION f: p; BEGIN f^.n := 1 END; BEGIN  END.", wrong_type 1)
    ∷ (codes "PROGRAM a; TYPE r = RECORD n: INTEGER END; p = ^r; PROCEDURE q(x: p); BEGIN END; BEGIN q(NIL) END.", typed)
    ∷ [])

-- headings, FORWARD, GLOBAL and INITIAL
abbrev pub Routines : Type 0
Routines = AllTold (
    (codes "PROGRAM a; PROCEDURE p; FORWARD; PROCEDURE q; BEGIN p END; PROCEDURE p; BEGIN q END; BEGIN p END.", typed)
    ∷ (codes "PROGRAM a; PROCEDURE p; FORWARD; BEGIN  END.", undeclared 1 (codes "P"))
    ∷ (codes "PROGRAM a; PROCEDURE p; FORWARD; PROCEDURE p(n: INTEGER); BEGIN END; BEGIN  END.", twice 1 (codes "P"))
    ∷ (codes "PROGRAM a; PROCEDURE p; FORWARD; FUNCTION p; BEGIN END; BEGIN  END.", twice 1 (codes "P"))
    ∷ (codes "PROGRAM a; PROCEDURE p; FORWARD; PROCEDURE p; FORWARD; BEGIN  END.", twice 1 (codes "P"))
    ∷ (codes "PROGRAM a; PROCEDURE p; BEGIN END; PROCEDURE p; BEGIN END; BEGIN  END.", twice 1 (codes "P"))
    ∷ (codes "PROGRAM a; PROCEDURE p(n: INTEGER); FORWARD; PROCEDURE p; VAR n: INTEGER; BEGIN END; BEGIN  END.", twice 1 (codes "N"))
    ∷ (codes "PROGRAM a; VAR x: INTEGER; PROCEDURE p; GLOBAL (x, x); BEGIN END; BEGIN  END.", twice 1 (codes "X"))
    ∷ (codes "PROGRAM a; VAR x: INTEGER; PROCEDURE p; GLOBAL (x; VAR x); BEGIN END; BEGIN  END.", twice 1 (codes "X"))
    ∷ (codes "PROGRAM a; TYPE t = INTEGER; u = t; PROCEDURE p; GLOBAL (#t, #u); BEGIN END; BEGIN  END.", twice 1 (codes "U"))
    ∷ (codes "PROGRAM a; PROCEDURE p; GLOBAL (x); BEGIN END; BEGIN  END.", undeclared 1 (codes "X"))
    ∷ (codes "PROGRAM a; CONST c = 1; PROCEDURE p; GLOBAL (c); BEGIN END; BEGIN  END.", wrong_type 1)
    ∷ (codes "PROGRAM a; PROCEDURE p; GLOBAL (#integer); BEGIN END; BEGIN  END.", typed)
    ∷ (codes "PROGRAM a; VAR x: INTEGER; PROCEDURE p; GLOBAL (VAR x); INITIAL x = x0; EXIT x = x0 + 1; BEGIN x := x + 1 END; BEGIN  END.", typed)
    ∷ (codes "PROGRAM a; VAR x: INTEGER; PROCEDURE p; GLOBAL (x); INITIAL x = x0; BEGIN END; BEGIN  END.", wrong_type 1)
    ∷ (codes "PROGRAM a; PROCEDURE p(VAR n: INTEGER); INITIAL n = n0; EXIT n = n0; BEGIN END; BEGIN  END.", typed)
    ∷ (codes "PROGRAM a; PROCEDURE p(n: INTEGER); INITIAL n = n0; BEGIN END; BEGIN  END.", wrong_type 1)
    ∷ (codes "PROGRAM a; PROCEDURE p(VAR n: INTEGER); INITIAL n = n0; ENTRY n = n0; BEGIN END; BEGIN  END.", undeclared 1 (codes "N0"))
    ∷ (codes "PROGRAM a; PROCEDURE p(VAR n: INTEGER); INITIAL n = n0; BEGIN n := n0 END; BEGIN  END.", wrong_type 1)
    ∷ (codes "PROGRAM a; PROCEDURE p(VAR n: INTEGER); INITIAL n = n0; BEGIN ASSERT n = n0 END; BEGIN  END.", typed)
    ∷ (codes "PROGRAM a; PROCEDURE p(VAR n: INTEGER); INITIAL n = n; BEGIN END; BEGIN  END.", twice 1 (codes "N"))
    ∷ (codes "PROGRAM a; VAR x: INTEGER; PROCEDURE p; VAR y: INTEGER; BEGIN ASSERT y = x END; BEGIN  END.", typed)
    ∷ (codes "PROGRAM a; PROCEDURE p; EXIT y = 1; VAR y: INTEGER; BEGIN END; BEGIN  END.", undeclared 1 (codes "Y"))
    ∷ [])

-- what annotations see and take
abbrev pub Annotations : Type 0
Annotations = AllTold (
    (codes "PROGRAM a; VAR x: INTEGER; ENTRY x = 1; EXIT (x = 1) -> (x < 2); BEGIN ASSERT TRUE END.", typed)
    ∷ (codes "PROGRAM a; VAR x: INTEGER; ENTRY x; BEGIN  END.", wrong_type 1)
    ∷ (codes "PROGRAM a; VAR x: INTEGER; DECLARE f(INTEGER): BOOLEAN; g: INTEGER; EXIT f(x) AND f(g); BEGIN  END.", typed)
    ∷ (codes "PROGRAM a; VAR x: INTEGER; DECLARE f(INTEGER): BOOLEAN; EXIT f(x, x); BEGIN  END.", wrong_count 1)
    ∷ (codes "PROGRAM a; VAR x: INTEGER; DECLARE f(INTEGER): BOOLEAN; EXIT f(TRUE); BEGIN  END.", wrong_type 1)
    ∷ (codes "PROGRAM a; VAR x: ARRAY [1..3] OF INTEGER; EXIT STORE(x, 1, 2) = x; BEGIN  END.", typed)
    ∷ (codes "PROGRAM a; VAR x: ARRAY [1..3] OF INTEGER; EXIT SELECT(x, 1) = x[1]; BEGIN  END.", typed)
    ∷ (codes "PROGRAM a; VAR x: RECORD f: INTEGER END; EXIT PUT(x, f, 2) = x; BEGIN  END.", typed)
    ∷ (codes "PROGRAM a; VAR x: RECORD f: INTEGER END; EXIT PUT(x, g, 2) = x; BEGIN  END.", undeclared 1 (codes "G"))
    ∷ (codes "PROGRAM a; VAR x: RECORD f: INTEGER END; EXIT PUT(x, f) = x; BEGIN  END.", wrong_count 1)
    ∷ (codes "PROGRAM a; TYPE t = RECORD f: INTEGER END; VAR p: ^t; EXIT CELL(#t, p) = p^; BEGIN  END.", typed)
    ∷ (codes "PROGRAM a; TYPE t = RECORD f: INTEGER END; VAR p: ^t; EXIT POINTERTO(NIL, #t) OR POINTERTO(p, EXTEND(#t, p, p^)); BEGIN  END.", typed)
    ∷ (codes "PROGRAM a; VAR x: INTEGER; EXIT POINTERTO(x, #zz); BEGIN  END.", undeclared 1 (codes "ZZ"))
    ∷ (codes "PROGRAM a; DECLARE l: LIST; EXIT CONS(CAR(l), CDR(l)) = l; BEGIN  END.", typed)
    ∷ (codes "PROGRAM a; DECLARE l: LIST; EXIT ATOM(l, l); BEGIN  END.", wrong_count 1)
    ∷ (codes "PROGRAM a; FUNCTION f: INTEGER; EXIT f = 1; BEGIN f := 1 END; BEGIN  END.", typed)
    ∷ (codes "PROGRAM a; FUNCTION f: INTEGER; ENTRY f = 1; BEGIN f := 1 END; BEGIN  END.", wrong_type 1)
    ∷ (codes "PROGRAM a; FUNCTION f: INTEGER; BEGIN f := 1 END; EXIT f = 1; BEGIN  END.", wrong_type 1)
    ∷ (codes "PROGRAM a; FUNCTION f: INTEGER; BEGIN f := 1; ASSERT f = 1 END; BEGIN  END.", typed)
    ∷ (codes "PROGRAM a; VAR r, s: RECORD f: INTEGER END; EXIT r = s; BEGIN  END.", typed)
    ∷ (codes "PROGRAM a; PROCEDURE p; ENTRY y = 1; VAR y: INTEGER; BEGIN END; BEGIN  END.", undeclared 1 (codes "Y"))
    ∷ [])

-- what a FOR counts with, and what its body leaves alone
abbrev pub Counting : Type 0
Counting = AllTold (
    (codes "PROGRAM a; VAR i: 1..9; BEGIN FOR i := 1 TO 3 DO; FOR i := 3 DOWNTO 1 DO END.", typed)
    ∷ (codes "PROGRAM a; VAR b: BOOLEAN; BEGIN FOR b := 1 TO 2 DO END.", wrong_type 1)
    ∷ (codes "PROGRAM a; VAR i: INTEGER; b: BOOLEAN; BEGIN FOR i := b TO 2 DO END.", wrong_type 1)
    ∷ (codes "PROGRAM a; BEGIN FOR i := y TO 2 DO END.", undeclared 1 (codes "I"))
    ∷ (codes "PROGRAM a; VAR i: INTEGER; BEGIN FOR i := 1 TO 2 DO FOR i := 1 TO 2 DO END.", counts 1 (codes "I"))
    ∷ (codes "PROGRAM a; VAR i: INTEGER; PROCEDURE p(VAR x: INTEGER); BEGIN END; BEGIN FOR i := 1 TO 2 DO p(i) END.", counts 1 (codes "I"))
    ∷ (codes "PROGRAM a; VAR i, j: INTEGER; FUNCTION f(VAR n: INTEGER): INTEGER; BEGIN f := n END; BEGIN FOR i := 1 TO 2 DO FOR j := 1 TO f(i) DO END.", counts 1 (codes "I"))
    ∷ (codes "PROGRAM a; VAR i: INTEGER; PROCEDURE p(x: INTEGER); BEGIN END; BEGIN FOR i := 1 TO 2 DO p(i) END.", typed)
    ∷ (codes "PROGRAM a; VAR i: INTEGER; PROCEDURE p; GLOBAL (VAR i); BEGIN i := 1 END; BEGIN FOR i := 1 TO 2 DO p END.", counts 1 (codes "I"))
    ∷ (codes "PROGRAM a; VAR i: INTEGER; PROCEDURE p; GLOBAL (i); BEGIN END; BEGIN FOR i := 1 TO 2 DO p; i := 1 END.", typed)
    ∷ (codes "PROGRAM a; VAR i: INTEGER; PROCEDURE p; GLOBAL (VAR i); BEGIN FOR i := 1 TO 2 DO END; BEGIN  END.", wrong_type 1)
    ∷ (codes "PROGRAM a; PROCEDURE p(i: INTEGER); BEGIN FOR i := 1 TO 2 DO END; BEGIN  END.", typed)
    ∷ (codes "PROGRAM a; PROCEDURE p(VAR i: INTEGER); BEGIN FOR i := 1 TO 2 DO END; BEGIN  END.", wrong_type 1)
    ∷ (codes "PROGRAM a; VAR i: INTEGER; PROCEDURE p; GLOBAL (VAR i); BEGIN i := 1 END; PROCEDURE q; VAR i: INTEGER; BEGIN FOR i := 1 TO 2 DO p END; BEGIN  END.", typed)
    ∷ [])
