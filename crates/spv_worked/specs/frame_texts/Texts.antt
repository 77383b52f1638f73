-- Small texts, and what the walk tells of each.
use Rattle.std.specs.Prelude.{◌≡◌, ℕ, List, [], ◌∷◌, codes}
use Rattle.spv_worked.specs.frame_texts.Told.{Told, told, fits, alias, missing, writes}

abbrev pub AllTold : List (List ℕ × Told) → Type 0
AllTold [] = Unit {0}
AllTold (t ∷ others) = (told t.0 ≡ t.1) × AllTold others

-- a function has no VAR parameter and no VAR group
abbrev pub Functions : Type 0
Functions = AllTold (
    (codes "PROGRAM a; VAR x: INTEGER; FUNCTION f: INTEGER; GLOBAL (VAR x); BEGIN END; BEGIN END.", writes 1 (codes "F"))
    ∷ (codes "PROGRAM a; VAR x, y: INTEGER; FUNCTION f: INTEGER; GLOBAL (x); BEGIN f := x END; BEGIN END.", fits)
    ∷ (codes "PROGRAM a; VAR x, y: INTEGER; PROCEDURE f; GLOBAL (VAR x); BEGIN x := 1 END; BEGIN END.", fits)
    ∷ (codes "PROGRAM a; VAR x, y: INTEGER; FUNCTION f(VAR n: INTEGER): INTEGER; BEGIN f := 1 END; BEGIN END.", writes 1 (codes "F"))
    ∷ (codes "PROGRAM a; VAR x, y: INTEGER; FUNCTION f(n: INTEGER): INTEGER; BEGIN n := 2; f := n END; BEGIN END.", fits)
    ∷ (codes "PROGRAM a; TYPE Ref = ^Node; Node = RECORD key: INTEGER; left: Ref END; VAR r: Ref; FUNCTION f: INTEGER; GLOBAL (VAR #Node); BEGIN f := 1 END; BEGIN END.", writes 1 (codes "F"))
    ∷ (codes "PROGRAM a; TYPE Ref = ^Node; Node = RECORD key: INTEGER; left: Ref END; VAR r: Ref; FUNCTION f(p: Ref): INTEGER; GLOBAL (#Node); BEGIN f := p^.key END; BEGIN END.", fits)
    ∷ [])

-- what a routine reads and writes stands in its list
abbrev pub Uses : Type 0
Uses = AllTold (
    (codes "PROGRAM a; VAR x: INTEGER; PROCEDURE p; BEGIN x := 1 END; BEGIN END.", missing 1 (codes "X"))
    ∷ (codes "PROGRAM a; VAR x, y: INTEGER; PROCEDURE p; GLOBAL (x); BEGIN x := 1 END; BEGIN END.", missing 1 (codes "X"))
    ∷ (codes "PROGRAM a; VAR x, y: INTEGER; PROCEDURE p; GLOBAL (VAR x); BEGIN x := x + 1 END; BEGIN END.", fits)
    ∷ (codes "PROGRAM a; VAR x, y: INTEGER; PROCEDURE p; GLOBAL (VAR x; y); BEGIN x := y END; BEGIN END.", fits)
    ∷ (codes "PROGRAM a; VAR x, y: INTEGER; PROCEDURE p; GLOBAL (VAR x); BEGIN x := y END; BEGIN END.", missing 1 (codes "Y"))
    ∷ (codes "PROGRAM a; VAR x, y: INTEGER; PROCEDURE p(x: INTEGER); VAR y: INTEGER; BEGIN y := x; x := y END; BEGIN END.", fits)
    ∷ (codes "PROGRAM a; VAR x, y: INTEGER; PROCEDURE q(n: INTEGER); BEGIN END; PROCEDURE p; BEGIN q(x) END; BEGIN END.", missing 1 (codes "X"))
    ∷ (codes "PROGRAM a; VAR x, y: INTEGER; PROCEDURE q(n: INTEGER); BEGIN END; PROCEDURE p; GLOBAL (x); BEGIN q(x) END; BEGIN END.", fits)
    ∷ (codes "PROGRAM a; VAR x, y: INTEGER; PROCEDURE q(VAR n: INTEGER); BEGIN END; PROCEDURE p; GLOBAL (x); BEGIN q(x) END; BEGIN END.", missing 1 (codes "X"))
    ∷ (codes "PROGRAM a; VAR x, y: INTEGER; PROCEDURE q(VAR n: INTEGER); BEGIN END; PROCEDURE p; GLOBAL (VAR x); BEGIN q(x) END; BEGIN END.", fits)
    ∷ [])

-- an annotation reads what it names
abbrev pub Annotations : Type 0
Annotations = AllTold (
    (codes "PROGRAM a; VAR x, y: INTEGER; PROCEDURE p; ENTRY x = 1; BEGIN END; BEGIN END.", missing 1 (codes "X"))
    ∷ (codes "PROGRAM a; VAR x, y: INTEGER; PROCEDURE p; EXIT x = 1; BEGIN END; BEGIN END.", missing 1 (codes "X"))
    ∷ (codes "PROGRAM a; VAR x, y: INTEGER; PROCEDURE p; GLOBAL (x); ENTRY x = 1; EXIT x = 1; BEGIN END; BEGIN END.", fits)
    ∷ (codes "PROGRAM a; VAR x, y: INTEGER; PROCEDURE p; GLOBAL (VAR x); INITIAL x = s; EXIT x = s; BEGIN ASSERT x = s END; BEGIN END.", fits)
    ∷ (codes "PROGRAM a; VAR x, y: INTEGER; FUNCTION f: INTEGER; EXIT f = 1; BEGIN f := 1 END; BEGIN END.", fits)
    ∷ (codes "PROGRAM a; VAR x, y: INTEGER; PROCEDURE p; BEGIN ASSERT x = 1 END; BEGIN END.", missing 1 (codes "X"))
    ∷ (codes "PROGRAM a; VAR x, y: INTEGER; PROCEDURE p; BEGIN INVARIANT x = 1 WHILE FALSE DO END; BEGIN END.", missing 1 (codes "X"))
    ∷ (codes "PROGRAM a; VAR x, y: INTEGER; ENTRY x = 1; EXIT y = 1; BEGIN x := y END.", fits)
    ∷ [])

-- what statements read and write
abbrev pub Statements : Type 0
Statements = AllTold (
    (codes "PROGRAM a; VAR x, y: INTEGER; PROCEDURE p(i: INTEGER); BEGIN FOR i := 1 TO x DO END; BEGIN END.", missing 1 (codes "X"))
    ∷ (codes "PROGRAM a; VAR x, y: INTEGER; PROCEDURE p(i: INTEGER); BEGIN FOR i := 1 TO 2 DO x := i END; BEGIN END.", missing 1 (codes "X"))
    ∷ (codes "PROGRAM a; VAR x, y: INTEGER; PROCEDURE p(i: INTEGER); GLOBAL (x); BEGIN FOR i := 1 TO x DO END; BEGIN END.", fits)
    ∷ (codes "PROGRAM a; VAR x, y: INTEGER; BEGIN FOR x := 1 TO y DO END.", fits)
    ∷ (codes "PROGRAM a; VAR x, y: INTEGER; PROCEDURE p; BEGIN REPEAT UNTIL x = 1 END; BEGIN END.", missing 1 (codes "X"))
    ∷ (codes "PROGRAM a; VAR x, y: INTEGER; PROCEDURE p; BEGIN WHILE x = 1 DO END; BEGIN END.", missing 1 (codes "X"))
    ∷ (codes "PROGRAM a; VAR x, y: INTEGER; PROCEDURE p; BEGIN IF x = 1 THEN END; BEGIN END.", missing 1 (codes "X"))
    ∷ (codes "PROGRAM a; VAR x, y: INTEGER; PROCEDURE p; BEGIN CASE x OF 1: END END; BEGIN END.", missing 1 (codes "X"))
    ∷ [])

-- pointers and the class of their cells
abbrev pub Items : Type 0
Items = AllTold (
    (codes "PROGRAM a; TYPE Ref = ^Node; Node = RECORD key: INTEGER; left: Ref END; VAR r: Ref; PROCEDURE p(q: Ref); BEGIN q^.key := 1 END; BEGIN END.", missing 1 (codes "#NODE"))
    ∷ (codes "PROGRAM a; TYPE Ref = ^Node; Node = RECORD key: INTEGER; left: Ref END; VAR r: Ref; PROCEDURE p(q: Ref); GLOBAL (#Node); BEGIN q^.key := 1 END; BEGIN END.", missing 1 (codes "#NODE"))
    ∷ (codes "PROGRAM a; TYPE Ref = ^Node; Node = RECORD key: INTEGER; left: Ref END; VAR r: Ref; PROCEDURE p(q: Ref); GLOBAL (VAR #Node); BEGIN q^.key := 1 END; BEGIN END.", fits)
    ∷ (codes "PROGRAM a; TYPE Ref = ^Node; Node = RECORD key: INTEGER; left: Ref END; VAR r: Ref; PROCEDURE p(q: Ref; VAR n: INTEGER); BEGIN n := q^.key END; BEGIN END.", missing 1 (codes "#NODE"))
    ∷ (codes "PROGRAM a; TYPE Ref = ^Node; Node = RECORD key: INTEGER; left: Ref END; VAR r: Ref; PROCEDURE p(q: Ref; VAR n: INTEGER); GLOBAL (#Node); BEGIN n := q^.key END; BEGIN END.", fits)
    ∷ (codes "PROGRAM a; TYPE Ref = ^Node; Node = RECORD key: INTEGER; left: Ref END; VAR r: Ref; PROCEDURE p(q: Ref); BEGIN NEW(q) END; BEGIN END.", missing 1 (codes "#NODE"))
    ∷ (codes "PROGRAM a; TYPE Ref = ^Node; Node = RECORD key: INTEGER; left: Ref END; VAR r: Ref; PROCEDURE p(q: Ref); GLOBAL (#Node); BEGIN NEW(q) END; BEGIN END.", missing 1 (codes "#NODE"))
    ∷ (codes "PROGRAM a; TYPE Ref = ^Node; Node = RECORD key: INTEGER; left: Ref END; VAR r: Ref; PROCEDURE p(q: Ref); GLOBAL (VAR #Node); BEGIN NEW(q) END; BEGIN END.", fits)
    ∷ (codes "PROGRAM a; TYPE Ref = ^Node; Node = RECORD key: INTEGER; left: Ref END; VAR r: Ref; PROCEDURE p; GLOBAL (VAR #Node); BEGIN NEW(r) END; BEGIN END.", missing 1 (codes "R"))
    ∷ (codes "PROGRAM a; TYPE Ref = ^Node; Node = RECORD key: INTEGER; left: Ref END; VAR r: Ref; PROCEDURE p; GLOBAL (r; VAR #Node); BEGIN r^.left := NIL END; BEGIN END.", fits)
    ∷ (codes "PROGRAM a; TYPE Ref = ^Node; Node = RECORD key: INTEGER; left: Ref END; VAR r: Ref; PROCEDURE p(q: Ref); ENTRY q^.key = 1; BEGIN END; BEGIN END.", missing 1 (codes "#NODE"))
    ∷ (codes "PROGRAM a; TYPE Ref = ^Node; Node = RECORD key: INTEGER; left: Ref END; VAR r: Ref; PROCEDURE p(q: Ref); ENTRY #Node = #Node; BEGIN END; BEGIN END.", missing 1 (codes "#NODE"))
    ∷ (codes "PROGRAM a; TYPE Ref = ^Node; Node = RECORD key: INTEGER; left: Ref END; VAR r: Ref; PROCEDURE p(q: Ref); GLOBAL (#Node); ENTRY q^.key = 1; BEGIN END; BEGIN END.", fits)
    ∷ [])

-- what a callee's list has stands in the caller's
abbrev pub Callees : Type 0
Callees = AllTold (
    (codes "PROGRAM a; VAR x, y: INTEGER; PROCEDURE q; GLOBAL (x); BEGIN END; PROCEDURE p; BEGIN q END; BEGIN END.", missing 1 (codes "X"))
    ∷ (codes "PROGRAM a; VAR x, y: INTEGER; PROCEDURE q; GLOBAL (x); BEGIN END; PROCEDURE p; GLOBAL (x); BEGIN q END; BEGIN END.", fits)
    ∷ (codes "PROGRAM a; VAR x, y: INTEGER; PROCEDURE q; GLOBAL (VAR x); BEGIN END; PROCEDURE p; GLOBAL (x); BEGIN q END; BEGIN END.", missing 1 (codes "X"))
    ∷ (codes "PROGRAM a; VAR x, y: INTEGER; PROCEDURE q; GLOBAL (x); BEGIN END; PROCEDURE p; GLOBAL (VAR x); BEGIN q END; BEGIN END.", fits)
    ∷ (codes "PROGRAM a; VAR x, y: INTEGER; PROCEDURE q; GLOBAL (VAR x, y); BEGIN END; PROCEDURE p; GLOBAL (VAR x; y); BEGIN q END; BEGIN END.", missing 1 (codes "Y"))
    ∷ (codes "PROGRAM a; VAR x, y: INTEGER; PROCEDURE q; GLOBAL (VAR x); BEGIN END; BEGIN q END.", fits)
    ∷ (codes "PROGRAM a; VAR x, y: INTEGER; PROCEDURE q; GLOBAL (x); BEGIN END; PROCEDURE p(x: INTEGER); BEGIN q END; BEGIN END.", missing 1 (codes "X"))
    ∷ (codes "PROGRAM a; VAR x, y: INTEGER; FUNCTION f: INTEGER; GLOBAL (x); BEGIN END; PROCEDURE p; GLOBAL (VAR y); BEGIN y := f END; BEGIN END.", missing 1 (codes "X"))
    ∷ (codes "PROGRAM a; TYPE Ref = ^Node; Node = RECORD key: INTEGER; left: Ref END; VAR r: Ref; PROCEDURE q; GLOBAL (#Node); BEGIN END; PROCEDURE p; BEGIN q END; BEGIN END.", missing 1 (codes "#NODE"))
    ∷ [])

-- roots that meet at a call
abbrev pub Roots : Type 0
Roots = AllTold (
    (codes "PROGRAM s;\nVAR a, b: INTEGER;\nPROCEDURE swap(VAR p, q: INTEGER);\nINITIAL p = p0, q = q0;\nEXIT (p = q0) AND (q = p0);\nVAR t: INTEGER;\nBEGIN t := p; p := q; q := t END;\nENTRY (a = 1) AND (b = 2);\nEXIT (a = 2) AND (b = 1);\nBEGIN swap(a, b) END.", fits)
    ∷ (codes "PROGRAM s;\nVAR a, b: INTEGER;\nPROCEDURE swap(VAR p, q: INTEGER);\nINITIAL p = p0, q = q0;\nEXIT (p = q0) AND (q = p0);\nVAR t: INTEGER;\nBEGIN t := p; p := q; q := t END;\nENTRY (a = 1) AND (b = 2);\nEXIT (a = 2) AND (b = 1);\nBEGIN swap(a, a) END.", alias 10 (codes "A") (codes "A"))
    ∷ (codes "PROGRAM s;\nVAR c: ARRAY [1..9] OF INTEGER; a, b: INTEGER;\nPROCEDURE swap(VAR p, q: INTEGER);\nINITIAL p = p0, q = q0;\nEXIT (p = q0) AND (q = p0);\nVAR t: INTEGER;\nBEGIN t := p; p := q; q := t END;\nENTRY (a = 1) AND (b = 2);\nEXIT (a = 2) AND (b = 1);\nBEGIN swap(c[a], c[b]) END.", alias 10 (codes "C") (codes "C"))
    ∷ (codes "PROGRAM s;\nVAR c: ARRAY [1..9] OF INTEGER; a, b: INTEGER;\nPROCEDURE swap(VAR p, q: INTEGER);\nINITIAL p = p0, q = q0;\nEXIT (p = q0) AND (q = p0);\nVAR t: INTEGER;\nBEGIN t := p; p := q; q := t END;\nENTRY (a = 1) AND (b = 2);\nEXIT (a = 2) AND (b = 1);\nBEGIN swap(c[a], b) END.", fits)
    ∷ (codes "PROGRAM tree;\nTYPE Ref = ^Node; Node = RECORD key: INTEGER; left: Ref END;\nVAR r: Ref;\nPROCEDURE insert(VAR t: Ref);\nGLOBAL (VAR #Node);\nEXIT t <> NIL;\nBEGIN IF t = NIL THEN NEW(t) ELSE insert(t^.left) END;\nBEGIN insert(r) END.", alias 7 (codes "#NODE") (codes "#NODE"))
    ∷ (codes "PROGRAM tree;\nTYPE Ref = ^Node; Node = RECORD key: INTEGER; left: Ref END;\nVAR r: Ref;\nPROCEDURE insert(VAR t: Ref);\nGLOBAL (VAR #Node);\nEXIT t <> NIL;\nVAR u: Ref;\nBEGIN IF t = NIL THEN NEW(t) ELSE BEGIN u := t^.left; insert(u); t^.left := u END END;\nBEGIN insert(r) END.", fits)
    ∷ (codes "PROGRAM a; VAR x, y: INTEGER; PROCEDURE q(VAR n: INTEGER); GLOBAL (x); BEGIN END; BEGIN q(x) END.", alias 1 (codes "X") (codes "X"))
    ∷ (codes "PROGRAM a; VAR x, y: INTEGER; PROCEDURE q(VAR n: INTEGER); GLOBAL (x); BEGIN END; BEGIN q(y) END.", fits)
    ∷ (codes "PROGRAM a; VAR x, y: INTEGER; PROCEDURE q(n: INTEGER); GLOBAL (x); BEGIN END; BEGIN q(x) END.", fits)
    ∷ (codes "PROGRAM a; VAR x, y: INTEGER; PROCEDURE q(VAR m: INTEGER; n: INTEGER); BEGIN END; BEGIN q(x, x) END.", fits)
    ∷ (codes "PROGRAM a; VAR x, y: INTEGER; PROCEDURE q(VAR n: INTEGER); GLOBAL (x); BEGIN END; PROCEDURE p(VAR x: INTEGER); BEGIN END; BEGIN END.", fits)
    ∷ (codes "PROGRAM a; VAR x, y: INTEGER; PROCEDURE q(VAR m, n: INTEGER); BEGIN END; PROCEDURE p(k: INTEGER); BEGIN q(k, k) END; BEGIN END.", alias 1 (codes "K") (codes "K"))
    ∷ (codes "PROGRAM a; TYPE Ref = ^Node; Node = RECORD key: INTEGER; left: Ref END; VAR r: Ref; PROCEDURE q(VAR m, n: INTEGER); BEGIN END; BEGIN q(r^.key, r^.left^.key) END.", alias 1 (codes "#NODE") (codes "#NODE"))
    ∷ (codes "PROGRAM a; TYPE Ref = ^Node; Node = RECORD key: INTEGER; left: Ref END; VAR r: Ref; PROCEDURE q(VAR m: Ref; VAR n: INTEGER); BEGIN END; BEGIN q(r, r^.key) END.", fits)
    ∷ [])

-- which of two faults comes first, and on which line
abbrev pub Orders : Type 0
Orders = AllTold (
    (codes "PROGRAM a; VAR x, y: INTEGER; PROCEDURE q(n: INTEGER); GLOBAL (y); BEGIN END; PROCEDURE p; BEGIN q(x) END; BEGIN END.", missing 1 (codes "X"))
    ∷ (codes "PROGRAM a; VAR x, y: INTEGER; PROCEDURE q(VAR m, n: INTEGER); GLOBAL (y); BEGIN END; PROCEDURE p; GLOBAL (VAR x); BEGIN q(x, x) END; BEGIN END.", missing 1 (codes "Y"))
    ∷ (codes "PROGRAM a; VAR x, y: INTEGER; PROCEDURE q(VAR k, m, n: INTEGER); GLOBAL (x); BEGIN END; BEGIN q(x, y, y) END.", alias 1 (codes "Y") (codes "Y"))
    ∷ (codes "PROGRAM a; VAR x, y: INTEGER; PROCEDURE q(VAR k, l, m, n: INTEGER); BEGIN END; BEGIN q(x, y, y, x) END.", alias 1 (codes "X") (codes "X"))
    ∷ (codes "PROGRAM a; VAR x, y: INTEGER; FUNCTION f(n: INTEGER): INTEGER; GLOBAL (y); BEGIN END; PROCEDURE p; BEGIN p; IF f(x) = 1 THEN p END; BEGIN END.", missing 1 (codes "X"))
    ∷ (codes "PROGRAM a; VAR x, y: INTEGER; FUNCTION f(VAR n: INTEGER): INTEGER; GLOBAL (VAR x); ENTRY y = 1; BEGIN END; BEGIN END.", writes 1 (codes "F"))
    ∷ (codes "PROGRAM a;\nVAR x: INTEGER;\nFUNCTION f\n(m: INTEGER;\nVAR\nn: INTEGER): INTEGER;\nBEGIN END; BEGIN END.", writes 5 (codes "F"))
    ∷ (codes "PROGRAM a;\nVAR x, y: INTEGER;\nFUNCTION f: INTEGER;\nGLOBAL (x;\nVAR\ny);\nBEGIN END; BEGIN END.", writes 5 (codes "F"))
    ∷ (codes "PROGRAM a; TYPE Ref = ^Node; Node = RECORD key: INTEGER; left: Ref END; \nVAR r: Ref; PROCEDURE p(q: Ref); BEGIN\nq\n^\n.key :=\n1 END; BEGIN END.", missing 4 (codes "#NODE"))
    ∷ (codes "PROGRAM a; VAR x, y: INTEGER; PROCEDURE q; GLOBAL (x); BEGIN END;\nPROCEDURE p; BEGIN\nq END; BEGIN END.", missing 3 (codes "X"))
    ∷ (codes "PROGRAM a;\nVAR x: INTEGER;\nFUNCTION f(VAR n: INTEGER): INTEGER; FORWARD;\nPROCEDURE p;\nBEGIN x := 1 END;\nFUNCTION f; BEGIN f := 1 END; BEGIN END.", writes 3 (codes "F"))
    ∷ (codes "PROGRAM a;\nVAR x: INTEGER;\nPROCEDURE p; FORWARD;\nFUNCTION f(VAR n: INTEGER): INTEGER; FORWARD;\nPROCEDURE p; BEGIN x := 1 END;\nFUNCTION f; BEGIN f := 1 END; BEGIN END.", writes 4 (codes "F"))
    ∷ [])

-- what comes first where uses and calls stand one among the other
abbrev pub Interleaved : Type 0
Interleaved = AllTold (
    (codes "PROGRAM a; VAR x, y: INTEGER; FUNCTION f: INTEGER; GLOBAL (x); BEGIN f := x END; PROCEDURE p; BEGIN y := f END; BEGIN END.", missing 1 (codes "Y"))
    ∷ (codes "PROGRAM a; VAR x, y: INTEGER; FUNCTION f: INTEGER; GLOBAL (x); BEGIN f := x END; PROCEDURE p; BEGIN IF f = 1 THEN y := 1 END; BEGIN END.", missing 1 (codes "X"))
    ∷ (codes "PROGRAM a; VAR x, y: INTEGER; FUNCTION f: INTEGER; GLOBAL (x); BEGIN f := x END; PROCEDURE p; BEGIN WHILE f = 1 DO y := 1 END; BEGIN END.", missing 1 (codes "X"))
    ∷ (codes "PROGRAM a; VAR x, y: INTEGER; FUNCTION f: INTEGER; GLOBAL (x); BEGIN f := x END; PROCEDURE p; BEGIN REPEAT y := 1 UNTIL f = 1 END; BEGIN END.", missing 1 (codes "Y"))
    ∷ (codes "PROGRAM a; VAR x, y: INTEGER; FUNCTION f: INTEGER; GLOBAL (x); BEGIN f := x END; PROCEDURE p; BEGIN CASE f OF 1: y := 1 END END; BEGIN END.", missing 1 (codes "X"))
    ∷ (codes "PROGRAM a; VAR x, y: INTEGER; FUNCTION f: INTEGER; GLOBAL (x); BEGIN f := x END; PROCEDURE p(i: INTEGER); BEGIN FOR i := f TO y DO END; BEGIN END.", missing 1 (codes "X"))
    ∷ (codes "PROGRAM a; VAR x, y: INTEGER; FUNCTION f: INTEGER; GLOBAL (x); BEGIN f := x END; PROCEDURE q(m, n: INTEGER); BEGIN END; PROCEDURE p; BEGIN q(f, y) END; BEGIN END.", missing 1 (codes "X"))
    ∷ (codes "PROGRAM a; VAR x, y: INTEGER; FUNCTION f: INTEGER; GLOBAL (x); BEGIN f := x END; PROCEDURE q(m, n: INTEGER); BEGIN END; PROCEDURE p; BEGIN q(y, f) END; BEGIN END.", missing 1 (codes "Y"))
    ∷ (codes "PROGRAM a; TYPE Ref = ^Node; Node = RECORD key: INTEGER; left: Ref END; VAR r: Ref; FUNCTION f: Ref; GLOBAL (r); BEGIN f := r END; PROCEDURE p(n: INTEGER); BEGIN n := f^.key END; BEGIN END.", missing 1 (codes "R"))
    ∷ (codes "PROGRAM a; VAR x, y: INTEGER; PROCEDURE p; ENTRY x = 1; EXIT y = 1; BEGIN END; BEGIN END.", missing 1 (codes "X"))
    ∷ (codes "PROGRAM a; VAR x, y: INTEGER; PROCEDURE p; EXIT x = 1; BEGIN y := 1 END; BEGIN END.", missing 1 (codes "X"))
    ∷ [])
