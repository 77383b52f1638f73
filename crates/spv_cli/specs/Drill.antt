-- The generated programs.
use Rattle.std.specs.Prelude.{ℕ, zero, suc, ◌+◌, ◌*◌, ◌/◌, ◌%◌, List, [], ◌∷◌, ◌++◌, codes, decimal}
use Rattle.std.specs.List.{flat_map}
use Rattle.spv_reports.specs.declared.mode.Load.{Load}

-- ---- procedures

-- a step of the generator
abbrev pub stepped : ℕ → ℕ
stepped s = (s * 1103515245 + 12345) % 2147483648

-- a number below m, from where the generator stands
abbrev pub digit : ℕ → ℕ → ℕ
digit s m = (s / 65536) % m

-- a procedure: its number, what it multiplies with, and what it adds
pub record Procedure : Type 0 where
  pub number : ℕ
  pub factor : ℕ
  pub summand : ℕ

abbrev pub procedure_at : ℕ → ℕ → Procedure
procedure_at k s = record { number = k; factor = 1 + digit s 9; summand = digit (stepped s) 10 }

-- so many procedures, numbered from this number on, from where the generator stands; each takes two steps
abbrev pub procedures : ℕ → ℕ → ℕ → List Procedure
procedures k s zero = []
procedures k s (suc n) = procedure_at k (stepped s) ∷ procedures (suc k) (stepped (stepped s)) n

-- ---- text

-- the heading of a procedure, which reckons factor * n + summand
abbrev pub heading : Procedure → List ℕ
heading p =
    codes "PROCEDURE P" ++ decimal p.number ++ codes "(N: INTEGER; VAR R: INTEGER);\nENTRY N >= 0;\nEXIT R = " ++ decimal p.factor ++ codes " * N + "
    ++ decimal p.summand ++ codes ";\nVAR I: INTEGER;\n"

-- its body: a loop that adds the factor again and again
abbrev pub start_line : Procedure → List ℕ
start_line p = codes "BEGIN R := " ++ decimal p.summand ++ codes "; I := 0;\n"

abbrev pub invariant_line : Procedure → List ℕ
invariant_line p = codes "INVARIANT (R = " ++ decimal p.factor ++ codes " * I + " ++ decimal p.summand ++ codes ") AND (0 <= I) AND (I <= N)\n"

abbrev pub loop_line : Procedure → List ℕ
loop_line p = codes "WHILE I < N DO BEGIN R := R + " ++ decimal p.factor ++ codes "; I := I + 1 END END;\n"

abbrev pub declaration : Procedure → List ℕ
declaration p = heading p ++ start_line p ++ invariant_line p ++ loop_line p

-- what it reckons for its number
abbrev pub result_of : Procedure → ℕ
result_of p = p.factor * p.number + p.summand

-- its call with its number, and what the result is
abbrev pub call : Procedure → List ℕ
call p = codes "P" ++ decimal p.number ++ codes "(" ++ decimal p.number ++ codes ", X); ASSERT X = " ++ decimal (result_of p) ++ codes ";\n"

abbrev pub program_of : List Procedure → List ℕ
program_of ps = codes "PROGRAM DRILL;\nVAR X: INTEGER;\n" ++ flat_map declaration ps ++ codes "BEGIN\n" ++ flat_map call ps ++ codes "END.\n"

-- the text of a generated program: the number says where the generator begins, the size how many procedures there are
abbrev pub drill_text : Load → List ℕ
drill_text load = program_of (procedures 1 (load.number % 2147483648) load.size)
