-- The names of a text are those of some of its first tokens.
use Rattle.std.proofs.Common.{◌≡◌, ℕ, List, length, Result, Ok, Err, OnErr, sym, ap, arith}
use Rattle.std.proofs.lemmas.List.{take_all}
use Rattle.spv_lexer.specs.Reading.{reading}
use Rattle.spv_lexer.specs.Tokens.{names_after}
use Rattle.spv_parser.specs.language.Texts.{names_with, AreNamesOfSome}

-- namely of all of them
of_all : (names : List (List ℕ)) (text : List ℕ) → AreNamesOfSome names text (names_with names text)
of_all names text =
    let ts = (reading text).tokens in
    (length ts, sym (ap (names_after names) (take_all (length ts) ts (omega arith))))

-- so the table may have all of them after a refusal
pub grown : {T E : Type 0} (r : Result T E) (names : List (List ℕ)) (text : List ℕ) (new : List (List ℕ)) → new ≡ names_with names text → OnErr r (AreNamesOfSome names text new)
grown (Ok x) names text new is = tt
grown (Err e) names text new is = rw is (of_all names text)
