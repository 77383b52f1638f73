-- Small terms, read by hand.
use Rattle.std.specs.Prelude.{ℕ, List, [], ◌∷◌, negsuc, None, codes}
use Rattle.spv_logic.specs.declared.types.Sort.TheVariants as sort
use Rattle.spv_logic.specs.declared.operators.Head.TheVariants as head
use Rattle.spv_logic.specs.Terms.{Term, term, no_terms, terms}
use Rattle.spv_listing_values.specs.Written.{Applied, Written, written, no_written, writtens, word}
use Rattle.spv_rechecking.specs.written_terms.Standing.{Vocabulary}

-- the names X and F, the variables X and X@2, and a symbol F of one number
abbrev pub example : Vocabulary
example = record {
  words = record {
    names = codes "X" ∷ codes "F" ∷ [];
    titles = [];
    leaves = head.Var (record { 0 = 0 }) sort.Int 0 ∷ head.Var (record { 0 = 0 }) sort.Int 2 ∷ [];
  };
  shapes = [];
  decls = record { name = record { 0 = 1 }; args = sort.Int ∷ []; result = sort.Bool } ∷ [];
}

-- a word over one argument, and over two
abbrev pub one : List ℕ → Written → Written
one name w = written (Applied name None) (writtens w no_written)

abbrev pub two : List ℕ → Written → Written → Written
two name w u = written (Applied name None) (writtens w (writtens u no_written))

abbrev pub fresh : Term
fresh = term (head.Var (record { 0 = 0 }) sort.Int 2) no_terms

abbrev pub minus_one : Term
minus_one = term (head.Num (negsuc 0)) no_terms

-- the sum of X@2 and -1, and F of it
abbrev pub sum : Written
sum = two (codes "+") (word (codes "X@2")) (word (codes "-1"))

abbrev pub sum_term : Term
sum_term = term head.Add (terms fresh (terms minus_one no_terms))
