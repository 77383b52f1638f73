-- A table of signatures: a head with the labels of its arguments, and a term for it.
use Rattle.std.specs.Prelude.{◌≡◌, ℕ, suc, ◌+◌, Bool, ◌&&◌, List, [], ◌∷◌, take, drop, length, fold, Option, Some, None, nat_eq, if◌then◌else◌}
use Rattle.std.specs.Cmp.Lexicographic.{pointwise}
use Rattle.std.specs.Hash as fed
use Rattle.std.specs.Hash.FoldHasher as folding
use Rattle.spv_logic.specs.declared.conditions.TermId.{TermId}
use Rattle.spv_logic.specs.declared.operators.Head.{Head}
use Rattle.spv_logic.specs.Terms.{head_eq}
use Rattle.spv_logic.specs.contracts.operators.HeadHash.TheImpl as of_heads
use Rattle.spv_union_find.specs.declared.signatures.rows.Row.{Row}

-- a term under its signature
pub record Signature : Type 0 where
  pub head : Head
  pub labels : List ℕ
  pub term : TermId

-- what contracts see: the signatures in the order in which they were added, and for how many cells there is memory
pub record Table : Type 0 where
  pub rows : List Signature
  pub room : ℕ

-- whether it is the signature of this head and these labels
abbrev pub is_for : Head → List ℕ → Signature → Bool
is_for h ls r = head_eq r.head h && pointwise nat_eq r.labels ls

abbrev pub or_this : Head → List ℕ → Option TermId → Signature → Option TermId
or_this h ls found r = if is_for h ls r then Some r.term else found

-- the term that was last added for a head and labels
abbrev pub held : List Signature → Head → List ℕ → Option TermId
held rows h ls = fold (or_this h ls) None rows

-- how many cells signatures take: one each, and one for each label
abbrev pub cells_of : List Signature → ℕ
cells_of [] = 0
cells_of (r ∷ rows) = suc (length r.labels) + cells_of rows

-- ---- how they are kept

-- the signature of a row, whose labels stand among these
abbrev pub signature : List ℕ → Row → Signature
signature cells r = record { head = r.head; labels = take r.size (drop r.start cells); term = r.term }

-- the labels of rows stand one behind the other, up to an end
abbrev pub Laid : ℕ → List Row → ℕ → Type 0
Laid start [] end = start ≡ end
Laid start (r ∷ rows) end = (r.start ≡ start) × Laid (start + r.size) rows end

-- the hash of a head over labels, under which its rows are found
abbrev pub hash_of : Head → List ℕ → ℕ
hash_of h ls = folding.finish (fold folding.write (fold folding.write folding.initial (of_heads.ghosts.hash_input h)) (fed.slice fed.usize ls))

abbrev pub hash : Signature → ℕ
hash r = hash_of r.head r.labels
