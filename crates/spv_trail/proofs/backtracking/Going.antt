-- A path goes on.
use Rattle.std.proofs.Common.{◌≡◌, List, [], ◌∷◌, ◌++◌, sym}
use Rattle.std.proofs.lemmas.List.{append-nil}
use Rattle.spv_term.specs.Arena.{Arena}
use Rattle.spv_trail.specs.propagation.Learning.{IsLonger}
use Rattle.spv_trail.proofs.propagation.Citing.{not_grown}
use Rattle.spv_trail.proofs.propagation.Learned.{grown_then}
use Rattle.spv_trail.proofs.propagation.Changes.{longer_then, goes_same, goes_then}
use Rattle.spv_trail.specs.declared.backtracking.path.BranchTrail.{BranchTrail}
use Rattle.spv_trail.specs.backtracking.Paths.{GoesOn}

pub not_longer : {A : Type 0} (xs : List A) → IsLonger xs xs
not_longer xs = record { more = []; is = sym (append-nil xs) }

pub one_longer : {A : Type 0} (xs ys : List A) (x : A) → ys ≡ xs ++ x ∷ [] → IsLonger xs ys
one_longer xs ys x e = record { more = x ∷ []; is = e }

pub goes_on_same : (a : Arena) (p : BranchTrail) → GoesOn a p p
goes_on_same a p = record { derivation = not_grown p.derivation; known = not_longer p.known.items; both = goes_same a p.both }

pub goes_on_then : (a : Arena) (x y z : BranchTrail) → GoesOn a x y → GoesOn a y z → GoesOn a x z
goes_on_then a x y z g h = record {
  derivation = grown_then x.derivation y.derivation z.derivation g.derivation h.derivation;
  known = longer_then x.known.items y.known.items z.known.items g.known h.known;
  both = goes_then a x.both y.both z.both g.both h.both;
}
