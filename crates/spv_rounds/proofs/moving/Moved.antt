-- What is moved to another arena stands for the same there.
use Rattle.std.proofs.Common.{◌≡◌, List, [], ◌∷◌, Option, Some, refl}
use Rattle.spv_whole.specs.Fraction.{Fraction}
use Rattle.spv_logic.specs.declared.conditions.TermId.{TermId}
use Rattle.spv_term.specs.Arena.{Arena}
use Rattle.spv_verdicts.specs.declared.answers.verdicts.Instance.{Instance}
use Rattle.spv_verdicts.specs.declared.answers.verdicts.Round.{Round}
use Rattle.spv_rounds.specs.moving.Moves.{moved_id, AreMoves, AllMoved, PairsMoved, InstanceMoved, InstancesMoved, RoundMoved, RoundsMoved}
use Rattle.spv_rounds.proofs.moving.Besides.{Beside}

-- ---- one by one

abbrev pub IdMoves : List (Option TermId) → TermId → TermId → Type 0
IdMoves places t u = moved_id places t ≡ Some u

abbrev pub PairMoves : List (Option TermId) → TermId × Fraction → TermId × Fraction → Type 0
PairMoves places p q = (moved_id places p.0 ≡ Some q.0) × (q.1 ≡ p.1)

abbrev pub InstanceMoves : List (Option TermId) → Instance → Instance → Type 0
InstanceMoves places i j = (a b : Arena) → AreMoves a b places → InstanceMoved a b i j

abbrev pub RoundMoves : List (Option TermId) → Round → Round → Type 0
RoundMoves places r s = (a b : Arena) → AreMoves a b places → RoundMoved a b r s

-- ---- all

module _ (places : List (Option TermId)) (a b : Arena) (moves : AreMoves a b places) where
  pub ids-moved : (ts us : List TermId) → Beside (IdMoves places) ts us → AllMoved a b ts us
  ids-moved [] [] h = record { there = tt; same = refl }
  ids-moved [] (u ∷ us) h = absurd h
  ids-moved (t ∷ ts) [] h = absurd h
  ids-moved (t ∷ ts) (u ∷ us) h =
      let m = moves.each t u h.0 in
      let rest = ids-moved ts us h.1 in
      record { there = (m.there, rest.there); same = λ i. m.same i ∷ rest.same i }

  pub pairs-moved : (ps qs : List (TermId × Fraction)) → Beside (PairMoves places) ps qs → PairsMoved a b ps qs
  pairs-moved [] [] h = record { there = tt; same = refl }
  pairs-moved [] (q ∷ qs) h = absurd h
  pairs-moved (p ∷ ps) [] h = absurd h
  pairs-moved (p ∷ ps) (q ∷ qs) h =
      let m = moves.each p.0 q.0 h.0.0 in
      let x = h.0.1 in
      let rest = pairs-moved ps qs h.1 in
      record { there = (m.there, rest.there); same = λ i. (m.same i, x i) ∷ rest.same i }

  pub instances-moved : (is js : List Instance) → Beside (InstanceMoves places) is js → InstancesMoved a b is js
  instances-moved [] [] h = record { there = tt; same = refl }
  instances-moved [] (j ∷ js) h = absurd h
  instances-moved (i ∷ is) [] h = absurd h
  instances-moved (i ∷ is) (j ∷ js) h =
      let m = h.0 a b moves in
      let rest = instances-moved is js h.1 in
      record { there = (m.there, rest.there); same = λ k. m.same k ∷ rest.same k }

  pub rounds-moved : (rs ss : List Round) → Beside (RoundMoves places) rs ss → RoundsMoved a b rs ss
  rounds-moved [] [] h = record { there = tt; same = refl }
  rounds-moved [] (s ∷ ss) h = absurd h
  rounds-moved (r ∷ rs) [] h = absurd h
  rounds-moved (r ∷ rs) (s ∷ ss) h =
      let m = h.0 a b moves in
      let rest = rounds-moved rs ss h.1 in
      record { there = (m.table, m.members, rest.there); same = λ k. m.same k ∷ rest.same k }

pub instance-moves : (places : List (Option TermId)) (i j : Instance) → j.rule ≡ i.rule → ((a b : Arena) → AreMoves a b places → AllMoved a b i.values j.values) → InstanceMoves places i j
instance-moves places i j rule values a b moves =
    let m = values a b moves in
    record { there = m.there; same = λ k. record { rule = rule k; values = m.same k } }
