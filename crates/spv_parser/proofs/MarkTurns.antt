-- The turns of the loop over where routines begin and end.
use Rattle.std.proofs.Common.{true, false, ◌≡◌, ◌≤◌, ◌<◌, ℕ, zero, suc, ◌+◌, ◌-◌, arith, List, [], ◌∷◌, ◌++◌, refl, sym, ap, ◌∙◌, subst, append_assoc, append-nil}
use Rattle.spv_tree.specs.declared.tokens.token.Token.{Token}
use Rattle.spv_tree.specs.declared.tokens.token.TokenKind.TheVariants as kind
use Rattle.spv_tree.specs.declared.tokens.token.Sign.TheVariants as sign
use Rattle.spv_tree.specs.syntax.Statements.{Block}
use Rattle.spv_tree.specs.declared.syntax.routines.RoutineMark.{RoutineMark}
use Rattle.spv_tree.specs.declared.syntax.routines.RoutineMark.TheVariants.{Announced, Begins, Ends}
use Rattle.spv_grammar.specs.reading.Readers.{Stop, Outcome, Read, Halted, front, and_then, ended}
use Rattle.spv_grammar.specs.reading.StatementReaders.{read_block}
use Rattle.spv_grammar.specs.reading.RoutineReaders.{begins_heading, begun_behind, read_mark, marks_by, marks}
use Rattle.spv_parser.specs.Marks.{MarksSoFar}

-- what is read behind these marks
abbrev behind_all : List RoutineMark → Outcome (List RoutineMark) → Outcome (List RoutineMark)
behind_all done o = and_then o (λ others behind. Read (done ++ others, behind))

-- a further mark, whatever the rest makes of it
one_more : (o : Outcome (List RoutineMark)) (done : List RoutineMark) (m : RoutineMark) → behind_all done (and_then o (λ ms rest. Read (m ∷ ms, rest))) ≡ behind_all (done ++ m ∷ []) o
one_more (Halted s) done m = refl
one_more (Read r) done m = λ i. Read (sym (append_assoc done (m ∷ []) r.0) i, r.1)

-- one more has begun at most
one_up : (begun : ℕ) (m : RoutineMark) → begun_behind begun m ≤ begun + 1
one_up begun (Announced h c) = omega arith
one_up begun (Begins h c l) = omega arith
one_up begun (Ends b) = omega arith

module _ (levels : ℕ) where
  -- a turn is left
  one_left : (end counter begun : ℕ) (rest : List Token) → counter < end → marks levels (end - counter) begun rest ≡ marks_by levels (marks levels (end - (counter + 1))) begun (begins_heading (front rest)) rest
  one_left end counter begun rest below =
      let is_suc : end - counter ≡ suc (end - (counter + 1)) = omega (arith, below) in
      ap (λ n. marks levels n begun rest) is_suc

  -- no routine has begun, and none begins here
  none_more : (left : ℕ) (rest : List Token) → begins_heading (front rest) ≡ false → marks levels left 0 rest ≡ Read ([], rest)
  none_more zero rest e = refl
  none_more (suc left) rest e = ap (λ b. marks_by levels (marks levels left) 0 b rest) e

  -- what stands where one has begun and none begins here
  at_end : (others : ℕ → List Token → Outcome (List RoutineMark)) (begun : ℕ) (rest : List Token) → 0 < begun → marks_by levels others begun false rest ≡ and_then (ended (kind.Sign sign.Semicolon) (read_block levels) rest) (λ b mid. and_then (others (begun - 1) mid) (λ ms last. Read (Ends b ∷ ms, last)))
  at_end others zero rest h = absurd (omega (arith, h))
  at_end others (suc begun) rest h =
      let e : begun ≡ suc begun - 1 = omega arith in
      ap (λ n. and_then (ended (kind.Sign sign.Semicolon) (read_block levels) rest) (λ b mid. and_then (others n mid) (λ ms last. Read (Ends b ∷ ms, last)))) e

module _ {levels : ℕ} {total : Outcome (List RoutineMark)} {end counter begun : ℕ} {done : List RoutineMark} {rest : List Token} where
  -- a routine begins or is announced
  pub begins : {m : RoutineMark} {mid : List Token} {now : ℕ} {all : List RoutineMark} → MarksSoFar levels total end counter begun done rest → counter < end → begins_heading (front rest) ≡ true → read_mark levels rest ≡ Read (m, mid) → now ≡ begun_behind begun m → all ≡ done ++ m ∷ [] → MarksSoFar levels total end (counter + 1) now all mid
  begins {m} {mid} {now} {all} g below b e n f =
      let left : ℕ = end - (counter + 1) in
      let one : MarksSoFar levels total end (counter + 1) now (done ++ m ∷ []) mid =
      record {
        same = g.same
            ∙ ap (behind_all done) (one_left levels end counter begun rest below)
            ∙ ap (λ c. behind_all done (marks_by levels (marks levels left) begun c rest)) b
            ∙ ap (λ o. behind_all done (and_then o (λ x next. and_then (marks levels left (begun_behind begun x) next) (λ ms last. Read (x ∷ ms, last))))) e
            ∙ one_more (marks levels left (begun_behind begun m) mid) done m
            ∙ ap (λ k. behind_all (done ++ m ∷ []) (marks levels left k mid)) (sym n);
        within = omega (arith, n, one_up begun m, g.within);
      } in
      subst (λ (xs : List RoutineMark). MarksSoFar levels total end (counter + 1) now xs mid) (sym f) one

  -- a routine begins or is announced, and is not read
  pub begins_none : {s : Stop} → MarksSoFar levels total end counter begun done rest → counter < end → begins_heading (front rest) ≡ true → read_mark levels rest ≡ Halted s → total ≡ Halted s
  begins_none g below b e =
      let left : ℕ = end - (counter + 1) in
      g.same
      ∙ ap (behind_all done) (one_left levels end counter begun rest below)
      ∙ ap (λ c. behind_all done (marks_by levels (marks levels left) begun c rest)) b
      ∙ ap (λ o. behind_all done (and_then o (λ x next. and_then (marks levels left (begun_behind begun x) next) (λ ms last. Read (x ∷ ms, last))))) e

  ends_by : MarksSoFar levels total end counter begun done rest → counter < end → begins_heading (front rest) ≡ false → 0 < begun → total ≡ behind_all done (and_then (ended (kind.Sign sign.Semicolon) (read_block levels) rest) (λ b mid. and_then (marks levels (end - (counter + 1)) (begun - 1) mid) (λ ms last. Read (Ends b ∷ ms, last))))
  ends_by g below b some = g.same
      ∙ ap (behind_all done) (one_left levels end counter begun rest below)
      ∙ ap (λ c. behind_all done (marks_by levels (marks levels (end - (counter + 1))) begun c rest)) b
      ∙ ap (behind_all done) (at_end levels (marks levels (end - (counter + 1))) begun rest some)

  -- a routine ends
  pub ends : {b : Block} {mid : List Token} {now : ℕ} {all : List RoutineMark} → MarksSoFar levels total end counter begun done rest → counter < end → begins_heading (front rest) ≡ false → 0 < begun → ended (kind.Sign sign.Semicolon) (read_block levels) rest ≡ Read (b, mid) → now ≡ begun - 1 → all ≡ done ++ Ends b ∷ [] → MarksSoFar levels total end (counter + 1) now all mid
  ends {b} {mid} {now} {all} g below h some e n f =
      let left : ℕ = end - (counter + 1) in
      let one : MarksSoFar levels total end (counter + 1) now (done ++ Ends b ∷ []) mid =
      record {
        same = ends_by g below h some
            ∙ ap (λ o. behind_all done (and_then o (λ x next. and_then (marks levels left (begun - 1) next) (λ ms last. Read (Ends x ∷ ms, last))))) e
            ∙ one_more (marks levels left (begun - 1) mid) done (Ends b)
            ∙ ap (λ k. behind_all (done ++ Ends b ∷ []) (marks levels left k mid)) (sym n);
        within = omega (arith, n, g.within);
      } in
      subst (λ (xs : List RoutineMark). MarksSoFar levels total end (counter + 1) now xs mid) (sym f) one

  -- a routine has to end, and does not
  pub ends_none : {s : Stop} → MarksSoFar levels total end counter begun done rest → counter < end → begins_heading (front rest) ≡ false → 0 < begun → ended (kind.Sign sign.Semicolon) (read_block levels) rest ≡ Halted s → total ≡ Halted s
  ends_none g below h some e = ends_by g below h some
      ∙ ap (λ o. behind_all done (and_then o (λ x next. and_then (marks levels (end - (counter + 1)) (begun - 1) next) (λ ms last. Read (Ends x ∷ ms, last))))) e

  -- no routine has begun, and none begins here
  pub stops : MarksSoFar levels total end counter begun done rest → begins_heading (front rest) ≡ false → begun ≡ 0 → total ≡ Read (done, rest)
  stops g h zero_begun = g.same
      ∙ ap (λ n. behind_all done (marks levels (end - counter) n rest)) zero_begun
      ∙ ap (behind_all done) (none_more levels (end - counter) rest h)
      ∙ ap (λ xs. Read (xs, rest)) (append-nil done)
