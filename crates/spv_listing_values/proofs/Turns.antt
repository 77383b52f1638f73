-- One line more, kind by kind: what a reader holds then is what the definition reads.
use Rattle.std.proofs.Common.{◌≡◌, ℕ, Bool, true, false, Option, Some, None, List, [], ◌∷◌, ◌++◌, All, map, refl, sym, ap, subst, ◌∙◌}
use Rattle.std.proofs.lemmas.List.{map-append}
use Rattle.std.proofs.lemmas.List.Elements.{All-append, All-from_recursion}
use Rattle.spv_whole.specs.Fraction.{Fraction}
use Rattle.spv_listing_values.specs.declared.data.Step.{Step}
use Rattle.spv_listing_values.specs.declared.data.Instance.{Instance}
use Rattle.spv_listing_values.specs.declared.data.Limit.{Limit}
use Rattle.spv_listing_values.specs.declared.data.Verdict.{Verdict}
use Rattle.spv_listing_values.specs.declared.data.Verdict.TheVariants.{GaveUp}
use Rattle.spv_listing_values.specs.declared.texts.Text.{Text}
use Rattle.spv_listing_values.specs.declared.current.Showing.{Showing}
use Rattle.spv_listing_values.specs.declared.current.Showing.TheVariants as showing
use Rattle.spv_listing_values.specs.declared.current.Judged.{Judged}
use Rattle.spv_listing_values.specs.declared.current.Current.{Current}
use Rattle.spv_listing_values.specs.declared.current.Current.TheVariants as current
use Rattle.spv_listing_values.specs.declared.reading.Read.{Read}
use Rattle.spv_listing_values.specs.declared.reading.Reader.{Reader}
use Rattle.spv_listing_values.specs.Written.{Written}
use Rattle.spv_listing_values.specs.Reading.{Reading, asking, with_given, with_goal, with_verdict, judged, with_branch, with_instance, with_value, on_node, with_step, with_split, with_case, with_some}
use Rattle.spv_listing_values.specs.Mapped.{step_at, instance_at, limit_at, verdict_at, step_terms, limit_terms, verdict_terms}
use Rattle.spv_listing_values.specs.Places.{Flat, tree, flats_of}
use Rattle.spv_listing_values.specs.Waiting.{AreIn}
use Rattle.spv_listing_values.specs.Entries.{written_claim}
use Rattle.spv_listing_values.specs.Interned.{flats_at}
use Rattle.spv_listing_values.specs.Told.{IsReady, Enters, Says}
use Rattle.spv_listing_values.specs.Kept.{shown, showing_takes_branch, showing_branch, showing_takes_instance, showing_instance, showing_takes_row, showing_row, showing_takes_step, showing_step, showing_split, showing_takes_case, showing_case, judged_claim, takes_goal, put_given, put_goal, takes_verdict, put_verdict, takes, puts, claims_of, state, terms_of, HasBegun}
use Rattle.spv_listing_values.specs.Followed.{IsRead, done_of, reading_of, IsReading, Reads, HasEnded}
use Rattle.spv_listing_values.proofs.Enters.{enters_none, entered_at_place}
use Rattle.spv_listing_values.proofs.Keeps.{Agree, agree_verdict, given_state, given_passed, goal_state, goal_passed, verdict_state, verdict_passed, puts_state, puts_passed, branch_shown, branch_passed, instance_shown, instance_passed, row_shown, row_passed, step_shown, step_passed, split_shown, split_passed, case_shown, case_passed}
use Rattle.spv_listing_values.proofs.Gained.{given_terms, goal_terms, verdict_gained, puts_terms, branch_terms, instance_gained, row_terms, step_gained, split_gained, case_gained, given_begun, goal_begun, verdict_begun, puts_begun}
use Rattle.spv_listing_values.proofs.Following.{follows, passed}
use Rattle.spv_listing_values.proofs.Within.{claim_is_read}

-- what a reader is after a step that changes its table and its last condition alone
pub record Turns (r n : Reader) (ws : List Written) (ts : List Text) (c : Current) : Type 0 where
  pub reading : IsReading r
  pub ready : IsReady n.table
  pub enters : Enters (flats_at r.table) (flats_at n.table) ws ts
  pub same : n.read.items ≡ r.read.items
  pub now : n.current ≡ c

-- the same without a term
pub turns_bare : (r n : Reader) (c : Current) → IsReading r → IsReady n.table → flats_at n.table ≡ flats_at r.table → n.read.items ≡ r.read.items → n.current ≡ c → Turns r n [] [] c
turns_bare r n c reading ready flats same now = record {
  reading = reading;
  ready = ready;
  enters = subst (λ (gs : List Flat). Enters (flats_at r.table) gs [] []) (sym flats) (enters_none (flats_at r.table));
  same = same;
  now = now;
}

module _ (r n : Reader) where
  -- the last condition becomes another one
  turned : (ws : List Written) (ts : List Text) (c : Current) (op : (Text → Written) → Reading → Reading) → Turns r n ws ts c → terms_of c ≡ terms_of r.current ++ ts → HasBegun c (done_of r)
      → ((f : Text → Written) → state f (done_of r) c ≡ op f (state f (done_of r) r.current)) → Reads n (op (tree (flats_at n.table)) (reading_of r))
  turned ws ts c op turns gained begun moved =
      follows r n ws ts op turns.reading turns.ready turns.enters turns.same (ap terms_of turns.now ∙ gained) (subst (λ (d : Current). HasBegun d (done_of r)) (sym turns.now) begun)
      (λ f. ap (state f (done_of r)) turns.now ∙ moved f)

  pub given_turn : (w : Written) (t : Text) → takes_goal r.current ≡ true → Turns r n (w ∷ []) (t ∷ []) (put_given t r.current) → Reads n (asking (with_given w) (reading_of r))
  given_turn w t h turns =
      subst (λ (v : Written). Reads n (asking (with_given v) (reading_of r))) (sym (entered_at_place (flats_at r.table) (flats_at n.table) w t turns.enters))
      (turned (w ∷ []) (t ∷ []) (put_given t r.current) (λ f. asking (with_given (f t))) turns (given_terms t r.current h) (given_begun t r.current (done_of r) h)
      (λ f. given_state f (done_of r) t r.current h))

  pub goal_turn : (w : Written) (t : Text) → takes_goal r.current ≡ true → Turns r n (w ∷ []) (t ∷ []) (put_goal t r.current) → Reads n (asking (with_goal w) (reading_of r))
  goal_turn w t h turns =
      subst (λ (v : Written). Reads n (asking (with_goal v) (reading_of r))) (sym (entered_at_place (flats_at r.table) (flats_at n.table) w t turns.enters))
      (turned (w ∷ []) (t ∷ []) (put_goal t r.current) (λ f. asking (with_goal (f t))) turns (goal_terms t r.current h) (goal_begun t r.current (done_of r) h)
      (λ f. goal_state f (done_of r) t r.current h))

  no_terms_agree : (f g : Text → Written) (ts : List Text) → ts ≡ [] → Agree f g ts
  no_terms_agree f g ts e = subst (Agree f g) (sym e) tt

  pub verdict_turn : (s : Showing) → takes_verdict r.current ≡ true → verdict_terms (shown s) ≡ [] → Turns r n [] [] (put_verdict s r.current)
      → (f : Text → Written) → Reads n (with_verdict (verdict_at f (shown s)) (reading_of r))
  verdict_turn s h none turns f =
      subst (λ (v : Verdict Written). Reads n (with_verdict v (reading_of r))) (agree_verdict (tree (flats_at n.table)) f (shown s) (no_terms_agree (tree (flats_at n.table)) f (verdict_terms (shown s)) none))
      (turned [] [] (put_verdict s r.current) (λ g. with_verdict (verdict_at g (shown s))) turns (verdict_gained s r.current h ∙ ap (λ (ts : List Text). terms_of r.current ++ ts) none)
      (verdict_begun s r.current (done_of r) h) (λ g. verdict_state g (done_of r) s r.current h))

  limit_by_turn : (wanted : Option (Limit Written)) (l : Limit Text) → takes_verdict r.current ≡ true → wanted ≡ Some (limit_at (tree (flats_at n.table)) l)
      → Turns r n (map (tree (flats_at n.table)) (limit_terms l)) (limit_terms l) (put_verdict (showing.Limit l) r.current)
      → Reads n (with_some (λ l. with_verdict (GaveUp l)) wanted (reading_of r))
  limit_by_turn wanted l h e turns =
      subst (λ (o : Option (Limit Written)). Reads n (with_some (λ l. with_verdict (GaveUp l)) o (reading_of r))) (sym e)
      (turned (map (tree (flats_at n.table)) (limit_terms l)) (limit_terms l) (put_verdict (showing.Limit l) r.current) (λ f. with_verdict (GaveUp (limit_at f l))) turns
      (verdict_gained (showing.Limit l) r.current h) (verdict_begun (showing.Limit l) r.current (done_of r) h) (λ f. verdict_state f (done_of r) (showing.Limit l) r.current h))

  pub limit_turn : (wanted : Option (Limit Written)) (o : Option (Limit Text)) (l : Limit Text) → takes_verdict r.current ≡ true → o ≡ Some l → Says limit_at limit_terms (flats_at r.table) (flats_at n.table) wanted o
      → IsReading r → IsReady n.table → n.read.items ≡ r.read.items → n.current ≡ put_verdict (showing.Limit l) r.current → Reads n (with_some (λ l. with_verdict (GaveUp l)) wanted (reading_of r))
  limit_turn wanted o l h is says reading ready same now =
      let told : (wanted ≡ Some (limit_at (tree (flats_at n.table)) l)) × Enters (flats_at r.table) (flats_at n.table) (map (tree (flats_at n.table)) (limit_terms l)) (limit_terms l) =
      subst (λ (x : Option (Limit Text)). Says limit_at limit_terms (flats_at r.table) (flats_at n.table) wanted x) is says in
      limit_by_turn wanted l h told.0 (record { reading = reading; ready = ready; enters = told.1; same = same; now = now })

  -- the verdict gets a part
  put_turn : (p : Showing → Bool) (g : Showing → Showing) (ws : List Written) (ts : List Text) (m : (Text → Written) → Verdict Written → Verdict Written) → takes p r.current ≡ true
      → Turns r n ws ts (puts g r.current) → ((s : Showing) → p s ≡ true → verdict_terms (shown (g s)) ≡ verdict_terms (shown s) ++ ts)
      → ((f : Text → Written) (s : Showing) → p s ≡ true → verdict_at f (shown (g s)) ≡ m f (verdict_at f (shown s))) → Reads n (judged (m (tree (flats_at n.table))) (reading_of r))
  put_turn p g ws ts m h turns gained moved =
      turned ws ts (puts g r.current) (λ f. judged (m f)) turns (puts_terms p g ts gained r.current h) (puts_begun p g r.current (done_of r) h) (λ f. puts_state f (done_of r) p g (m f) (moved f) r.current h)

  pub branch_turn : (w : Written) (t : Text) → takes showing_takes_branch r.current ≡ true → Turns r n (w ∷ []) (t ∷ []) (puts (showing_branch t) r.current) → Reads n (judged (with_branch w) (reading_of r))
  branch_turn w t h turns =
      subst (λ (v : Written). Reads n (judged (with_branch v) (reading_of r))) (sym (entered_at_place (flats_at r.table) (flats_at n.table) w t turns.enters))
      (put_turn showing_takes_branch (showing_branch t) (w ∷ []) (t ∷ []) (λ f. with_branch (f t)) h turns (branch_terms t) (λ f. branch_shown f t))

  pub instance_turn : (rule : ℕ) (ws : List Written) (ts : List Text) → takes showing_takes_instance r.current ≡ true → Turns r n ws ts (puts (showing_instance (record { rule = rule; values = ts })) r.current)
      → Reads n (judged (with_instance (record { rule = rule; values = ws })) (reading_of r))
  instance_turn rule ws ts h turns =
      subst (λ (vs : List Written). Reads n (judged (with_instance (record { rule = rule; values = vs })) (reading_of r))) turns.enters.trees
      (put_turn showing_takes_instance (showing_instance (record { rule = rule; values = ts })) ws ts (λ f. with_instance (instance_at f (record { rule = rule; values = ts }))) h turns
      (instance_gained (record { rule = rule; values = ts })) (λ f. instance_shown f (record { rule = rule; values = ts })))

  pub row_turn : (w : Written) (t : Text) (x : Fraction) → takes showing_takes_row r.current ≡ true → Turns r n (w ∷ []) (t ∷ []) (puts (showing_row (t, x)) r.current) → Reads n (judged (with_value (w, x)) (reading_of r))
  row_turn w t x h turns =
      subst (λ (v : Written). Reads n (judged (with_value (v, x)) (reading_of r))) (sym (entered_at_place (flats_at r.table) (flats_at n.table) w t turns.enters))
      (put_turn showing_takes_row (showing_row (t, x)) (w ∷ []) (t ∷ []) (λ f. with_value (f t, x)) h turns (row_terms (t, x)) (λ f. row_shown f (t, x)))

  step_by_turn : (wanted : Option (Step Written)) (p : Step Text) → takes showing_takes_step r.current ≡ true → wanted ≡ Some (step_at (tree (flats_at n.table)) p)
      → Turns r n (map (tree (flats_at n.table)) (step_terms p)) (step_terms p) (puts (showing_step p) r.current)
      → Reads n (with_some (λ p. judged (on_node (with_step p))) wanted (reading_of r))
  step_by_turn wanted p h e turns =
      subst (λ (o : Option (Step Written)). Reads n (with_some (λ p. judged (on_node (with_step p))) o (reading_of r))) (sym e)
      (put_turn showing_takes_step (showing_step p) (map (tree (flats_at n.table)) (step_terms p)) (step_terms p) (λ f. on_node (with_step (step_at f p))) h turns (step_gained p) (λ f. step_shown f p))

  pub step_turn : (wanted : Option (Step Written)) (o : Option (Step Text)) (p : Step Text) → takes showing_takes_step r.current ≡ true → o ≡ Some p → Says step_at step_terms (flats_at r.table) (flats_at n.table) wanted o
      → IsReading r → IsReady n.table → n.read.items ≡ r.read.items → n.current ≡ puts (showing_step p) r.current → Reads n (with_some (λ p. judged (on_node (with_step p))) wanted (reading_of r))
  step_turn wanted o p h is says reading ready same now =
      let told : (wanted ≡ Some (step_at (tree (flats_at n.table)) p)) × Enters (flats_at r.table) (flats_at n.table) (map (tree (flats_at n.table)) (step_terms p)) (step_terms p) =
      subst (λ (x : Option (Step Text)). Says step_at step_terms (flats_at r.table) (flats_at n.table) wanted x) is says in
      step_by_turn wanted p h told.0 (record { reading = reading; ready = ready; enters = told.1; same = same; now = now })

  pub split_turn : (cases : ℕ) (w : Written) (t : Text) → takes showing_takes_step r.current ≡ true → Turns r n (w ∷ []) (t ∷ []) (puts (showing_split (record { cases = cases; atom = t })) r.current)
      → Reads n (judged (on_node (with_split cases w)) (reading_of r))
  split_turn cases w t h turns =
      subst (λ (v : Written). Reads n (judged (on_node (with_split cases v)) (reading_of r))) (sym (entered_at_place (flats_at r.table) (flats_at n.table) w t turns.enters))
      (put_turn showing_takes_step (showing_split (record { cases = cases; atom = t })) (w ∷ []) (t ∷ []) (λ f. on_node (with_split cases (f t))) h turns (split_gained (record { cases = cases; atom = t }))
      (λ f. split_shown f (record { cases = cases; atom = t })))

  pub case_turn : takes showing_takes_case r.current ≡ true → Turns r n [] [] (puts showing_case r.current) → Reads n (judged with_case (reading_of r))
  case_turn h turns = put_turn showing_takes_case showing_case [] [] (λ f. with_case) h turns case_gained case_shown

-- ---- lines that stand out of order

module _ (r : Reader) (reading : IsReading r) where
  pub given_stays : (w : Written) → takes_goal r.current ≡ false → Reads r (asking (with_given w) (reading_of r))
  given_stays w h = passed r (asking (with_given w) (reading_of r)) reading (given_passed (tree (flats_at r.table)) (done_of r) w r.current h)

  pub goal_stays : (w : Written) → takes_goal r.current ≡ false → Reads r (asking (with_goal w) (reading_of r))
  goal_stays w h = passed r (asking (with_goal w) (reading_of r)) reading (goal_passed (tree (flats_at r.table)) (done_of r) w r.current h)

  -- whatever is said
  some_stays : {X : Type 0} (F : X → Reading → Reading) (wanted : Option X) → ((x : X) → F x (reading_of r) ≡ reading_of r) → Reads r (with_some F wanted (reading_of r))
  some_stays F None each = passed r (reading_of r) reading refl
  some_stays F (Some x) each = passed r (F x (reading_of r)) reading (each x)

  pub limit_stays : (wanted : Option (Limit Written)) → takes_verdict r.current ≡ false → Reads r (with_some (λ l. with_verdict (GaveUp l)) wanted (reading_of r))
  limit_stays wanted h = some_stays (λ l. with_verdict (GaveUp l)) wanted (λ l. verdict_passed (tree (flats_at r.table)) (done_of r) (GaveUp l) r.current h)

  pub branch_stays : (w : Written) → takes showing_takes_branch r.current ≡ false → Reads r (judged (with_branch w) (reading_of r))
  branch_stays w h =
      passed r (judged (with_branch w) (reading_of r)) reading
      (puts_passed (tree (flats_at r.table)) (done_of r) showing_takes_branch (with_branch w) (branch_passed (tree (flats_at r.table)) w) r.current reading.begun h)

  pub instance_stays : (i : Instance Written) → takes showing_takes_instance r.current ≡ false → Reads r (judged (with_instance i) (reading_of r))
  instance_stays i h =
      passed r (judged (with_instance i) (reading_of r)) reading
      (puts_passed (tree (flats_at r.table)) (done_of r) showing_takes_instance (with_instance i) (instance_passed (tree (flats_at r.table)) i) r.current reading.begun h)

  pub row_stays : (row : Written × Fraction) → takes showing_takes_row r.current ≡ false → Reads r (judged (with_value row) (reading_of r))
  row_stays row h =
      passed r (judged (with_value row) (reading_of r)) reading
      (puts_passed (tree (flats_at r.table)) (done_of r) showing_takes_row (with_value row) (row_passed (tree (flats_at r.table)) row) r.current reading.begun h)

  pub step_stays : (wanted : Option (Step Written)) → takes showing_takes_step r.current ≡ false → Reads r (with_some (λ p. judged (on_node (with_step p))) wanted (reading_of r))
  step_stays wanted h =
      some_stays (λ p. judged (on_node (with_step p))) wanted
      (λ p. puts_passed (tree (flats_at r.table)) (done_of r) showing_takes_step (on_node (with_step p)) (step_passed (tree (flats_at r.table)) p) r.current reading.begun h)

  pub split_stays : (cases : ℕ) (w : Written) → takes showing_takes_step r.current ≡ false → Reads r (judged (on_node (with_split cases w)) (reading_of r))
  split_stays cases w h =
      passed r (judged (on_node (with_split cases w)) (reading_of r)) reading
      (puts_passed (tree (flats_at r.table)) (done_of r) showing_takes_step (on_node (with_split cases w)) (split_passed (tree (flats_at r.table)) cases w) r.current reading.begun h)

  pub case_stays : takes showing_takes_case r.current ≡ false → Reads r (judged with_case (reading_of r))
  case_stays h =
      passed r (judged with_case (reading_of r)) reading
      (puts_passed (tree (flats_at r.table)) (done_of r) showing_takes_case with_case (case_passed (tree (flats_at r.table))) r.current reading.begun h)

-- ---- the end of a condition, and the beginning of the next one

-- a condition is done
pub ended_judged : (r n : Reader) (j : Judged) (e : Read) → IsReading r → r.current ≡ current.Judged j → e.texts ≡ flats_at r.table → e.claim ≡ judged_claim j → n.read.items ≡ r.read.items ++ e ∷ []
    → IsReady n.table → flats_at n.table ≡ [] → HasEnded n (reading_of r).claims
ended_judged r n j e reading is texts claim read ready empty = record {
  ready = ready;
  empty = empty;
  done =
      ap (map (λ (x : Read). written_claim x.texts x.claim)) read
      ∙ (map-append (λ (x : Read). written_claim x.texts x.claim) r.read.items (e ∷ [])
      ∙ ((λ i. done_of r ++ written_claim (texts i) (claim i) ∷ []) ∙ ap (λ (c : Current). done_of r ++ claims_of (tree (flats_at r.table)) c) (sym is)));
  read = subst (λ (es : List Read). All (λ x. IsRead x.texts x.claim) es) (sym read)
      (All-append (λ (x : Read). IsRead x.texts x.claim) r.read.items (e ∷ []) reading.read (All-from_recursion (λ (x : Read). IsRead x.texts x.claim) (e ∷ []) (one, tt)));
}
  where
    fs : List Flat
    fs = flats_at r.table

    is_claim : IsRead (flats_at r.table) (judged_claim j)
    is_claim =
        claim_is_read (flats_at r.table) (judged_claim j) (subst (λ (c : Current). AreIn (flats_at r.table) (terms_of c)) is reading.in_range)
        (subst (λ (c : Current). flats_at r.table ≡ flats_of (map (tree (flats_at r.table)) (terms_of c))) is reading.terms)

    one : IsRead e.texts e.claim
    one = subst (λ (gs : List Flat). IsRead gs e.claim) (sym texts) (subst (IsRead (flats_at r.table)) (sym claim) is_claim)
