-- Loops over statements and over arms.
use Rattle.std.proofs.Common.{◌≡◌, ◌<◌, ◌≤◌, ◌+◌, ℕ, zero, suc, ℤ, Option, List, [], ◌∷◌, ◌++◌, length, drop, get_or, Ok, Err, refl, sym, ap, subst, ◌∙◌, arith}
use Rattle.std.proofs.Math.Path.{fun_ext}
use Rattle.std.proofs.Math.Seq.{drop-cons}
use Rattle.std.proofs.lemmas.List.{drop_all}
use Rattle.spv_logic.specs.declared.types.Sort.TheVariants as sort
use Rattle.spv_program.specs.Expressions.{Expression}
use Rattle.spv_program.specs.Statements.{Statement, Arms, Sequence, Empty, If, Case, Repeat, no_arms, arm}
use Rattle.std.specs.declared.boxed.Box.{Box}
use Rattle.std.specs.Global.{Global, Vec}
use Rattle.spv_tree.specs.declared.syntax.statements.LoopForm.{LoopForm}
use Rattle.spv_tree.specs.declared.syntax.statements.LoopForm.TheVariants.{Repeat as RepeatForm}
use Rattle.spv_tree.specs.syntax.StatementViews.{loop_of}
use Rattle.spv_program.specs.Formulas.{Annotation}
use Rattle.spv_tree.specs.syntax.Formulas.{Formula}
use Rattle.spv_tree.specs.syntax.Statements as tree
use Rattle.spv_tree.specs.declared.syntax.lists.Several.{Several}
use Rattle.spv_tree.specs.declared.syntax.names.Constant.{Constant}
use Rattle.spv_tree.specs.syntax.Model.StatementSizes.{more_statements_of, more_arms_of, statement_size, more_statements_size, arm_size, more_arms_size}
use Rattle.spv_program.specs.declared.typed.statements.Arm.{Arm}
use Rattle.spv_program.specs.typed.StatementViews.{block_of, arms_of}
use Rattle.spv_typing.specs.declared.faults.TypeFault.{TypeFault}
use Rattle.spv_typing.specs.Outcomes.{Outcome, after, each}
use Rattle.spv_typing.specs.ExpressionWalk.{expression_of}
use Rattle.spv_typing.specs.StatementWalk.{Setting, ArmsSoFar, counting_kept, statement_walk, more_statements_walk, arm_walk, more_arms_walk, loop_walk, test_of, new_labels, one_more, dropped}
use Rattle.spv_environments.specs.Answers.{Stops}
use Rattle.spv_formula_typing.proofs.Exits.{stops_after}
use Rattle.spv_statement_typing.specs.Chains.{chain_walk, in_front, so_far, arms_walk, repeat_walk}
use Rattle.spv_statement_typing.specs.Parts.{tested}

-- ---- statements

-- statements in front of others
abbrev chained : List Statement → Statement → Statement
chained [] others = others
chained (s ∷ made) others = Sequence s (chained made others)

chained_all : (made : List Statement) → chained made Empty ≡ block_of made
chained_all [] = refl
chained_all (s ∷ made) = ap (Sequence s) (chained_all made)

chained_last : (made : List Statement) (s others : Statement) → chained made (Sequence s others) ≡ chained (made ++ s ∷ []) others
chained_last [] s others = refl
chained_last (t ∷ made) s others = ap (Sequence t) (chained_last made s others)

module _ (at : Setting) (first : tree.Statement) (more : List tree.Statement) where
  -- what was made, and what the statements behind it become
  pub record ChainSoFar (n : ℕ) (made : List Statement) : Type 0 where
    pub rest : chain_walk at first more ≡ after (more_statements_walk at (more_statements_of (drop n more))) (λ b. Ok (chained made b))

  pub chain_begun : (old made : List Statement) (s : Statement) → statement_walk at first ≡ Ok s → old ≡ [] → made ≡ old ++ s ∷ [] → ChainSoFar 0 made
  chain_begun old made s h none grown = record {
    rest =
        ap (λ o. after o (λ a. after (more_statements_walk at (more_statements_of more)) (λ b. Ok (Sequence a b)))) h
        ∙ ap (λ (l : List Statement). after (more_statements_walk at (more_statements_of more)) (λ b. Ok (chained l b))) (sym (grown ∙ ap (λ (l : List Statement). l ++ s ∷ []) none));
  }

  opened : (n : ℕ) (s : tree.Statement) (made : List Statement) → n < length more → s ≡ get_or more n s → ChainSoFar n made
      → chain_walk at first more
      ≡ after (after (statement_walk at s) (λ a. after (more_statements_walk at (more_statements_of (drop (suc n) more))) (λ b. Ok (Sequence a b)))) (λ b. Ok (chained made b))
  opened n s made within is so_far =
      so_far.rest
      ∙ ap (λ (ss : List tree.Statement). after (more_statements_walk at (more_statements_of ss)) (λ b. Ok (chained made b)))
      (drop-cons more n s within ∙ ap (λ (t : tree.Statement). t ∷ drop (suc n) more) (sym is))

  pub chain_more : (n : ℕ) (s : tree.Statement) (old made : List Statement) (a : Statement) → n < length more → s ≡ get_or more n s → statement_walk at s ≡ Ok a
      → made ≡ old ++ a ∷ [] → ChainSoFar n old → ChainSoFar (n + 1) made
  chain_more n s old made a within is h grown so_far = record {
    rest =
        opened n s old within is so_far
        ∙ ap (λ o. after (after o (λ a. after (more_statements_walk at (more_statements_of (drop (suc n) more))) (λ b. Ok (Sequence a b)))) (λ b. Ok (chained old b))) h
        ∙ by_case (more_statements_walk at (more_statements_of (drop (suc n) more)))
        ∙ ap (λ (m : ℕ). after (more_statements_walk at (more_statements_of (drop m more))) (λ b. Ok (chained made b))) next;
  }
    where
      next : suc n ≡ n + 1
      next = omega arith

      by_case : (o : Outcome Statement) → after (after o (λ b. Ok (Sequence a b))) (λ b. Ok (chained old b)) ≡ after o (λ b. Ok (chained made b))
      by_case (Ok b) = ap Ok (chained_last old a b ∙ ap (λ (l : List Statement). chained l b) (sym grown))
      by_case (Err e) = refl

  pub chain_stops : (n : ℕ) (s : tree.Statement) (made : List Statement) (e : TypeFault) → n < length more → s ≡ get_or more n s → Stops e (statement_walk at s) → ChainSoFar n made
      → Stops e (chain_walk at first more)
  chain_stops n s made e within is h so_far =
      subst (Stops e) (sym (opened n s made within is so_far))
      (stops_after e _ (λ b. Ok (chained made b)) (stops_after e (statement_walk at s) _ h))

  pub chain_all : (n : ℕ) (made : List Statement) → length more ≤ n → ChainSoFar n made → chain_walk at first more ≡ Ok (block_of made)
  chain_all n made past so_far =
      so_far.rest ∙ ap (λ (ss : List tree.Statement). after (more_statements_walk at (more_statements_of ss)) (λ b. Ok (chained made b))) (drop_all n more past)
      ∙ ap Ok (chained_all made)

-- ---- arms

in_front_all : (made : List Arm) → in_front made no_arms ≡ arms_of made
in_front_all [] = refl
in_front_all (a ∷ made) = ap (arm a.labels a.body.value) (in_front_all made)

in_front_last : (made : List Arm) (a : Arm) (others : Arms) → in_front made (arm a.labels a.body.value others) ≡ in_front (made ++ a ∷ []) others
in_front_last [] a others = refl
in_front_last (b ∷ made) a others = ap (arm b.labels b.body.value) (in_front_last made a others)

dropped_is : (before own : List ℤ) → dropped before (before ++ own) ≡ own
dropped_is [] own = refl
dropped_is (z ∷ before) own = dropped_is before own

module _ (at : Setting) where
  -- an arm with labels
  pub arm_is : (line : ℕ) (cs : Several Constant) (s : tree.Statement) (old new own : List ℤ) (made : List Arm) (a : Arm) → new_labels at.inside old cs ≡ Ok new → new ≡ old ++ own
      → statement_walk at s ≡ Ok a.body.value → a.labels ≡ own → arm_walk at (so_far old made) (tree.arm line cs s) ≡ Ok (so_far new (made ++ a ∷ []))
  arm_is line cs s old new own made a h added k same =
      ap (λ o. after o (λ all. after (statement_walk at s) (λ b. Ok (one_more (so_far old made) all (dropped old all) b)))) h
      ∙ ap (λ o. after o (λ b. Ok (one_more (so_far old made) new (dropped old new) b))) k
      ∙ ap (λ (l : List ℤ). Ok (one_more (so_far old made) new l a.body.value)) (ap (dropped old) added ∙ dropped_is old own ∙ sym same)
      ∙ ap (λ (f : Arms → Arms). Ok (record { labels = new; arms = f })) (fun_ext (λ others. in_front_last made a others))

  pub arm_labels_stop : (line : ℕ) (cs : Several Constant) (s : tree.Statement) (old : List ℤ) (made : List Arm) (e : TypeFault) → Stops e (new_labels at.inside old cs)
      → Stops e (arm_walk at (so_far old made) (tree.arm line cs s))
  arm_labels_stop line cs s old made e h = stops_after e (new_labels at.inside old cs) _ h

  pub arm_stops : (line : ℕ) (cs : Several Constant) (s : tree.Statement) (old new : List ℤ) (made : List Arm) (e : TypeFault) → new_labels at.inside old cs ≡ Ok new
      → Stops e (statement_walk at s) → Stops e (arm_walk at (so_far old made) (tree.arm line cs s))
  arm_stops line cs s old new made e h k =
      subst (Stops e) (sym (ap (λ o. after o (λ all. after (statement_walk at s) (λ b. Ok (one_more (so_far old made) all (dropped old all) b)))) h))
      (stops_after e (statement_walk at s) _ k)

  module _ (first : tree.Arm) (more : List tree.Arm) where
    pub record ArmsDone (n : ℕ) (seen : List ℤ) (made : List Arm) : Type 0 where
      pub rest : arms_walk at first more ≡ after (more_arms_walk at (so_far seen made) (more_arms_of (drop n more))) (λ all. Ok (all.arms no_arms))

    pub arms_begun : (old seen : List ℤ) (none made : List Arm) → old ≡ [] → none ≡ [] → arm_walk at (so_far old none) first ≡ Ok (so_far seen made) → ArmsDone 0 seen made
    arms_begun old seen none made h k walk = record {
      rest =
          ap (λ o. after o (λ one. after (more_arms_walk at one (more_arms_of more)) (λ all. Ok (all.arms no_arms))))
          (ap (λ (l : List ℤ). arm_walk at (so_far l []) first) (sym h) ∙ ap (λ (l : List Arm). arm_walk at (so_far old l) first) (sym k) ∙ walk);
    }

    pub arms_first_stop : (old : List ℤ) (none : List Arm) (e : TypeFault) → old ≡ [] → none ≡ [] → Stops e (arm_walk at (so_far old none) first) → Stops e (arms_walk at first more)
    arms_first_stop old none e h k walk =
        stops_after e (arm_walk at (so_far [] []) first) _
        (subst (λ (l : List ℤ). Stops e (arm_walk at (so_far l []) first)) h (subst (λ (l : List Arm). Stops e (arm_walk at (so_far old l) first)) k walk))

    arms_opened : (n : ℕ) (a : tree.Arm) (seen : List ℤ) (made : List Arm) → n < length more → a ≡ get_or more n a → ArmsDone n seen made
        → arms_walk at first more
        ≡ after (after (arm_walk at (so_far seen made) a) (λ next. more_arms_walk at next (more_arms_of (drop (suc n) more)))) (λ all. Ok (all.arms no_arms))
    arms_opened n a seen made within is done =
        done.rest
        ∙ ap (λ (xs : List tree.Arm). after (more_arms_walk at (so_far seen made) (more_arms_of xs)) (λ all. Ok (all.arms no_arms)))
        (drop-cons more n a within ∙ ap (λ (b : tree.Arm). b ∷ drop (suc n) more) (sym is))

    pub arms_more : (n : ℕ) (a : tree.Arm) (old seen : List ℤ) (before made : List Arm) → n < length more → a ≡ get_or more n a
        → arm_walk at (so_far old before) a ≡ Ok (so_far seen made) → ArmsDone n old before → ArmsDone (n + 1) seen made
    arms_more n a old seen before made within is walk done = record {
      rest =
          arms_opened n a old before within is done
          ∙ ap (λ o. after (after o (λ next. more_arms_walk at next (more_arms_of (drop (suc n) more)))) (λ all. Ok (all.arms no_arms))) walk
          ∙ ap (λ (m : ℕ). after (more_arms_walk at (so_far seen made) (more_arms_of (drop m more))) (λ all. Ok (all.arms no_arms))) next;
    }
      where
        next : suc n ≡ n + 1
        next = omega arith

    pub arms_stop : (n : ℕ) (a : tree.Arm) (seen : List ℤ) (made : List Arm) (e : TypeFault) → n < length more → a ≡ get_or more n a → Stops e (arm_walk at (so_far seen made) a)
        → ArmsDone n seen made → Stops e (arms_walk at first more)
    arms_stop n a seen made e within is walk done =
        subst (Stops e) (sym (arms_opened n a seen made within is done)) (stops_after e _ (λ all. Ok (all.arms no_arms)) (stops_after e (arm_walk at (so_far seen made) a) _ walk))

    pub arms_all : (n : ℕ) (seen : List ℤ) (made : List Arm) → length more ≤ n → ArmsDone n seen made → arms_walk at first more ≡ Ok (arms_of made)
    arms_all n seen made past done =
        done.rest ∙ ap (λ (xs : List tree.Arm). after (more_arms_walk at (so_far seen made) (more_arms_of xs)) (λ all. Ok (all.arms no_arms))) (drop_all n more past)
        ∙ ap Ok (in_front_all made)

-- ---- labels

pub label_stops : {S X : Type 0} (step : S → X → Outcome S) (state : S) (items : List X) (n : ℕ) (x : X) (e : TypeFault) (whole : Outcome S) → n < length items
    → x ≡ get_or items n x → each step state (drop n items) ≡ whole → Stops e (step state x) → Stops e whole
label_stops step state items n x e whole within is so_far h =
    subst (Stops e)
    (sym (ap (each step state) (drop-cons items n x within ∙ ap (λ y. y ∷ drop (suc n) items) (sym is))) ∙ so_far)
    (stops_after e (step state x) (λ next. each step next (drop (suc n) items)) h)

-- ---- a part of a list is no larger than the list

pub statement_within : (ss : List tree.Statement) (i : ℕ) (d : tree.Statement) → i < length ss → statement_size (get_or ss i d) ≤ more_statements_size (more_statements_of ss)
statement_within [] i d h = absurd (omega (arith, h))
statement_within (s ∷ ss) zero d h = omega arith
statement_within (s ∷ ss) (suc i) d h = omega (arith, statement_within ss i d (omega (arith, h)))

pub arm_within : (xs : List tree.Arm) (i : ℕ) (d : tree.Arm) → i < length xs → arm_size (get_or xs i d) ≤ more_arms_size (more_arms_of xs)
arm_within [] i d h = absurd (omega (arith, h))
arm_within (x ∷ xs) zero d h = omega arith
arm_within (x ∷ xs) (suc i) d h = omega (arith, arm_within xs i d (omega (arith, h)))

-- ---- loops

pub repeat_is : (at : Setting) (line on : ℕ) (f : Option Annotation) (first : tree.Statement) (more : List tree.Statement) (test : Formula)
    → loop_walk at line f (tree.repeat_loop on first (more_statements_of more) test) ≡ repeat_walk at line f first more test
repeat_is at line on f first more test = by_case (statement_walk at first) (more_statements_walk at (more_statements_of more))
  where
    by_case : (p q : Outcome Statement)
        → after p (λ a. after q (λ b. after (test_of at line test) (λ e. Ok (Repeat line f (Sequence a b) e))))
        ≡ after (after p (λ a. after q (λ b. Ok (Sequence a b)))) (λ s. after (test_of at line test) (λ e. Ok (Repeat line f s e)))
    by_case (Ok a) (Ok b) = refl
    by_case (Ok a) (Err e) = refl
    by_case (Err e) q = refl

pub repeat_walked : (at : Setting) (line on : ℕ) (f : Option Annotation) (whole : tree.Loop) (form : LoopForm) (a : Box tree.Statement Global) (xs : Vec tree.Statement) (b : Formula)
    (first : tree.Statement) (more : List tree.Statement) (test : Formula) → loop_of on form ≡ whole → form ≡ RepeatForm a xs b → first ≡ a.value → more ≡ xs.items → test ≡ b
    → repeat_walk at line f first more test ≡ loop_walk at line f whole
repeat_walked at line on f whole form a xs b first more test h k p q r =
    ap (λ (s : tree.Statement). repeat_walk at line f s more test) p
    ∙ ap (λ (ss : List tree.Statement). repeat_walk at line f a.value ss test) q
    ∙ ap (λ (g : Formula). repeat_walk at line f a.value xs.items g) r
    ∙ sym (repeat_is at line on f a.value xs.items b)
    ∙ ap (λ (l : LoopForm). loop_walk at line f (loop_of on l)) (sym k)
    ∙ ap (loop_walk at line f) h

-- ---- a CASE

-- what it is about is there, and its arms stop
pub selection_stops : (at : Setting) (line : ℕ) (about : Formula) (value : Expression) (first : tree.Arm) (more : List tree.Arm) (e : TypeFault) → tested at line sort.Int about ≡ Ok value
    → Stops e (arms_walk at first more) → Stops e (statement_walk at (tree.selection line about first (more_arms_of more)))
selection_stops at line about value first more e h k =
    subst (Stops e) (inner (arm_walk at (so_far [] []) first) ∙ ap (λ o. after o (λ v. after (arm_walk at (so_far [] []) first) (λ one. after (more_arms_walk at one (more_arms_of more)) (λ all. Ok (Case line v (all.arms no_arms)))))) (sym h) ∙ outer (expression_of at.inside sort.Int about))
    (stops_after e (arms_walk at first more) (λ arms. Ok (Case line value arms)) k)
  where
    behind : (o : Outcome ArmsSoFar) → after (after o (λ all. Ok (all.arms no_arms))) (λ arms. Ok (Case line value arms)) ≡ after o (λ all. Ok (Case line value (all.arms no_arms)))
    behind (Ok all) = refl
    behind (Err x) = refl

    inner : (o : Outcome ArmsSoFar)
        → after (after o (λ one. after (more_arms_walk at one (more_arms_of more)) (λ all. Ok (all.arms no_arms)))) (λ arms. Ok (Case line value arms))
        ≡ after o (λ one. after (more_arms_walk at one (more_arms_of more)) (λ all. Ok (Case line value (all.arms no_arms))))
    inner (Ok one) = behind (more_arms_walk at one (more_arms_of more))
    inner (Err x) = refl

    outer : (o : Outcome Expression)
        → after (after o (λ n. counting_kept at line (If line n Empty Empty) n)) (λ v. after (arm_walk at (so_far [] []) first) (λ one. after (more_arms_walk at one (more_arms_of more)) (λ all. Ok (Case line v (all.arms no_arms)))))
        ≡ after o (λ n. after (counting_kept at line (If line n Empty Empty) n) (λ v. after (arm_walk at (so_far [] []) first) (λ one. after (more_arms_walk at one (more_arms_of more)) (λ all. Ok (Case line v (all.arms no_arms))))))
    outer (Ok n) = refl
    outer (Err x) = refl
