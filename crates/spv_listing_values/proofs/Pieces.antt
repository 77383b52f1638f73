-- Terms that are printed piece by piece.
use Rattle.std.proofs.Common.{◌≡◌, ℕ, suc, ◌<◌, ◌≤◌, ◌+◌, ◌-◌, Option, Result, Ok, Err, IfOk, OnOk, List, [], ◌∷◌, ◌++◌, length, take, drop, get_or, refl, sym, ap, ◌∙◌, subst, append_assoc, append-nil, arith}
use Rattle.std.specs.Borrow.{Bor}
use Rattle.std.proofs.lemmas.List.{take_rest}
use Rattle.std.proofs.lemmas.List.Elements.{All-push}
use Rattle.spv_listing_values.specs.declared.texts.Text.{Text}
use Rattle.spv_listing_values.specs.Written.{Head, Alone, Applied, written, name_bytes, written_bytes}
use Rattle.spv_listing_values.specs.Places.{Flat, flat_in, IsTable, args_at, trees, tree}
use Rattle.spv_listing_values.specs.Waiting.{rest_text, rest_texts, term_steps, all_steps, steps_left, AreIn, AreTerms, Begins}
use Rattle.spv_listing_values.proofs.Trees.{tree-node, args_in}

-- ---- answers

pub on_ok : {T F : Type 0} (r : Result T F) {P Q : Type 0} → OnOk r P → (P → Q) → OnOk r Q
on_ok (Ok t) p next = next p
on_ok (Err e) p next = tt

pub if_ok : {T F : Type 0} (r : Result T F) {P Q : T → Type 0} → IfOk r P → ((t : T) → P t → Q t) → IfOk r Q
if_ok (Ok t) p next = next t p
if_ok (Err e) p next = tt

-- what `pop` says where there is nothing
pub nothing_popped : {X : Type 0} (waiting rest : List X) (count : ℕ) → waiting ≡ rest ++ [] → rest ≡ take (count - 1) waiting → count ≡ 0 → waiting ≡ []
nothing_popped {X} waiting rest count e f g =
    let none : count - 1 ≡ 0 = omega (arith, g) in
    e ∙ (append-nil rest ∙ (f ∙ ap (λ (n : ℕ). take n waiting) none))

-- a list that is not empty: its first item and the others
pub first_of : (args : List Text) (d : Text) → 1 ≤ length args → args ≡ get_or args 0 d ∷ take (length args - 1) (drop 1 args)
first_of [] d some = absurd (omega arith)
first_of (t ∷ args) d some = ap (λ (ts : List Text). t ∷ ts) (sym (take_rest (t ∷ args) 1))

module _ (fs : List Flat) where
  -- ---- one more term waits

  pub rest_texts-push : (waiting : List (Bor (List Text))) (args : Bor (List Text)) → rest_texts fs (waiting ++ args ∷ []) ≡ rest_text fs args.now ++ rest_texts fs waiting
  rest_texts-push [] args = sym (append-nil (rest_text fs args.now))
  rest_texts-push (first ∷ waiting) args =
      ap (λ (l : List ℕ). l ++ rest_text fs first.now) (rest_texts-push waiting args) ∙ append_assoc (rest_text fs args.now) (rest_texts fs waiting) (rest_text fs first.now)

  pub steps_left-push : (waiting : List (Bor (List Text))) (args : Bor (List Text))
      → steps_left fs (waiting ++ args ∷ []) ≡ suc (all_steps (args_at (trees fs) args.now)) + steps_left fs waiting
  steps_left-push [] args = refl
  steps_left-push (first ∷ waiting) args =
      let more = steps_left-push waiting args in
      grind (arith)

  -- ---- the front of a term

  module _ (ok : IsTable fs) (t : Text) (at : t.0 < length fs) where
    abbrev node : Flat
    node = flat_in fs t

    alone_text : (text : List ℕ) → node.head ≡ Alone text → written_bytes (tree fs t) ≡ text
    alone_text text e = ap written_bytes (tree-node fs ok t at) ∙ ap (λ (h : Head). written_bytes (written h (args_at (trees fs) node.args))) e

    applied_text : (text : List ℕ) (name : Option (List ℕ)) → node.head ≡ Applied text name
        → written_bytes (tree fs t) ≡ 40 ∷ (text ++ (name_bytes name ++ rest_text fs node.args))
    applied_text text name e = ap written_bytes (tree-node fs ok t at) ∙ ap (λ (h : Head). written_bytes (written h (args_at (trees fs) node.args))) e

    steps_node : term_steps (tree fs t) ≡ suc (suc (all_steps (args_at (trees fs) node.args)))
    steps_node = ap term_steps (tree-node fs ok t at)

    -- a head that stands alone is the whole term
    pub begins-alone : (text : List ℕ) → node.head ≡ Alone text → (out more : List ℕ) (waiting : List (Bor (List Text))) → AreTerms fs waiting
        → more ≡ out ++ text → Begins fs (written_bytes (tree fs t)) (term_steps (tree fs t)) out waiting more waiting
    begins-alone text alone out more waiting are e =
        let rest = rest_texts fs waiting in
        let count : term_steps (tree fs t) ≡ suc (suc (all_steps (args_at (trees fs) node.args))) = steps_node in
        record {
          text_is = ap (λ (l : List ℕ). l ++ rest) e ∙ (append_assoc out text rest ∙ ap (λ (l : List ℕ). out ++ (l ++ rest)) (sym (alone_text text alone)));
          fewer = omega arith;
          are_terms = are;
        }

    -- behind the head of another one its arguments wait
    pub begins-applied : (text : List ℕ) (name : Option (List ℕ)) → node.head ≡ Applied text name → (out more : List ℕ) (waiting waits : List (Bor (List Text))) (args : Bor (List Text))
        → AreTerms fs waiting → more ≡ out ++ (40 ∷ (text ++ name_bytes name)) → waits ≡ waiting ++ args ∷ [] → args.now ≡ node.args
        → Begins fs (written_bytes (tree fs t)) (term_steps (tree fs t)) out waiting more waits
    begins-applied text name applied out more waiting waits args are e f same =
        let rest = rest_texts fs waiting in
        let front = rest_text fs node.args in
        let count : term_steps (tree fs t) ≡ suc (suc (all_steps (args_at (trees fs) node.args))) = steps_node in
        let left : steps_left fs waits ≡ suc (all_steps (args_at (trees fs) node.args)) + steps_left fs waiting =
        ap (steps_left fs) f ∙ (steps_left-push waiting args ∙ ap (λ (ts : List Text). suc (all_steps (args_at (trees fs) ts)) + steps_left fs waiting) same) in
        let rests : rest_texts fs waits ≡ front ++ rest =
        ap (rest_texts fs) f ∙ (rest_texts-push waiting args ∙ ap (λ (ts : List Text). rest_text fs ts ++ rest) same) in
        let below : AreIn fs args.now = subst (AreIn fs) (sym same) (args_in fs ok t at) in
        record {
          text_is =
              ap (λ (l : List ℕ). l ++ rest_texts fs waits) e
              ∙ (ap (λ (l : List ℕ). (out ++ (40 ∷ (text ++ name_bytes name))) ++ l) rests
              ∙ (nested out text (name_bytes name) front rest ∙ ap (λ (l : List ℕ). out ++ (l ++ rest)) (sym (applied_text text name applied))));
          fewer = omega arith;
          are_terms = subst (AreTerms fs) (sym f) (All-push (λ ts. AreIn fs ts.now) waiting args are below);
        }
      where
        nested : (o h n r w : List ℕ) → (o ++ (40 ∷ (h ++ n))) ++ (r ++ w) ≡ o ++ ((40 ∷ (h ++ (n ++ r))) ++ w)
        nested o h n r w = simp (append_assoc) refl

  -- ---- the next argument of a term

  -- no argument is left
  pub begins-end : (out more : List ℕ) (waiting : List (Bor (List Text))) (args : List Text) → AreTerms fs waiting
      → args ≡ [] → more ≡ out ++ 41 ∷ [] → Begins fs (rest_text fs args) (1 + all_steps (args_at (trees fs) args)) out waiting more waiting
  begins-end out more waiting args are none e =
      let rest = rest_texts fs waiting in
      record {
        text_is = ap (λ (l : List ℕ). l ++ rest) e ∙ (append_assoc out (41 ∷ []) rest ∙ ap (λ (ts : List Text). out ++ (rest_text fs ts ++ rest)) (sym none));
        fewer = omega arith;
        are_terms = are;
      }

  -- the first of those that are left begins, and the others wait
  pub begins-next : (out mid more : List ℕ) (waiting between waits : List (Bor (List Text))) (args : List Text) (first : Text) (others : Bor (List Text))
      → args ≡ first ∷ others.now → mid ≡ out ++ 32 ∷ [] → between ≡ waiting ++ others ∷ []
      → Begins fs (written_bytes (tree fs first)) (term_steps (tree fs first)) mid between more waits
      → Begins fs (rest_text fs args) (1 + all_steps (args_at (trees fs) args)) out waiting more waits
  begins-next out mid more waiting between waits args first others is e f begun =
      let rest = rest_texts fs waiting in
      let text = written_bytes (tree fs first) in
      let others_text = rest_text fs others.now in
      let count : all_steps (args_at (trees fs) args) ≡ term_steps (tree fs first) + all_steps (args_at (trees fs) others.now) = ap (λ (ts : List Text). all_steps (args_at (trees fs) ts)) is in
      let left : steps_left fs between ≡ suc (all_steps (args_at (trees fs) others.now)) + steps_left fs waiting = ap (steps_left fs) f ∙ steps_left-push waiting others in
      let rests : rest_texts fs between ≡ others_text ++ rest = ap (rest_texts fs) f ∙ rest_texts-push waiting others in
      record {
        text_is =
            begun.text_is
            ∙ (ap (λ (l : List ℕ). l ++ (text ++ rest_texts fs between)) e
            ∙ (ap (λ (l : List ℕ). (out ++ 32 ∷ []) ++ (text ++ l)) rests ∙ (nested out text others_text rest ∙ ap (λ (ts : List Text). out ++ (rest_text fs ts ++ rest)) (sym is))));
        fewer = omega (arith, begun.fewer);
        are_terms = begun.are_terms;
      }
    where
      nested : (o t r w : List ℕ) → (o ++ 32 ∷ []) ++ (t ++ (r ++ w)) ≡ o ++ ((32 ∷ (t ++ r)) ++ w)
      nested o t r w = simp (append_assoc) refl

-- a text is printed in part, and the rest of it waits
pub record Reached (fs : List Flat) (whole : List ℕ) (out : List ℕ) (waiting : List (Bor (List Text))) : Type 0 where
  pub text_is : out ++ rest_texts fs waiting ≡ whole
  pub are_terms : AreTerms fs waiting

module _ (fs : List Flat) (out more : List ℕ) (waiting popped waits : List (Bor (List Text))) (args : Bor (List Text))
    (last : waiting ≡ popped ++ args ∷ [])
    (begun : Begins fs (rest_text fs args.now) (1 + all_steps (args_at (trees fs) args.now)) out popped more waits) where
  -- what the last of those that wait adds to the text
  pub reached-more : (whole : List ℕ) → Reached fs whole out waiting → Reached fs whole more waits
  reached-more whole so_far = record {
    text_is = begun.text_is ∙ (ap (λ (l : List ℕ). out ++ l) (sym (ap (rest_texts fs) last ∙ rest_texts-push fs popped args)) ∙ so_far.text_is);
    are_terms = begun.are_terms;
  }

  pub fewer-left : steps_left fs waits < steps_left fs waiting
  fewer-left =
      let left : steps_left fs waiting ≡ suc (all_steps (args_at (trees fs) args.now)) + steps_left fs popped = ap (steps_left fs) last ∙ steps_left-push fs popped args in
      omega (arith, begun.fewer)
