-- Terms that are printed piece by piece.
use Rattle.std.proofs.Common.{◌≡◌, ℕ, suc, ◌<◌, ◌≤◌, ◌+◌, ◌-◌, Bool, true, false, Option, Result, Ok, Err, OnOk, List, [], ◌∷◌, ◌++◌, length, take, drop, get_or, Some, slice_get, if◌then◌else◌, refl, sym, ap, ◌∙◌, subst, append_assoc, append-nil, arith}
use Rattle.std.specs.Borrow.{Bor}
use Rattle.std.proofs.lemmas.List.{take_rest}
use Rattle.std.proofs.lemmas.List.Elements.{All-push}
use Rattle.spv_logic.specs.declared.names.names.Symbol.{Symbol}
use Rattle.spv_logic.specs.declared.conditions.TermId.{TermId}
use Rattle.spv_term.specs.declared.nodes.Node.{Node}
use Rattle.spv_term.specs.Arena.{Arena, IsArena, AllBelow, tree, trees}
use Rattle.spv_term.proofs.ArenaLemmas.{tree-node, args_in_range}
use Rattle.spv_listing.specs.printed.Printed.{head_text, stands_alone, term_text, arguments_text}
use Rattle.spv_listing.specs.printed.Waiting.{rest_text, rest_texts, steps, all_steps, steps_left, AreTerms, Begins}

-- ---- answers

pub on_ok : {T F : Type 0} (r : Result T F) {P Q : Type 0} → OnOk r P → (P → Q) → OnOk r Q
on_ok (Ok t) p next = next p
on_ok (Err e) p next = tt

-- a list that is not empty: its first item and the others
pub first_of : (args : List TermId) (d : TermId) → 1 ≤ length args → args ≡ get_or args 0 d ∷ take (length args - 1) (drop 1 args)
first_of [] d some = absurd (omega arith)
first_of (t ∷ args) d some = ap (λ ts. t ∷ ts) (sym (take_rest (t ∷ args) 1))

module _ (names : List (List ℕ)) (titles : List (Option Symbol)) (a : Arena) where
  -- ---- one more term waits

  pub rest_texts-push : (waiting : List (Bor (List TermId))) (args : Bor (List TermId))
      → rest_texts names titles a (waiting ++ args ∷ []) ≡ rest_text names titles a args.now ++ rest_texts names titles a waiting
  rest_texts-push [] args = sym (append-nil (rest_text names titles a args.now))
  rest_texts-push (first ∷ waiting) args =
      ap (λ l. l ++ rest_text names titles a first.now) (rest_texts-push waiting args)
      ∙ append_assoc (rest_text names titles a args.now) (rest_texts names titles a waiting) (rest_text names titles a first.now)

  pub steps_left-push : (waiting : List (Bor (List TermId))) (args : Bor (List TermId))
      → steps_left a (waiting ++ args ∷ []) ≡ suc (all_steps (trees a args.now)) + steps_left a waiting
  steps_left-push [] args = refl
  steps_left-push (first ∷ waiting) args =
      let more = steps_left-push waiting args in
      grind (arith)

  -- ---- the front of a term

  module _ (ok : IsArena a) (t : TermId) (n : Node) (at : slice_get a.nodes t.0 ≡ Some n) where
    abbrev text_by : Bool → List ℕ
    text_by alone = if alone then head_text names titles n.head else 40 ∷ (head_text names titles n.head ++ arguments_text names titles (trees a n.args) ++ 41 ∷ [])

    alone_text : stands_alone n.head ≡ true → term_text names titles (tree a t) ≡ head_text names titles n.head
    alone_text alone = ap (term_text names titles) (tree-node a ok t n at) ∙ ap text_by alone

    bracketed_text : stands_alone n.head ≡ false → term_text names titles (tree a t) ≡ 40 ∷ (head_text names titles n.head ++ rest_text names titles a n.args)
    bracketed_text bracketed =
        ap (term_text names titles) (tree-node a ok t n at) ∙ ap text_by bracketed
        ∙ ap (λ l. 40 ∷ l) (append_assoc (head_text names titles n.head) (arguments_text names titles (trees a n.args)) (41 ∷ []))

    steps_node : steps (tree a t) ≡ suc (suc (all_steps (trees a n.args)))
    steps_node = ap steps (tree-node a ok t n at)

    -- a head that stands alone is the whole term
    pub begins-alone : stands_alone n.head ≡ true → (out more : List ℕ) (waiting : List (Bor (List TermId))) → AreTerms a waiting
        → more ≡ out ++ head_text names titles n.head → Begins names titles a (term_text names titles (tree a t)) (steps (tree a t)) out waiting more waiting
    begins-alone alone out more waiting are e =
        let rest = rest_texts names titles a waiting in
        let count : steps (tree a t) ≡ suc (suc (all_steps (trees a n.args))) = steps_node in
        record {
          text_is = ap (λ l. l ++ rest) e ∙ append_assoc out (head_text names titles n.head) rest ∙ ap (λ l. out ++ (l ++ rest)) (sym (alone_text alone));
          fewer = omega arith;
          are_terms = are;
        }

    -- behind the head of another one its arguments wait
    pub begins-bracketed : stands_alone n.head ≡ false → (out more : List ℕ) (waiting waits : List (Bor (List TermId))) (args : Bor (List TermId)) → AreTerms a waiting
        → more ≡ (out ++ 40 ∷ []) ++ head_text names titles n.head → waits ≡ waiting ++ args ∷ [] → args.now ≡ n.args
        → Begins names titles a (term_text names titles (tree a t)) (steps (tree a t)) out waiting more waits
    begins-bracketed bracketed out more waiting waits args are e f same =
        let h = head_text names titles n.head in
        let rest = rest_texts names titles a waiting in
        let front = rest_text names titles a n.args in
        let count : steps (tree a t) ≡ suc (suc (all_steps (trees a n.args))) = steps_node in
        let left : steps_left a waits ≡ suc (all_steps (trees a n.args)) + steps_left a waiting =
        ap (steps_left a) f ∙ steps_left-push waiting args ∙ ap (λ ts. suc (all_steps (trees a ts)) + steps_left a waiting) same in
        let rests : rest_texts names titles a waits ≡ front ++ rest =
        ap (rest_texts names titles a) f ∙ rest_texts-push waiting args ∙ ap (λ ts. rest_text names titles a ts ++ rest) same in
        let below : AllBelow (length a.nodes) args.now = subst (AllBelow (length a.nodes)) (sym same) (args_in_range a ok t n at) in
        record {
          text_is = (λ i. e i ++ rests i) ∙ nested out h front rest ∙ ap (λ l. out ++ (l ++ rest)) (sym (bracketed_text bracketed));
          fewer = omega arith;
          are_terms = subst (AreTerms a) (sym f) (All-push (λ ts. AllBelow (length a.nodes) ts.now) waiting args are below);
        }
      where
        nested : (o h r w : List ℕ) → ((o ++ 40 ∷ []) ++ h) ++ (r ++ w) ≡ o ++ ((40 ∷ (h ++ r)) ++ w)
        nested o h r w = simp (append_assoc) refl

  -- ---- the next argument of a term

  -- no argument is left
  pub begins-end : (out more : List ℕ) (waiting : List (Bor (List TermId))) (args : List TermId) → AreTerms a waiting
      → args ≡ [] → more ≡ out ++ 41 ∷ [] → Begins names titles a (rest_text names titles a args) (1 + all_steps (trees a args)) out waiting more waiting
  begins-end out more waiting args are none e =
      let rest = rest_texts names titles a waiting in
      record {
        text_is = ap (λ l. l ++ rest) e ∙ append_assoc out (41 ∷ []) rest ∙ ap (λ ts. out ++ (rest_text names titles a ts ++ rest)) (sym none);
        fewer = omega arith;
        are_terms = are;
      }

  -- the first of those that are left begins, and the others wait
  pub begins-next : (out mid more : List ℕ) (waiting between waits : List (Bor (List TermId))) (args : List TermId) (first : TermId) (others : Bor (List TermId))
      → args ≡ first ∷ others.now → mid ≡ out ++ 32 ∷ [] → between ≡ waiting ++ others ∷ []
      → Begins names titles a (term_text names titles (tree a first)) (steps (tree a first)) mid between more waits
      → Begins names titles a (rest_text names titles a args) (1 + all_steps (trees a args)) out waiting more waits
  begins-next out mid more waiting between waits args first others is e f begun =
      let rest = rest_texts names titles a waiting in
      let text = term_text names titles (tree a first) in
      let others_text = arguments_text names titles (trees a others.now) in
      let count : all_steps (trees a args) ≡ steps (tree a first) + all_steps (trees a others.now) = ap (λ ts. all_steps (trees a ts)) is in
      let left : steps_left a between ≡ suc (all_steps (trees a others.now)) + steps_left a waiting = ap (steps_left a) f ∙ steps_left-push waiting others in
      let rests : rest_texts names titles a between ≡ (others_text ++ 41 ∷ []) ++ rest = ap (rest_texts names titles a) f ∙ rest_texts-push waiting others in
      record {
        text_is = begun.text_is ∙ (λ i. e i ++ (text ++ rests i)) ∙ nested out text others_text rest ∙ ap (λ ts. out ++ (rest_text names titles a ts ++ rest)) (sym is);
        fewer = omega (arith, begun.fewer);
        are_terms = begun.are_terms;
      }
    where
      nested : (o t r w : List ℕ) → (o ++ 32 ∷ []) ++ (t ++ ((r ++ 41 ∷ []) ++ w)) ≡ o ++ (((32 ∷ (t ++ r)) ++ 41 ∷ []) ++ w)
      nested o t r w = simp (append_assoc) refl

-- a text is printed in part, and the rest of it waits
pub record Reached (names : List (List ℕ)) (titles : List (Option Symbol)) (a : Arena) (whole : List ℕ) (out : List ℕ) (waiting : List (Bor (List TermId))) : Type 0 where
  pub text_is : out ++ rest_texts names titles a waiting ≡ whole
  pub are_terms : AreTerms a waiting

module _ (names : List (List ℕ)) (titles : List (Option Symbol)) (a : Arena) (out more : List ℕ) (waiting popped waits : List (Bor (List TermId))) (args : Bor (List TermId))
    (last : waiting ≡ popped ++ args ∷ [])
    (begun : Begins names titles a (rest_text names titles a args.now) (1 + all_steps (trees a args.now)) out popped more waits) where
  -- what the last of those that wait adds to the text
  pub reached-more : (whole : List ℕ) → Reached names titles a whole out waiting → Reached names titles a whole more waits
  reached-more whole so_far = record {
    text_is = begun.text_is ∙ ap (λ l. out ++ l) (sym (ap (rest_texts names titles a) last ∙ rest_texts-push names titles a popped args)) ∙ so_far.text_is;
    are_terms = begun.are_terms;
  }

  pub fewer-left : steps_left a waits < steps_left a waiting
  fewer-left =
      let left : steps_left a waiting ≡ suc (all_steps (trees a args.now)) + steps_left a popped = ap (steps_left a) last ∙ steps_left-push names titles a popped args in
      omega (arith, begun.fewer)
