-- One more fact is told.
use Rattle.std.proofs.Common.{◌≡◌, ℕ, zero, suc, Bool, true, false, List, [], ◌∷◌, ◌++◌, take, length, slice_get, Option, Some, None, refl, ◌∙◌, subst, inl, inr, ◌⊎◌, arith, if◌then◌else◌}
use Rattle.std.proofs.lemmas.Bool.{false≢true}
use Rattle.std.proofs.lemmas.List.{length_push}
use Rattle.spv_logic.specs.declared.conditions.TermId.{TermId}
use Rattle.spv_term.specs.declared.nodes.Node.{Node}
use Rattle.spv_union_find.specs.declared.classes.joins.Cause.TheVariants.{Told}
use Rattle.spv_union_find.specs.declared.classes.joins.Join.{Join}
use Rattle.spv_union_find.proofs.classes.Lists.{of_push, get_left, get_push, get_within}
use Rattle.spv_union_find.specs.signatures.Signatures.{Signature}
use Rattle.spv_congruence.specs.declared.facts.Fact.{Fact}
use Rattle.spv_congruence.specs.declared.facts.Equal.{Equal}
use Rattle.spv_congruence.specs.Graph.{IsEarly, IsDue, IsEntered, IsLevel, Due, Waits}
use Rattle.spv_congruence.specs.Keep.{equal_of}
use Rattle.spv_congruence.proofs.Keeping.{Keeps, row_kept, link_kept}

due_any : (js : List Join) (es : List Equal) (s t : TermId) → Due js [] s t → Due js es s t
due_any js es s t h f a = h f tt

module _ (nodes : List (Option Node)) (added : List TermId) (c : ℕ) (told : List Fact) (js : List Join) (rs : List Signature) (x : Fact) (left : IsEarly added c x.left) (right : IsEarly added c x.right) (h : IsLevel nodes added c told (length told) js rs [] []) where
  keeps : Keeps nodes nodes added added c c told (told ++ x ∷ []) (length told) (length (told ++ x ∷ []))
  keeps = record {
    node = λ t m is. is;
    early = λ t e. e;
    fact = λ i y less at. get_left told (x ∷ []) i less ∙ at;
    more = (let e = length_push told x in omega (arith, e));
  }

  told_due : (i : ℕ) (y : Fact) → slice_get (told ++ x ∷ []) i ≡ Some y → y.equal ≡ true → Due js (equal_of x (length told)) y.left y.right
  told_due = of_push (λ i y. y.equal ≡ true → Due js (equal_of x (length told)) y.left y.right) told x
      (λ i y at eq. due_any js (equal_of x (length told)) y.left y.right (h.told_due i y (get_within told i y at) at eq))
      (λ eq. first x.equal eq)
    where
      first : (b : Bool) → b ≡ true → Due js (if b then record { left = x.left; right = x.right; cause = Told (length told) } ∷ [] else []) x.left x.right
      first true eq f a = a.0
      first false eq f a = absurd (false≢true eq)

  new_due : IsDue nodes added c (told ++ x ∷ []) (length (told ++ x ∷ [])) js (record { left = x.left; right = x.right; cause = Told (length told) }) → (b : Bool) → x.equal ≡ b → (i : ℕ) (e : Equal)
      → slice_get (if b then record { left = x.left; right = x.right; cause = Told (length told) } ∷ [] else []) i ≡ Some e → IsDue nodes added c (told ++ x ∷ []) (length (told ++ x ∷ [])) js e
  new_due is true eq zero e at = subst (IsDue nodes added c (told ++ x ∷ []) (length (told ++ x ∷ [])) js) (one _ e at) is
    where
      one : (d e : Equal) → Some d ≡ Some e → d ≡ e
      one d e h = cc
  new_due is true eq (suc i) e at = absurd (no e at)
    where
      no : (e : Equal) → None ≡ Some e → ⊥
      no e h = cc
  new_due is false eq i e at = absurd (no e at)
    where
      no : (e : Equal) → None ≡ Some e → ⊥
      no e h = cc

  due_at : (b : Bool) → x.equal ≡ b → (i : ℕ) (e : Equal) → slice_get (if b then record { left = x.left; right = x.right; cause = Told (length told) } ∷ [] else []) i ≡ Some e
      → IsDue nodes added c (told ++ x ∷ []) (length (told ++ x ∷ [])) js e
  due_at true eq i e at = new_due (record {
    left = left;
    right = right;
    cause = (omega (arith, length_push told x), record { fact = x; there = get_push told x; equal = eq; left = refl; right = refl });
  }) true eq i e at
  due_at false eq i e at = absurd (no e at)
    where
      no : (e : Equal) → None ≡ Some e → ⊥
      no e h = cc

  -- the graph after the fact, with its equality still to be joined
  pub now_told : IsLevel nodes added c (told ++ x ∷ []) (length (told ++ x ∷ [])) js rs (equal_of x (length told)) []
  now_told = record {
    told_due = λ i y less at eq. told_due i y at eq;
    entered = λ t m early is. by t m (h.entered t m early is);
    rows_are = λ i r at. row_kept nodes nodes added added c c told (told ++ x ∷ []) (length told) (length (told ++ x ∷ [])) keeps js r (h.rows_are i r at);
    joins_are = λ i j at. link_kept nodes nodes added added c c told (told ++ x ∷ []) (length told) (length (told ++ x ∷ [])) keeps (take i js) j (h.joins_are i j at);
    equals_are = due_at x.equal refl;
  }
    where
      by : (t : TermId) (m : Node) → Waits [] t ⊎ IsEntered js rs [] t m → Waits [] t ⊎ IsEntered js rs (equal_of x (length told)) t m
      by t m (inl w) = inl w
      by t m (inr k) = inr (record { first = k.first; found = k.found; due = due_any js (equal_of x (length told)) k.first t k.due })
