-- One more join.
use Rattle.std.proofs.Common.{◌≡◌, ℕ, List, [], ◌∷◌, ◌++◌, map, take, slice_get, Option, Some, sym, ap, ◌∙◌, subst, inl, inr, ◌⊎◌, arith}
use Rattle.spv_logic.specs.declared.conditions.TermId.{TermId}
use Rattle.spv_term.specs.declared.nodes.Node.{Node}
use Rattle.spv_union_find.specs.declared.classes.joins.Cause.{Cause}
use Rattle.spv_union_find.specs.declared.classes.joins.Cause.TheVariants.{Told, Congruent}
use Rattle.spv_union_find.specs.declared.classes.joins.Join.{Join}
use Rattle.spv_union_find.specs.classes.Classes.{label, IsJoin}
use Rattle.spv_union_find.proofs.classes.Lists.{of_push, get_left, get_within, take_push, take_whole}
use Rattle.spv_union_find.proofs.classes.Labels.{label_was_lower, label_stays}
use Rattle.spv_union_find.specs.signatures.Signatures.{Signature, held}
use Rattle.spv_congruence.specs.declared.facts.Fact.{Fact}
use Rattle.spv_congruence.specs.declared.facts.Equal.{Equal}
use Rattle.spv_congruence.specs.Graph.{id, label_of, HasNode, IsEarly, IsCause, IsLink, IsDue, IsEntered, IsLevel, Waits, HasLabel}
use Rattle.spv_congruence.proofs.Dues.{due_joined, due_same, row_joined, args_joined, has_or_stays, IsUpper, label_cases}

module _ (nodes : List (Option Node)) (added : List TermId) (count : ℕ) (told : List Fact) (n : ℕ) where
  -- the label of a term is that of a term
  pub label_early : (js : List Join) → ((i : ℕ) (j : Join) → slice_get js i ≡ Some j → IsLink nodes added count told n (take i js) j)
      → (t : TermId) → IsEarly added count t → IsEarly added count (id (label_of js t))
  label_early js links t early = by (label_cases js t.0)
    where
      by : (label js t.0 ≡ t.0) ⊎ IsUpper js (label js t.0) → IsEarly added count (id (label_of js t))
      by (inl e) = subst (λ x. IsEarly added count (id x)) (sym e) early
      by (inr u) = subst (λ x. IsEarly added count (id x)) (sym u.is) (links u.place u.join u.there).upper

  cause_joined : (js : List Join) (j : Join) (s t : TermId) (c : Cause) → IsCause nodes told n js s t c → IsCause nodes told n (js ++ j ∷ []) s t c
  cause_joined js j s t (Told place) h = h
  cause_joined js j s t Congruent h = record { left = h.left; right = h.right; left_is = h.left_is; right_is = h.right_is; heads = h.heads; args = args_joined js j h.left.args h.right.args h.args }

  module _ (js : List Join) (rs : List Signature) (rest : List Equal) (e : Equal) where
    -- the last equality is joined already
    pub skip_equal : label_of js e.left ≡ label_of js e.right → IsLevel nodes added count told n js rs (rest ++ e ∷ []) [] → IsLevel nodes added count told n js rs rest []
    skip_equal same h = record {
      told_due = λ i x less at eq. due_same js rest e x.left x.right same (h.told_due i x less at eq);
      entered = λ t m early is. by t m (h.entered t m early is);
      rows_are = h.rows_are;
      joins_are = h.joins_are;
      equals_are = λ i d at. h.equals_are i d (get_left rest (e ∷ []) i (get_within rest i d at) ∙ at);
    }
      where
        by : (t : TermId) (m : Node) → Waits [] t ⊎ IsEntered js rs (rest ++ e ∷ []) t m → Waits [] t ⊎ IsEntered js rs rest t m
        by t m (inl w) = inl w
        by t m (inr k) = inr (record { first = k.first; found = k.found; due = due_same js rest e k.first t same k.due })

    module _ (j : Join) (left : j.left ≡ e.left.0) (right : j.right ≡ e.right.0) (cause : j.cause ≡ e.cause) (limit : ℕ) (is : IsJoin limit js j) where
      ends_same : label_of (js ++ j ∷ []) e.left ≡ label_of (js ++ j ∷ []) e.right
      ends_same = by is.sides
        where
          upper_stays : (x : ℕ) → label js x ≡ j.upper → label (js ++ j ∷ []) x ≡ j.upper
          upper_stays x f = label_stays js j x (λ g. is.apart (sym g ∙ f)) ∙ f

          by : ((label js j.left ≡ j.lower) × (label js j.right ≡ j.upper)) ⊎ ((label js j.left ≡ j.upper) × (label js j.right ≡ j.lower)) → label_of (js ++ j ∷ []) e.left ≡ label_of (js ++ j ∷ []) e.right
          by (inl h) = label_was_lower js j e.left.0 (ap (label js) (sym left) ∙ h.0) ∙ sym (upper_stays e.right.0 (ap (label js) (sym right) ∙ h.1))
          by (inr h) = upper_stays e.left.0 (ap (label js) (sym left) ∙ h.0) ∙ sym (label_was_lower js j e.right.0 (ap (label js) (sym right) ∙ h.1))

      module _ (h : IsLevel nodes added count told n js rs (rest ++ e ∷ []) []) (d : IsDue nodes added count told n js e) where
        link : IsLink nodes added count told n js j
        link = record {
          left = subst (λ x. IsEarly added count (id x)) (sym left) d.left;
          right = subst (λ x. IsEarly added count (id x)) (sym right) d.right;
          lower = lower is.sides;
          upper = upper is.sides;
          cause = subst (λ c. IsCause nodes told n js (id j.left) (id j.right) c) (sym cause) (subst (λ x. IsCause nodes told n js (id x) (id j.right) e.cause) (sym left) (subst (λ x. IsCause nodes told n js e.left (id x) e.cause) (sym right) d.cause));
        }
          where
            left_label : IsEarly added count (id (label js j.left))
            left_label = subst (λ x. IsEarly added count (id (label js x))) (sym left) (label_early js h.joins_are e.left d.left)

            right_label : IsEarly added count (id (label js j.right))
            right_label = subst (λ x. IsEarly added count (id (label js x))) (sym right) (label_early js h.joins_are e.right d.right)

            lower : ((label js j.left ≡ j.lower) × (label js j.right ≡ j.upper)) ⊎ ((label js j.left ≡ j.upper) × (label js j.right ≡ j.lower)) → IsEarly added count (id j.lower)
            lower (inl f) = subst (λ x. IsEarly added count (id x)) f.0 left_label
            lower (inr f) = subst (λ x. IsEarly added count (id x)) f.1 right_label

            upper : ((label js j.left ≡ j.lower) × (label js j.right ≡ j.upper)) ⊎ ((label js j.left ≡ j.upper) × (label js j.right ≡ j.lower)) → IsEarly added count (id j.upper)
            upper (inl f) = subst (λ x. IsEarly added count (id x)) f.1 right_label
            upper (inr f) = subst (λ x. IsEarly added count (id x)) f.0 left_label

        -- the equality is joined; the terms that have an argument of the lower class wait
        pub one_joined : (ws : List TermId) → ((t : TermId) (m : Node) → IsEarly added count t → HasNode nodes t m → HasLabel js j.lower m.args → Waits ws t) → IsLevel nodes added count told n (js ++ j ∷ []) rs rest ws
        one_joined ws users = record {
          told_due = λ i x less at eq. due_joined js j rest e x.left x.right ends_same (h.told_due i x less at eq);
          entered = λ t m early at. by t m early at (h.entered t m early at) (has_or_stays js j m.args);
          rows_are = λ i r at. let k = h.rows_are i r at in
              record { node = k.node; is = k.is; early = k.early; head = k.head; labels_are = row_joined js j r.labels k.node.args k.labels_are };
          joins_are = of_push (λ i k. IsLink nodes added count told n (take i (js ++ j ∷ [])) k) js j
              (λ i k at. subst (λ before. IsLink nodes added count told n before k) (sym (take_push i js j (omega (arith, get_within js i k at)))) (h.joins_are i k at))
              (subst (λ before. IsLink nodes added count told n before j) (sym (take_whole js (j ∷ []))) link);
          equals_are = λ i k at. let g = h.equals_are i k (get_left rest (e ∷ []) i (get_within rest i k at) ∙ at) in
              record { left = g.left; right = g.right; cause = cause_joined js j k.left k.right k.cause g.cause };
        }
          where
            by : (t : TermId) (m : Node) → IsEarly added count t → HasNode nodes t m → Waits [] t ⊎ IsEntered js rs (rest ++ e ∷ []) t m
                → HasLabel js j.lower m.args ⊎ (map (label_of (js ++ j ∷ [])) m.args ≡ map (label_of js) m.args) → Waits ws t ⊎ IsEntered (js ++ j ∷ []) rs rest t m
            by t m early at old (inl u) = inl (users t m early at u)
            by t m early at (inl w) (inr s) = absurd (none w)
              where
                none : Waits [] t → ⊥
                none w = cc
            by t m early at (inr k) (inr s) = inr (record { first = k.first; found = ap (held rs m.head) s ∙ k.found; due = due_joined js j rest e k.first t ends_same k.due })
