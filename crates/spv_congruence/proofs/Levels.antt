-- The levels of a graph, when a fact is told, when facts are taken back, and when terms are added and entered.
use Rattle.std.proofs.Common.{◌≡◌, ◌≢◌, ℕ, ◌+◌, ◌<◌, ◌≤◌, List, [], ◌∷◌, ◌++◌, take, length, slice_get, sym, ap, ◌∙◌, subst, inl, inr, ◌⊎◌, arith}
use Rattle.std.proofs.lemmas.List.{length-append, length_push, length-take-le, get_or_append_left, get_or_push, get_or-take, take-append-le, take-take, take_all}
use Rattle.spv_union_find.specs.declared.classes.joins.Join.{Join}
use Rattle.spv_union_find.proofs.classes.Lists.{get_left, get_take, same_or_apart}
use Rattle.spv_union_find.specs.signatures.Signatures.{Signature, cells_of}
use Rattle.spv_congruence.specs.declared.facts.Fact.{Fact}
use Rattle.spv_congruence.specs.declared.facts.Level.{Level}
use Rattle.spv_congruence.specs.Graph.{Graph, IsLevel, Rises, IsUpTo, IsGraph, now_at, nowhere, level_at, joins_at, rows_at, terms_at}
use Rattle.spv_congruence.proofs.Keeping.{level_same}

pub cells_append : (rs more : List Signature) → cells_of (rs ++ more) ≡ cells_of rs + cells_of more
cells_append [] more = omega arith
cells_append (r ∷ rs) more = let h = cells_append rs more in omega (arith, h)

-- a graph at a level
abbrev pub At : Graph → Level → ℕ → Type 0
At g l n = IsLevel g.nodes g.added l.added g.told n (take l.joins g.joins) (take l.rows g.rows) [] []

abbrev pub Between : Graph → Level → Level → Type 0
Between g m n = Rises g.nodes m n (take m.rows g.rows) (take n.rows g.rows) (take m.added g.added) (take n.added g.added)

below_or_last : (n c : ℕ) → n < c + 1 → (n < c) ⊎ (n ≡ c)
below_or_last n c h = by (same_or_apart n c)
  where
    by : (n ≡ c) ⊎ (n ≢ c) → (n < c) ⊎ (n ≡ c)
    by (inl e) = inr e
    by (inr a) = inl (omega (arith, h, a))

between_itself : (g : Graph) (l : Level) → Between g l l
between_itself g l = record { added = omega arith; joins = omega arith; rows = omega arith; cells = omega arith }

-- facts that agree so far make no difference at a level
at_told : (g : Graph) (told' : List Fact) (l : Level) (n : ℕ) → ((i : ℕ) → i < n → slice_get told' i ≡ slice_get g.told i) → At g l n → At (record g { told = told' }) l n
at_told g told' l n same h = level_same g.nodes g.nodes g.added g.added l.added g.told told' n (record {
  keeps = record { node = λ t m is. is; early = λ t e. e; fact = λ i x less at. same i less ∙ at; more = omega arith };
  node_back = λ t m e is. is;
  early_back = λ t e. e;
  fact_back = λ i x less at. sym (same i less) ∙ at;
}) (take l.joins g.joins) (take l.rows g.rows) [] [] h

abbrev pub told_more : Graph → Fact → List Join → List Signature → Graph
told_more g x js rs = record g { told = g.told ++ x ∷ []; levels = g.levels ++ now_at g ∷ []; joins = g.joins ++ js; rows = g.rows ++ rs }

module _ (g : Graph) (x : Fact) (js : List Join) (rs : List Signature) (is : IsGraph g) where
  level_old : (n : ℕ) → n < length g.told → level_at (told_more g x js rs) n ≡ level_at g n
  level_old n less = get_or_append_left g.levels (now_at g ∷ []) nowhere n (let m = is.many in omega (arith, less, m))

  level_new : level_at (told_more g x js rs) (length g.told) ≡ now_at g
  level_new = get_or_push g.levels (now_at g) nowhere (length g.told) is.many

  -- at a level of before the same joins and signatures are there
  at_more : (l : Level) (n : ℕ) → l.joins ≤ length g.joins → l.rows ≤ length g.rows → n ≤ length g.told → At g l n → At (told_more g x js rs) l n
  at_more l n j r less h =
      subst (λ ks. IsLevel g.nodes g.added l.added (g.told ++ x ∷ []) n ks (take l.rows (g.rows ++ rs)) [] []) (sym (take-append-le l.joins g.joins js j))
      (subst (λ ks. IsLevel g.nodes g.added l.added (g.told ++ x ∷ []) n (take l.joins g.joins) ks [] []) (sym (take-append-le l.rows g.rows rs r))
      (at_told g (g.told ++ x ∷ []) l n (λ i h. get_left g.told (x ∷ []) i (omega (arith, h, less))) h))

  between_more : (l m : Level) → l.rows ≤ length g.rows → m.rows ≤ length g.rows → Between g l m → Between (told_more g x js rs) l m
  between_more l m r q h =
      subst (λ ks. Rises g.nodes l m ks (take m.rows (g.rows ++ rs)) (take l.added g.added) (take m.added g.added)) (sym (take-append-le l.rows g.rows rs r))
      (subst (λ ks. Rises g.nodes l m (take l.rows g.rows) ks (take l.added g.added) (take m.added g.added)) (sym (take-append-le m.rows g.rows rs q)) h)

  now_whole : At g (now_at g) (length g.told)
  now_whole =
      subst (λ ks. IsLevel g.nodes g.added (length g.added) g.told (length g.told) ks (take (length g.rows) g.rows) [] []) (sym (take_all (length g.joins) g.joins (omega arith)))
      (subst (λ ks. IsLevel g.nodes g.added (length g.added) g.told (length g.told) g.joins ks [] []) (sym (take_all (length g.rows) g.rows (omega arith))) is.now)

  up_whole : (m : ℕ) → m < length g.told → Between g (level_at g m) (now_at g)
  up_whole m less = subst (λ ks. Rises g.nodes (level_at g m) (now_at g) (rows_at g m) ks (terms_at g m) (take (length g.added) g.added)) (sym (take_all (length g.rows) g.rows (omega arith))) (is.up m less)

  past_told : (n : ℕ) → n < length (g.told ++ x ∷ []) → At (told_more g x js rs) (level_at (told_more g x js rs) n) n
  past_told n less = by (below_or_last n (length g.told) (let e = length_push g.told x in omega (arith, less, e)))
    where
      by : (n < length g.told) ⊎ (n ≡ length g.told) → At (told_more g x js rs) (level_at (told_more g x js rs) n) n
      by (inl h) =
          let u = is.up n h in
          let a = u.joins in
          let b = u.rows in
          subst (λ l. At (told_more g x js rs) l n) (sym (level_old n h)) (at_more (level_at g n) n a b (omega (arith, h)) (is.past n h))
      by (inr e) = subst (λ k. At (told_more g x js rs) (level_at (told_more g x js rs) k) k) (sym e)
          (subst (λ l. At (told_more g x js rs) l (length g.told)) (sym level_new) (at_more (now_at g) (length g.told) (omega arith) (omega arith) (omega arith) now_whole))

  rises_told : (m n : ℕ) → m ≤ n → n < length (g.told ++ x ∷ []) → Between (told_more g x js rs) (level_at (told_more g x js rs) m) (level_at (told_more g x js rs) n)
  rises_told m n le less = by (below_or_last n (length g.told) (let e = length_push g.told x in omega (arith, less, e)))
    where
      last : (m < length g.told) ⊎ (m ≡ length g.told) → Between (told_more g x js rs) (level_at (told_more g x js rs) m) (now_at g)
      last (inl h) =
          let b = (is.up m h).rows in
          subst (λ l. Between (told_more g x js rs) l (now_at g)) (sym (level_old m h)) (between_more (level_at g m) (now_at g) b (omega arith) (up_whole m h))
      last (inr e) = subst (λ l. Between (told_more g x js rs) l (now_at g)) (sym (ap (level_at (told_more g x js rs)) e ∙ level_new)) (between_itself (told_more g x js rs) (now_at g))

      by : (n < length g.told) ⊎ (n ≡ length g.told) → Between (told_more g x js rs) (level_at (told_more g x js rs) m) (level_at (told_more g x js rs) n)
      by (inl h) =
          let hm : m < length g.told = omega (arith, h, le) in
          let a = (is.up m hm).rows in
          let b = (is.up n h).rows in
          subst (λ l. Between (told_more g x js rs) l (level_at (told_more g x js rs) n)) (sym (level_old m hm))
          (subst (λ l. Between (told_more g x js rs) (level_at g m) l) (sym (level_old n h)) (between_more (level_at g m) (level_at g n) a b (is.rises m n le h)))
      by (inr e) = subst (λ l. Between (told_more g x js rs) (level_at (told_more g x js rs) m) l) (sym (ap (level_at (told_more g x js rs)) e ∙ level_new))
          (last (below_or_last m (length g.told) (omega (arith, le, e))))

  up_told : (m : ℕ) → m < length (g.told ++ x ∷ []) → Rises g.nodes (level_at (told_more g x js rs) m) (record { added = length g.added; joins = length (g.joins ++ js); rows = length (g.rows ++ rs) })
      (rows_at (told_more g x js rs) m) (g.rows ++ rs) (terms_at (told_more g x js rs) m) (take (length g.added) g.added)
  up_told m less =
      let h = rises_told m (length g.told) (let e = length_push g.told x in omega (arith, less, e)) (let e = length_push g.told x in omega (arith, e)) in
      let k = subst (λ l. Between (told_more g x js rs) (level_at (told_more g x js rs) m) l) level_new h in
      let a = k.added in
      let b = k.joins in
      let d = k.rows in
      let c = k.cells in
      let f = take-append-le (length g.rows) g.rows rs (omega arith) ∙ take_all (length g.rows) g.rows (omega arith) in
      let t = ap cells_of f in
      record {
        added = a;
        joins = (let n = length-append g.joins js in omega (arith, b, n));
        rows = (let n = length-append g.rows rs in omega (arith, d, n));
        cells = (let n = cells_append g.rows rs in omega (arith, c, t, n));
      }

  -- one more fact is told, and what it joins
  pub graph_told : IsLevel g.nodes g.added (length g.added) (g.told ++ x ∷ []) (length (g.told ++ x ∷ [])) (g.joins ++ js) (g.rows ++ rs) [] [] → IsGraph (told_more g x js rs)
  graph_told now = record {
    terms = is.terms;
    many = (let m = is.many in let a = length_push g.levels (now_at g) in let b = length_push g.told x in omega (arith, m, a, b));
    few = is.few;
    past = past_told;
    now = now;
    rises = rises_told;
    up = up_told;
  }

-- ---- facts are taken back

abbrev pub back_to : Graph → ℕ → Graph
back_to g n = record g { told = take n g.told; levels = take n g.levels; joins = joins_at g n; rows = rows_at g n }

module _ (g : Graph) (n : ℕ) (is : IsGraph g) (less : n < length g.told) where
  told_len : length (take n g.told) ≡ n
  told_len = length-take-le n g.told (omega (arith, less))

  level_back : (m : ℕ) → m < n → level_at (back_to g n) m ≡ level_at g m
  level_back m h = get_or-take n g.levels m nowhere h

  joins_len : length (joins_at g n) ≡ (level_at g n).joins
  joins_len = length-take-le (level_at g n).joins g.joins (let u = (is.up n less).joins in omega (arith, u))

  rows_len : length (rows_at g n) ≡ (level_at g n).rows
  rows_len = length-take-le (level_at g n).rows g.rows (let u = (is.up n less).rows in omega (arith, u))

  at_back : (l : Level) (m : ℕ) → l.joins ≤ (level_at g n).joins → l.rows ≤ (level_at g n).rows → m ≤ n → At g l m → At (back_to g n) l m
  at_back l m j r le h =
      subst (λ ks. IsLevel g.nodes g.added l.added (take n g.told) m ks (take l.rows (rows_at g n)) [] []) (sym (take-take l.joins (level_at g n).joins g.joins j))
      (subst (λ ks. IsLevel g.nodes g.added l.added (take n g.told) m (take l.joins g.joins) ks [] []) (sym (take-take l.rows (level_at g n).rows g.rows r))
      (at_told g (take n g.told) l m (λ i k. get_take g.told i n (omega (arith, k, le))) h))

  between_back : (l m : Level) → l.rows ≤ (level_at g n).rows → m.rows ≤ (level_at g n).rows → Between g l m → Between (back_to g n) l m
  between_back l m r q h =
      subst (λ ks. Rises g.nodes l m ks (take m.rows (rows_at g n)) (take l.added g.added) (take m.added g.added)) (sym (take-take l.rows (level_at g n).rows g.rows r))
      (subst (λ ks. Rises g.nodes l m (take l.rows g.rows) ks (take l.added g.added) (take m.added g.added)) (sym (take-take m.rows (level_at g n).rows g.rows q)) h)

  pub graph_back : IsUpTo (back_to g n) (level_at g n).added
  graph_back = record {
    terms = is.terms;
    many = (let m = is.many in let a = length-take-le n g.levels (omega (arith, m, less)) in omega (arith, a, told_len));
    few = (let u = (is.up n less).added in omega (arith, u));
    past = λ m h. past m (subst (λ k. m < k) told_len h);
    now = now;
    rises = λ k m le h. rises k m le (subst (λ i. m < i) told_len h);
    up = λ m h. up m (subst (λ i. m < i) told_len h);
  }
    where
      past : (m : ℕ) → m < n → At (back_to g n) (level_at (back_to g n) m) m
      past m h =
          let r = is.rises m n (omega (arith, h)) less in
          let a = r.joins in
          let b = r.rows in
          subst (λ l. At (back_to g n) l m) (sym (level_back m h)) (at_back (level_at g m) m a b (omega (arith, h)) (is.past m (omega (arith, h, less))))

      now : IsLevel g.nodes g.added (level_at g n).added (take n g.told) (length (take n g.told)) (joins_at g n) (rows_at g n) [] []
      now = subst (λ k. IsLevel g.nodes g.added (level_at g n).added (take n g.told) k (joins_at g n) (rows_at g n) [] []) (sym told_len)
          (at_told g (take n g.told) (level_at g n) n (λ i k. get_take g.told i n k) (is.past n less))

      rises : (k m : ℕ) → k ≤ m → m < n → Between (back_to g n) (level_at (back_to g n) k) (level_at (back_to g n) m)
      rises k m le h =
          let a = (is.rises k n (omega (arith, le, h)) less).rows in
          let b = (is.rises m n (omega (arith, h)) less).rows in
          subst (λ l. Between (back_to g n) l (level_at (back_to g n) m)) (sym (level_back k (omega (arith, le, h))))
          (subst (λ l. Between (back_to g n) (level_at g k) l) (sym (level_back m h)) (between_back (level_at g k) (level_at g m) a b (is.rises k m le (omega (arith, h, less)))))

      up : (m : ℕ) → m < n → Rises g.nodes (level_at (back_to g n) m) (record { added = (level_at g n).added; joins = length (joins_at g n); rows = length (rows_at g n) })
          (rows_at (back_to g n) m) (rows_at g n) (terms_at (back_to g n) m) (take (level_at g n).added g.added)
      up m h =
          let r = is.rises m n (omega (arith, h)) less in
          let a = r.added in
          let b = r.joins in
          let d = r.rows in
          let c = r.cells in
          let e = joins_len in
          let f = rows_len in
          subst (λ l. Rises g.nodes l (record { added = (level_at g n).added; joins = length (joins_at g n); rows = length (rows_at g n) }) (take l.rows (rows_at g n)) (rows_at g n) (take l.added g.added) (take (level_at g n).added g.added)) (sym (level_back m h))
          (subst (λ ks. Rises g.nodes (level_at g m) (record { added = (level_at g n).added; joins = length (joins_at g n); rows = length (rows_at g n) }) ks (rows_at g n) (terms_at g m) (take (level_at g n).added g.added)) (sym (take-take (level_at g m).rows (level_at g n).rows g.rows d))
          (record { added = a; joins = omega (arith, b, e); rows = omega (arith, d, f); cells = c }))
