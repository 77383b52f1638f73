-- A pass over the connectives in order finds the value of each term, and which of them clash.
use Rattle.std.proofs.Common.{◌≡◌, ◌≢◌, ℕ, ◌<◌, ◌≤◌, ◌+◌, Bool, true, false, cond, List, length, nat_eq, slice_get, slice_index_or, slice_set, refl, sym, ap, subst, ◌∙◌, Option, Some, None, arith, inl, inr}
use Rattle.std.specs.Prelude.{IfNone, IfSome}
use mathlib.Core.Path.{ap₂}
use mathlib.Core.Logic.{◌⊎◌}
use Rattle.std.proofs.lemmas.Bool.{false≢true}
use Rattle.std.proofs.lemmas.Bool.Decides.{eqb_tells}
use Rattle.std.proofs.lemmas.List.{get_or-set_same, get_or-set_other, length-set}
use Rattle.std.proofs.lemmas.Option.{slice_get_within, same_Some, slice_get-get_or}
use Rattle.spv_logic.specs.declared.conditions.TermId.{TermId}
use Rattle.spv_logic.specs.Terms.{Term}
use Rattle.spv_term.specs.declared.nodes.Node.{Node}
use Rattle.spv_term.specs.Arena.{Arena, IsArena, tree}
use Rattle.spv_term.proofs.ArenaLemmas.{node_of, args_before}
use Rattle.spv_term.proofs.TreeLemmas.{AllBelow-at}
use Rattle.spv_term.proofs.NodeLemmas.{id_from}
use Rattle.spv_atoms.specs.Tables.{or_else, computed}
use Rattle.spv_atoms.specs.Atoms as atoms
use Rattle.spv_atoms.specs.Valued.{valued_in}
use Rattle.spv_proof_rules.specs.Evaluation.{opposite}
use Rattle.spv_assignments.specs.kleene.Passes.{connects, plain_at, at, given_at, of_node, clashes_at, Gives, AreConnectives, AreStarted, AreQuiet, IsFilled, QuietBefore, HasPassed, NoConnectiveClashes, Clashes, NoneClashes, GivesListed, ClashesListed, NoneClashesListed}
use Rattle.spv_assignments.proofs.kleene.Heads.{plain_value, plain_none, AreFound, connected_value}

-- ---- one turn

module _ (a : Arena) (ok : IsArena a) (ids : List TermId) (are : AreConnectives a ids) where
  -- the arguments of the next connective have their values
  args_found : (given : Term → Option Bool) (k : ℕ) (found : List (Option Bool)) → IsFilled a given ids k found → (t : TermId) → slice_get ids k ≡ Some t → (n : Node) → slice_get a.nodes t.0 ≡ Some n → AreFound a given found n.args
  args_found given k found filled t is n node = record { each = λ i u e. at_argument i u e (connects a u) refl }
    where
      at_argument : (i : ℕ) (u : TermId) → slice_get n.args i ≡ Some u → (b : Bool) → connects a u ≡ b → at found u.0 ≡ valued_in a given u
      at_argument i u e true c =
          let before : u.0 < t.0 = AllBelow-at t.0 n.args i u (args_before a ok t n node) e in
          let inside : t.0 < length a.nodes = are.in_range k t is in
          let stands = are.all u (omega (arith, before, inside)) c in
          filled.earlier stands.place u (are.rising stands.place k u t stands.is is before) stands.is
      at_argument i u e false c =
          let before : u.0 < t.0 = AllBelow-at t.0 n.args i u (args_before a ok t n node) e in
          let inside : t.0 < length a.nodes = are.in_range k t is in
          filled.others u (omega (arith, before, inside)) c

  -- its computed value is what is found of it
  pub next_computed : (given : Term → Option Bool) (k : ℕ) (found : List (Option Bool)) → IsFilled a given ids k found → (t : TermId) → slice_get ids k ≡ Some t
      → computed (atoms.is_truth a.shapes a.decls) given (tree a t) ≡ of_node found (slice_get a.nodes t.0)
  next_computed given k found filled t is =
      let n = node_of a ok t (are.in_range k t is) in
      connected_value a ok given found t n.0 n.1 (are.connect k t is) (args_found given k found filled t is n.0 n.1)

  module _ (own : List (Option Bool)) (s : TermId) (v : Bool) where
    -- it clashes where this is opposite to what is given
    next_clashes : (given : Term → Option Bool) → Gives a own s v given → (k : ℕ) (found : List (Option Bool)) → IsFilled a given ids k found → (t : TermId) → slice_get ids k ≡ Some t
        → clashes_at a given t ≡ opposite (of_node found (slice_get a.nodes t.0)) (given_at own s v t)
    next_clashes given gives k found filled t is = ap₂ opposite (next_computed given k found filled t is) (gives.each t (are.in_range k t is))

    pub found_clash : (k : ℕ) (found : List (Option Bool)) → HasPassed a own s v ids k found → (t : TermId) → slice_get ids k ≡ Some t
        → opposite (of_node found (slice_get a.nodes t.0)) (given_at own s v t) ≡ true → Clashes a own s v t
    found_clash k found passed t is e = record {
      in_range = are.in_range k t is;
      clash = λ given gives. next_clashes given gives k found (passed.filled given gives) t is ∙ e;
    }

    -- the place of a connective before the next one, or that one
    before_or_at : (i k : ℕ) → i < k + 1 → (i < k) ⊎ (i ≡ k)
    before_or_at i k h = by_case (eqb_tells i k)
      where
        by_case : ((nat_eq i k ≡ true) × (i ≡ k)) ⊎ ((nat_eq i k ≡ false) × (i ≢ k)) → (i < k) ⊎ (i ≡ k)
        by_case (inl e) = inr e.1
        by_case (inr e) = inl (let other : i ≢ k = e.1 in omega (arith, h, other))

    module _ (k : ℕ) (found new : List (Option Bool)) (t : TermId) (is : slice_get ids k ≡ Some t) (set : new ≡ slice_set found t.0 (or_else (given_at own s v t) (of_node found (slice_get a.nodes t.0)))) where
      new_here : length found ≡ length a.nodes → at new t.0 ≡ or_else (given_at own s v t) (of_node found (slice_get a.nodes t.0))
      new_here count =
          let inside : t.0 < length a.nodes = are.in_range k t is in
          ap (λ xs. at xs t.0) set ∙ get_or-set_same found t.0 (or_else (given_at own s v t) (of_node found (slice_get a.nodes t.0))) None (omega (arith, inside, count))

      new_other : (u : TermId) → u.0 ≢ t.0 → at new u.0 ≡ at found u.0
      new_other u other = ap (λ xs. at xs u.0) set ∙ get_or-set_other found t.0 u.0 (or_else (given_at own s v t) (of_node found (slice_get a.nodes t.0))) None other

      new_count : length found ≡ length a.nodes → length new ≡ length a.nodes
      new_count count = ap length set ∙ (length-set found t.0 (or_else (given_at own s v t) (of_node found (slice_get a.nodes t.0))) ∙ count)

      pub new_filled : (given : Term → Option Bool) → Gives a own s v given → IsFilled a given ids k found → IsFilled a given ids (k + 1) new
      new_filled given gives filled = record {
        count = new_count filled.count;
        others = λ u h c. new_other u (apart u c) ∙ filled.others u h c;
        earlier = λ i u h e. by_case i u e (before_or_at i k h);
      }
        where
          apart : (u : TermId) → connects a u ≡ false → u.0 ≢ t.0
          apart u c same = false≢true (sym c ∙ (ap (connects a) (id_from u t same) ∙ are.connect k t is))

          value_here : at new t.0 ≡ valued_in a given t
          value_here = new_here filled.count ∙ sym (ap₂ or_else (gives.each t (are.in_range k t is)) (next_computed given k found filled t is))

          by_number : (i : ℕ) (u : TermId) → slice_get ids i ≡ Some u → i < k → ((nat_eq u.0 t.0 ≡ true) × (u.0 ≡ t.0)) ⊎ ((nat_eq u.0 t.0 ≡ false) × (u.0 ≢ t.0)) → at new u.0 ≡ valued_in a given u
          by_number i u e h (inl same) = subst (λ (x : TermId). at new x.0 ≡ valued_in a given x) (sym (id_from u t same.1)) value_here
          by_number i u e h (inr other) = new_other u other.1 ∙ filled.earlier i u h e

          by_case : (i : ℕ) (u : TermId) → slice_get ids i ≡ Some u → (i < k) ⊎ (i ≡ k) → at new u.0 ≡ valued_in a given u
          by_case i u e (inl before) = by_number i u e before (eqb_tells u.0 t.0)
          by_case i u e (inr here) =
              let same : u ≡ t = same_Some u t (sym e ∙ (ap (slice_get ids) here ∙ is)) in
              subst (λ (x : TermId). at new x.0 ≡ valued_in a given x) (sym same) value_here

      pub new_quiet : (given : Term → Option Bool) → Gives a own s v given → IsFilled a given ids k found → QuietBefore a given ids k → opposite (of_node found (slice_get a.nodes t.0)) (given_at own s v t) ≡ false
          → QuietBefore a given ids (k + 1)
      new_quiet given gives filled quiet c = record { each = λ i u h e. by_case i u e (before_or_at i k h) }
        where
          by_case : (i : ℕ) (u : TermId) → slice_get ids i ≡ Some u → (i < k) ⊎ (i ≡ k) → clashes_at a given u ≡ false
          by_case i u e (inl before) = quiet.each i u before e
          by_case i u e (inr here) =
              let same : u ≡ t = same_Some u t (sym e ∙ (ap (slice_get ids) here ∙ is)) in
              ap (clashes_at a given) same ∙ (next_clashes given gives k found filled t is ∙ c)

      pub passed_next : HasPassed a own s v ids k found → opposite (of_node found (slice_get a.nodes t.0)) (given_at own s v t) ≡ false → HasPassed a own s v ids (k + 1) new
      passed_next passed c = record {
        count = new_count passed.count;
        filled = λ given gives. new_filled given gives (passed.filled given gives);
        quiet = λ given gives. new_quiet given gives (passed.filled given gives) (passed.quiet given gives) c;
      }

    -- ---- the end

    pub passed_all : (k : ℕ) (found : List (Option Bool)) → HasPassed a own s v ids k found → length ids ≤ k → NoConnectiveClashes a own s v
    passed_all k found passed end = record {
      quiet = λ given gives t h c.
          let stands = are.all t h c in
          let inside = slice_get_within ids stands.place t stands.is in
          (passed.quiet given gives).each stands.place t (omega (arith, inside, end)) stands.is;
    }

-- ---- the start

module _ (a : Arena) (own start : List (Option Bool)) (started : AreStarted a own start) (s : TermId) (v : Bool) (inside : s.0 < length a.nodes) where
  pub given_here : (t : TermId) → t.0 ≡ s.0 → given_at own s v t ≡ Some v
  given_here t e = ap (λ b. cond b (Some v) (at own t.0)) (here (eqb_tells t.0 s.0))
    where
      here : ((nat_eq t.0 s.0 ≡ true) × (t.0 ≡ s.0)) ⊎ ((nat_eq t.0 s.0 ≡ false) × (t.0 ≢ s.0)) → nat_eq t.0 s.0 ≡ true
      here (inl x) = x.0
      here (inr x) = absurd (x.1 e)

  pub given_there : (t : TermId) → t.0 ≢ s.0 → given_at own s v t ≡ at own t.0
  given_there t other = ap (λ b. cond b (Some v) (at own t.0)) (there (eqb_tells t.0 s.0))
    where
      there : ((nat_eq t.0 s.0 ≡ true) × (t.0 ≡ s.0)) ⊎ ((nat_eq t.0 s.0 ≡ false) × (t.0 ≢ s.0)) → nat_eq t.0 s.0 ≡ false
      there (inl x) = absurd (other x.1)
      there (inr x) = x.0

  pub passed_none : (ids : List TermId) (found : List (Option Bool)) → found ≡ slice_set start s.0 (Some v) → HasPassed a own s v ids 0 found
  passed_none ids found e = record {
    count = count;
    filled = λ given gives. record { count = count; others = λ t h c. by_case given gives t h c (eqb_tells t.0 s.0); earlier = λ i t h is. absurd (omega (arith, h)) };
    quiet = λ given gives. record { each = λ i t h is. absurd (omega (arith, h)) };
  }
    where
      count : length found ≡ length a.nodes
      count = ap length e ∙ (length-set start s.0 (Some v) ∙ started.count)

      by_case : (given : Term → Option Bool) → Gives a own s v given → (t : TermId) → t.0 < length a.nodes → connects a t ≡ false → ((nat_eq t.0 s.0 ≡ true) × (t.0 ≡ s.0)) ⊎ ((nat_eq t.0 s.0 ≡ false) × (t.0 ≢ s.0))
          → at found t.0 ≡ valued_in a given t
      by_case given gives t h c (inl same) =
          ap (λ xs. at xs t.0) e
          ∙ (ap (λ i. at (slice_set start s.0 (Some v)) i) same.1
          ∙ (get_or-set_same start s.0 (Some v) None (omega (arith, inside, started.count))
          ∙ sym (ap (λ o. or_else o (computed (atoms.is_truth a.shapes a.decls) given (tree a t))) (gives.each t h ∙ given_here t same.1))))
      by_case given gives t h c (inr other) =
          ap (λ xs. at xs t.0) e
          ∙ (get_or-set_other start s.0 t.0 (Some v) None other.1
          ∙ (started.each t h ∙ sym (ap₂ or_else (gives.each t h ∙ given_there t other.1) (plain_value a given t c))))

  -- where no connective clashes, and no other term, none does
  pub none_clashes : AreQuiet a own → opposite (plain_at a s) (Some v) ≡ false → NoConnectiveClashes a own s v → NoneClashes a own s v
  none_clashes others e connectives = record { quiet = λ given gives t h. by_case given gives t h (connects a t) refl (eqb_tells t.0 s.0) }
    where
      by_case : (given : Term → Option Bool) → Gives a own s v given → (t : TermId) → t.0 < length a.nodes → (b : Bool) → connects a t ≡ b
          → ((nat_eq t.0 s.0 ≡ true) × (t.0 ≡ s.0)) ⊎ ((nat_eq t.0 s.0 ≡ false) × (t.0 ≢ s.0)) → clashes_at a given t ≡ false
      by_case given gives t h true c which = connectives.quiet given gives t h c
      by_case given gives t h false c (inl same) =
          ap₂ opposite (plain_value a given t c ∙ ap (plain_at a) (id_from t s same.1)) (gives.each t h ∙ given_here t same.1) ∙ e
      by_case given gives t h false c (inr other) =
          ap₂ opposite (plain_value a given t c) (gives.each t h ∙ given_there t other.1) ∙ others.each t h

  -- the term itself clashes where it has the other value by itself
  pub itself_clashes : opposite (plain_at a s) (Some v) ≡ true → Clashes a own s v s
  itself_clashes e = record { in_range = inside; clash = λ given gives. by_case given gives (connects a s) refl }
    where
      by_case : (given : Term → Option Bool) → Gives a own s v given → (b : Bool) → connects a s ≡ b → clashes_at a given s ≡ true
      by_case given gives true c = absurd (false≢true (sym (ap (λ o. opposite o (Some v)) (plain_none a s c)) ∙ e))
      by_case given gives false c = ap₂ opposite (plain_value a given s c) (gives.each s inside ∙ given_here s refl) ∙ e

-- ---- the end of the whole

-- after a pass over all connectives none clashes
pub none_found : (a : Arena) (own start : List (Option Bool)) → AreStarted a own start → (s : TermId) (v : Bool) → s.0 < length a.nodes → AreQuiet a own → (o : Option Bool) → o ≡ plain_at a s → (b : Bool) → b ≡ opposite o (Some v) → b ≡ false
    → (found : Option TermId) → IfNone found (NoConnectiveClashes a own s v) → IfNone found (NoneClashes a own s v)
none_found a own start started s v inside quiet o is b same e None h =
    none_clashes a own start started s v inside quiet (sym (same ∙ ap (λ x. opposite x (Some v)) is) ∙ e) h
none_found a own start started s v inside quiet o is b same e (Some t) h = h

-- one more term is quiet
pub quiet_next : (a : Arena) (own : List (Option Bool)) (n : ℕ) (t : TermId) → t.0 ≡ n → ((u : TermId) → u.0 < n → opposite (plain_at a u) (at own u.0) ≡ false) → opposite (plain_at a t) (at own t.0) ≡ false
    → (u : TermId) → u.0 < n + 1 → opposite (plain_at a u) (at own u.0) ≡ false
quiet_next a own n t here before now u h = by_case (eqb_tells u.0 t.0)
  where
    by_case : ((nat_eq u.0 t.0 ≡ true) × (u.0 ≡ t.0)) ⊎ ((nat_eq u.0 t.0 ≡ false) × (u.0 ≢ t.0)) → opposite (plain_at a u) (at own u.0) ≡ false
    by_case (inl same) = ap (λ (x : TermId). opposite (plain_at a x) (at own x.0)) (id_from u t same.1) ∙ now
    by_case (inr other) = before u (let apart : u.0 ≢ t.0 = other.1 in omega (arith, h, apart, here))

-- ---- a turn of the loop, as the code makes it

module _ (a : Arena) (ok : IsArena a) (ids : List TermId) (are : AreConnectives a ids) (own : List (Option Bool)) (s : TermId) (v : Bool)
    (k : ℕ) (found : List (Option Bool)) (passed : HasPassed a own s v ids k found) (d : TermId) (inside : k < length ids) where
  abbrev this : TermId
  this = slice_index_or ids k d

  this_at : slice_get ids k ≡ Some this
  this_at = slice_get-get_or ids k d inside

  pub turn_inside : this.0 < length found
  turn_inside = let h : this.0 < length a.nodes = are.in_range k this this_at in omega (arith, h, passed.count)

  module _ (items : List (Option Bool)) (same : items ≡ found) (value : Option Bool) (computed_is : value ≡ of_node items (slice_get a.nodes this.0)) (given : Option Bool) (given_is : given ≡ given_at own s v this)
      (b : Bool) (opposite_is : b ≡ opposite value given) where
    value_is : value ≡ of_node found (slice_get a.nodes this.0)
    value_is = computed_is ∙ ap (λ xs. of_node xs (slice_get a.nodes this.0)) same

    pub turn_clashes : b ≡ true → Clashes a own s v this
    turn_clashes e = found_clash a ok ids are own s v k found passed this this_at (sym (opposite_is ∙ ap₂ opposite value_is given_is) ∙ e)

    pub turn_passes : b ≡ false → (new : List (Option Bool)) (kept : Option Bool) → kept ≡ or_else given value → new ≡ slice_set found this.0 kept → HasPassed a own s v ids (k + 1) new
    turn_passes e new kept kept_is set =
        passed_next a ok ids are own s v k found new this this_at (set ∙ ap (slice_set found this.0) (kept_is ∙ ap₂ or_else given_is value_is)) passed (sym (opposite_is ∙ ap₂ opposite value_is given_is) ∙ e)

-- ---- where each term has what is listed: a term past the end has another value

module _ (a : Arena) (own start : List (Option Bool)) (started : AreStarted a own start) (s : TermId) (v : Bool) (past : s.0 ≡ length a.nodes) where
  pub listed_at : (t : TermId) → t.0 < length a.nodes → given_at own s v t ≡ at own t.0
  listed_at t h = ap (λ b. cond b (Some v) (at own t.0)) (there (eqb_tells t.0 s.0))
    where
      there : ((nat_eq t.0 s.0 ≡ true) × (t.0 ≡ s.0)) ⊎ ((nat_eq t.0 s.0 ≡ false) × (t.0 ≢ s.0)) → nat_eq t.0 s.0 ≡ false
      there (inl x) = let e : t.0 ≡ s.0 = x.1 in absurd (omega (arith, h, e, past))
      there (inr x) = x.0

  pub listed_start : (ids : List TermId) (found : List (Option Bool)) → found ≡ start → HasPassed a own s v ids 0 found
  listed_start ids found e = record {
    count = count;
    filled = λ given gives. record {
      count = count;
      others = λ t h c. ap (λ xs. at xs t.0) e ∙ (started.each t h ∙ sym (ap₂ or_else (gives.each t h ∙ listed_at t h) (plain_value a given t c)));
      earlier = λ i t h is. absurd (omega (arith, h));
    };
    quiet = λ given gives. record { each = λ i t h is. absurd (omega (arith, h)) };
  }
    where
      count : length found ≡ length a.nodes
      count = ap length e ∙ started.count

  gives_too : (given : Term → Option Bool) → GivesListed a own given → Gives a own s v given
  gives_too given gives = record { each = λ t h. gives.each t h ∙ sym (listed_at t h) }

  pub listed_clashes : (found : Option TermId) → IfSome found (Clashes a own s v) → IfSome found (ClashesListed a own)
  listed_clashes None h = h
  listed_clashes (Some t) h = record { in_range = h.in_range; clash = λ given gives. h.clash given (gives_too given gives) }

  pub listed_quiet : AreQuiet a own → (found : Option TermId) → IfNone found (NoConnectiveClashes a own s v) → IfNone found (NoneClashesListed a own)
  listed_quiet others None connectives = record { quiet = λ given gives t h. by_case given gives t h (connects a t) refl }
    where
      by_case : (given : Term → Option Bool) → GivesListed a own given → (t : TermId) → t.0 < length a.nodes → (b : Bool) → connects a t ≡ b → clashes_at a given t ≡ false
      by_case given gives t h true c = connectives.quiet given (gives_too given gives) t h c
      by_case given gives t h false c = ap₂ opposite (plain_value a given t c) (gives.each t h) ∙ others.each t h
  listed_quiet others (Some t) h = h
