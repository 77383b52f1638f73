-- How far a path was told, and going back to there.
use Rattle.std.proofs.Common.{◌≡◌, ℕ, zero, suc, ◌≤◌, List, [], ◌∷◌, ◌++◌, take, length, refl, sym, ap, ◌∙◌, subst, arith}
use Rattle.spv_logic.specs.Terms.{Term}
use Rattle.spv_term.specs.declared.nodes.Condition.{Condition}
use Rattle.spv_term.specs.Arena.{Arena}
use Rattle.spv_derivations.specs.declared.derivation.entries.Entry.{Entry}
use Rattle.spv_derivations.specs.derivation.Literals.{Literal}
use Rattle.spv_share.specs.declared.both.Both.{Both}
use Rattle.spv_share.specs.declared.both.Level.{Level}
use Rattle.spv_share.specs.Both.{IsBoth, IsLevel, IsNoLater, told}
use Rattle.spv_assignments.specs.declared.partial_assignment.facts.Known.{Known}
use Rattle.spv_trail.specs.trail_states.Told.{IsSettled}
use Rattle.spv_trail.specs.declared.backtracking.path.BranchTrail.{BranchTrail}
use Rattle.spv_trail.specs.declared.backtracking.marks.TrailMark.{TrailMark}
use Rattle.spv_trail.specs.backtracking.Paths.{GoesOn, IsEarlier, IsMark, IsBranchTrail}

-- ---- first items of lists

take_all : {A : Type 0} (xs : List A) → take (length xs) xs ≡ xs
take_all [] = refl
take_all (x ∷ xs) = ap (λ ys. x ∷ ys) (take_all xs)

take_more : {A : Type 0} (n : ℕ) (xs ys : List A) → n ≤ length xs → take n (xs ++ ys) ≡ take n xs
take_more zero xs ys h = refl
take_more (suc n) [] ys h = absurd (omega (arith, h))
take_more (suc n) (x ∷ xs) ys h = ap (λ zs. x ∷ zs) (take_more n xs ys (omega (arith, h)))

take_take : {A : Type 0} (m n : ℕ) (xs : List A) → m ≤ n → take m (take n xs) ≡ take m xs
take_take zero n xs h = refl
take_take (suc m) zero xs h = absurd (omega (arith, h))
take_take (suc m) (suc n) [] h = refl
take_take (suc m) (suc n) (x ∷ xs) h = ap (λ ys. x ∷ ys) (take_take m n xs (omega (arith, h)))

take_length : {A : Type 0} (n : ℕ) (xs : List A) → n ≤ length xs → length (take n xs) ≡ n
take_length zero xs h = refl
take_length (suc n) [] h = absurd (omega (arith, h))
take_length (suc n) (x ∷ xs) h = ap (λ k. suc k) (take_length n xs (omega (arith, h)))

longer_length : {A : Type 0} (xs ys more : List A) → ys ≡ xs ++ more → length xs ≤ length ys
longer_length xs ys more e = subst (λ (zs : List _). length xs ≤ length zs) (sym e) (grows xs more)
  where
    grows : {A : Type 0} (us vs : List A) → length us ≤ length (us ++ vs)
    grows [] vs = omega arith
    grows (u ∷ us) vs = let r = grows us vs in omega (arith, r)

settled_as : (a : Arena) (c : Condition) (es es2 : List Entry) (ks ks2 : List Known) (ls ls2 : List Literal) (cases : List Term) → es2 ≡ es → ks2 ≡ ks → ls2 ≡ ls → IsSettled a c es ks ls cases → IsSettled a c es2 ks2 ls2 cases
settled_as a c es es2 ks ks2 ls ls2 cases e f g h =
    subst (λ (xs : List Entry). IsSettled a c xs ks2 ls2 cases) (sym e) (subst (λ (xs : List Known). IsSettled a c es xs ls2 cases) (sym f) (subst (λ (xs : List Literal). IsSettled a c es ks xs cases) (sym g) h))

-- ---- marks

module _ (a : Arena) (c : Condition) (p : BranchTrail) (n k : ℕ) (l : Level) (entries_are : n ≡ length p.derivation) (known_are : k ≡ length p.known.items) where
  abbrev here : TrailMark
  here = record { entries = n; known = k; level = l }

  -- how far all of it is told
  pub mark_now : (cases : List Term) → IsBranchTrail a c cases p → IsLevel a p.both l → l.claims ≡ length (told p.both) → IsMark a c cases p here
  mark_now cases h level claims = record {
    entries_in = omega (arith, entries_are);
    known_in = omega (arith, known_are);
    level = level;
    settled = settled_as a c p.derivation (take n p.derivation) p.known.items (take k p.known.items) (told p.both) (take l.claims (told p.both)) cases (ap (λ (m : ℕ). take m p.derivation) entries_are ∙ take_all p.derivation)
        (ap (λ (m : ℕ). take m p.known.items) known_are ∙ take_all p.known.items) (ap (λ (m : ℕ). take m (told p.both)) claims ∙ take_all (told p.both)) h.settled;
  }

  pub last_mark : (cases : List Term) (m : TrailMark) → ((x : Level) → IsLevel a p.both x → IsNoLater x l) → IsMark a c cases p m → IsEarlier m here
  last_mark cases m last h = record {
    entries = let e = h.entries_in in omega (arith, e, entries_are);
    known = let e = h.known_in in omega (arith, e, known_are);
    level = last m.level h.level;
  }

-- where a path goes on, marks stay marks
pub marks_stay : (a : Arena) (c : Condition) (old new : BranchTrail) → GoesOn a old new → IsBoth a old.both → (cases : List Term) (m : TrailMark) → IsMark a c cases old m → IsMark a c cases new m
marks_stay a c old new goes both cases m h =
    let claims_in : m.level.claims ≤ length (told old.both) = let many = both.claims.many in let l = h.level.claims_in in omega (arith, many, l) in
    let entries = longer_length old.derivation new.derivation goes.derivation.more goes.derivation.is in
    let known = longer_length old.known.items new.known.items goes.known.more goes.known.is in
    record {
      entries_in = let e = h.entries_in in omega (arith, e, entries);
      known_in = let e = h.known_in in omega (arith, e, known);
      level = goes.both.levels m.level h.level;
      settled = settled_as a c (take m.entries old.derivation) (take m.entries new.derivation) (take m.known old.known.items) (take m.known new.known.items) (take m.level.claims (told old.both)) (take m.level.claims (told new.both)) cases
          (ap (take m.entries) goes.derivation.is ∙ take_more m.entries old.derivation goes.derivation.more h.entries_in) (ap (take m.known) goes.known.is ∙ take_more m.known old.known.items goes.known.more h.known_in)
          (ap (take m.level.claims) goes.both.longer.is ∙ take_more m.level.claims (told old.both) goes.both.longer.more claims_in) h.settled;
    }

-- ---- going back

module _ (a : Arena) (c : Condition) (old : BranchTrail) (es : List Entry) (ks : List Known) (b : Both) (m : TrailMark) (course_is : es ≡ take m.entries old.derivation) (known_is : ks ≡ take m.known old.known.items) (told_is : told b ≡ take m.level.claims (told old.both)) where
  pub back_settled : (cases : List Term) → IsMark a c cases old m → IsSettled a c es ks (told b) cases
  back_settled cases h = settled_as a c (take m.entries old.derivation) es (take m.known old.known.items) ks (take m.level.claims (told old.both)) (told b) cases course_is known_is told_is h.settled

  -- an earlier mark stays one
  pub earlier_stays : (p : BranchTrail) → p.derivation ≡ es → p.known.items ≡ ks → p.both ≡ b → (cases : List Term) (n : TrailMark) → m.entries ≤ length old.derivation → m.known ≤ length old.known.items → ((l : Level) → IsLevel a old.both l → IsNoLater l m.level → IsLevel a b l)
      → IsMark a c cases old n → IsEarlier n m → IsMark a c cases p n
  earlier_stays p e f same cases n entries_in known_in levels h before = record {
    entries_in = let l = ap length (e ∙ course_is) ∙ take_length m.entries old.derivation entries_in in let k = before.entries in omega (arith, l, k);
    known_in = let l = ap length (f ∙ known_is) ∙ take_length m.known old.known.items known_in in let k = before.known in omega (arith, l, k);
    level = subst (λ (x : Both). IsLevel a x n.level) (sym same) (levels n.level h.level before.level);
    settled = settled_as a c (take n.entries old.derivation) (take n.entries p.derivation) (take n.known old.known.items) (take n.known p.known.items) (take n.level.claims (told old.both)) (take n.level.claims (told p.both)) cases
        (ap (take n.entries) (e ∙ course_is) ∙ take_take n.entries m.entries old.derivation before.entries) (ap (take n.known) (f ∙ known_is) ∙ take_take n.known m.known old.known.items before.known)
        (ap (take n.level.claims) (ap told same ∙ told_is) ∙ take_take n.level.claims m.level.claims (told old.both) before.level.claims) h.settled;
  }
