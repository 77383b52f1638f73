-- What is true of all branches that are left of a tree: each comes of splits on atoms of the search, and none has more cases than one that comes before it.
use Rattle.std.proofs.Common.{◌≡◌, ℕ, ◌+◌, ◌≤◌, Bool, true, List, [], ◌∷◌, ◌++◌, map, take, length, refl, sym, ap, ◌∙◌, subst, arith}
use Rattle.std.specs.Prelude.{⊤}
use Rattle.std.proofs.lemmas.Bool.{false≢true}
use Rattle.std.proofs.lemmas.List.{length-map, length-take-le, length_push}
use Rattle.spv_logic.specs.declared.conditions.TermId.{TermId}
use Rattle.spv_logic.specs.Terms.{Term, term_eq}
use Rattle.spv_logic.proofs.Equality.{term_eq-true, term_eq-refl}
use Rattle.spv_atoms.proofs.Members.{or_cases, or_left, or_right, has-left, has-last}
use Rattle.spv_proof_rules.specs.Effects.{Question}
use Rattle.spv_proof_rules.specs.Accepted.{cases_of}
use Rattle.spv_models.specs.leaf_models.Subterms.{is_among}
use Rattle.spv_models.specs.split_trees.Paths.{atoms}
use Rattle.spv_verdicts.specs.declared.answers.growing.Grown.{Grown}
use Rattle.spv_verdicts.specs.declared.answers.growing.Grown.TheVariants as grown
use Rattle.spv_search.specs.branches.Branches.{Branch, root, part_of, left_by, MayTake, Comes}
use Rattle.spv_search.specs.branches.Growth.{Growth, IsGrowing, GoesBack, all_if, case_in, left, next, others}
use Rattle.spv_search.specs.Searching.{KeepsFewer}

-- ---- what each node keeps

comes_keep : (q : Question) (P : List Branch → Type 0) → ((b : Branch) (bs : List Branch) (n : Grown) → P (b ∷ bs) → MayTake q b n → P (left_by q b n ++ bs))
    → (bs : List Branch) (nodes : List Grown) (rest : List Branch) → P bs → Comes q bs nodes rest → P rest
comes_keep q P step bs [] rest p h = subst P h p
comes_keep q P step [] (n ∷ nodes) rest p h = absurd h
comes_keep q P step (b ∷ bs) (n ∷ nodes) rest p h = comes_keep q P step (left_by q b n ++ bs) nodes rest (step b bs n p h.0) h.1

left_is : (at : TermId → Term) (s : Growth) → s.is_left ≡ true → left at s ≡ next at s ∷ others at s
left_is at s e = ap (λ (b : Bool). all_if b (next at s) (others at s)) e

-- ---- no branch has more cases than one that comes before it

abbrev AreFalling : ℕ → List Branch → Type 0
AreFalling n [] = ⊤
AreFalling n (b ∷ bs) = (length b.cases ≤ n) × AreFalling (length b.cases) bs

abbrev BeginFalling : List Branch → Type 0
BeginFalling [] = ⊤
BeginFalling (b ∷ bs) = AreFalling (length b.cases) bs

falling_tail : (n : ℕ) (bs : List Branch) → AreFalling n bs → BeginFalling bs
falling_tail n [] h = tt
falling_tail n (b ∷ bs) h = h.1

falling_up : (m n : ℕ) (bs : List Branch) → m ≤ n → AreFalling m bs → AreFalling n bs
falling_up m n [] l h = tt
falling_up m n (b ∷ bs) l h = (let k = h.0 in omega (arith, l, k), h.1)

falling_parts : (b : Branch) (t : Term) (fs : List Term) (bs : List Branch) (n : ℕ) → length b.cases + 1 ≤ n → AreFalling (length b.cases) bs → AreFalling n (map (part_of b t) fs ++ bs)
falling_parts b t [] bs n l h = falling_up (length b.cases) n bs (omega (arith, l)) h
falling_parts b t (f ∷ fs) bs n l h =
    let long = length_push b.cases f in
    (omega (arith, l, long), falling_parts b t fs bs (length (b.cases ++ f ∷ [])) (omega (arith, long)) h)

falling_step : (q : Question) (b : Branch) (bs : List Branch) (n : Grown) → BeginFalling (b ∷ bs) → MayTake q b n → BeginFalling (left_by q b n ++ bs)
falling_step q b bs grown.Open h may = falling_tail (length b.cases) bs h
falling_step q b bs (grown.Closed steps) h may = falling_tail (length b.cases) bs h
falling_step q b bs (grown.Split t count) h may = parts (cases_of q (q.at t))
  where
    parts : (fs : List Term) → BeginFalling (map (part_of b (q.at t)) fs ++ bs)
    parts [] = falling_tail (length b.cases) bs h
    parts (f ∷ fs) = let long = length_push b.cases f in falling_parts b (q.at t) fs bs (length (b.cases ++ f ∷ [])) (omega (arith, long)) h

others_fall : (q : Question) (s : Growth) → IsGrowing q s → s.is_left ≡ true → AreFalling (length s.cases) (others q.at s)
others_fall q s g here =
    subst (λ (n : ℕ). AreFalling n (others q.at s)) (length-map s.cases (case_in q.at))
    (subst BeginFalling (left_is q.at s here) (comes_keep q BeginFalling (falling_step q) (root ∷ []) s.nodes (left q.at s) tt g.comes))

-- so a branch that comes behind one that leaves nothing keeps fewer cases than that one has
pub fewer_kept : (q : Question) (old new : Growth) → IsGrowing q old → old.is_left ≡ true → new.is_left ≡ true → left q.at new ≡ others q.at old → GoesBack old.cases new.cases → KeepsFewer (length old.cases) old.cases new.cases
fewer_kept q old new g here comes leaves back =
    let falls : AreFalling (length old.cases) (next q.at new ∷ others q.at new) = subst (AreFalling (length old.cases)) (sym leaves ∙ left_is q.at new comes) (others_fall q old g here) in
    let shorter = falls.0 in
    let same = length-map new.cases (case_in q.at) in
    let long : length new.cases ≡ back.kept + 1 = ap length back.cases_are ∙ (length_push (take back.kept old.cases) back.last ∙ ap (λ (n : ℕ). n + 1) (length-take-le back.kept old.cases back.within)) in
    record { kept = back.kept; last = back.last; within = back.within; fewer = omega (arith, shorter, same, long); cases_are = back.cases_are }

-- ---- each branch comes of splits on atoms of the search

-- cases, each of an atom that was split on, the last one first
pub data WasSplit (q : Question) : List Term → List Term → Type 0 where
  at_root : (cases above : List Term) → cases ≡ [] → above ≡ [] → WasSplit q cases above
  behind : (cases above front tail : List Term) (f t : Term) → cases ≡ front ++ f ∷ [] → above ≡ t ∷ tail → is_among (atoms q) t ≡ true → is_among (cases_of q t) f ≡ true → WasSplit q front tail → WasSplit q cases above

abbrev AllSplit : Question → List Branch → Type 0
AllSplit q [] = ⊤
AllSplit q (b ∷ bs) = WasSplit q b.cases b.above × AllSplit q bs

split_step : (q : Question) (b : Branch) (bs : List Branch) (n : Grown) → AllSplit q (b ∷ bs) → MayTake q b n → AllSplit q (left_by q b n ++ bs)
split_step q b bs grown.Open h may = h.1
split_step q b bs (grown.Closed steps) h may = h.1
split_step q b bs (grown.Split t count) h may = parts (cases_of q (q.at t)) (λ f m. m)
  where
    parts : (fs : List Term) → ((f : Term) → is_among fs f ≡ true → is_among (cases_of q (q.at t)) f ≡ true) → AllSplit q (map (part_of b (q.at t)) fs ++ bs)
    parts [] sub = h.1
    parts (f ∷ fs) sub = (
      behind (b.cases ++ f ∷ []) (q.at t ∷ b.above) b.cases b.above f (q.at t) refl refl may.may.is_atom (sub f (or_left (term_eq f f) (is_among fs f) (term_eq-refl f))) h.0,
      parts fs (λ g m. sub g (or_right (term_eq g f) (is_among fs g) m)),
    )

pub next_was_split : (q : Question) (s : Growth) → IsGrowing q s → s.is_left ≡ true → WasSplit q (next q.at s).cases (next q.at s).above
next_was_split q s g here =
    let all : AllSplit q (next q.at s ∷ others q.at s) = subst (AllSplit q) (left_is q.at s here) (comes_keep q (AllSplit q) (split_step q) (root ∷ []) s.nodes (left q.at s) (at_root [] [] refl refl, tt) g.comes) in
    all.0

-- ---- what follows of an atom that was split on

-- a case of an atom
pub record HasCase (q : Question) (cases : List Term) (t : Term) : Type 0 where
  pub formula : Term
  pub among : is_among cases formula ≡ true
  pub of_it : is_among (cases_of q t) formula ≡ true
  pub atom : is_among (atoms q) t ≡ true

none_above : (above : List Term) (t : Term) → above ≡ [] → is_among above t ≡ true → is_among [] t ≡ true
none_above above t e m = ap (λ (us : List Term). is_among us t) (sym e) ∙ m

pub split_case : (q : Question) (cases above : List Term) → WasSplit q cases above → (t : Term) → is_among above t ≡ true → HasCase q cases t
split_case q _ _ (at_root cases above e f) t m = absurd (false≢true (none_above above t f m))
split_case q _ _ (behind cases above front tail f u e g is_atom of_atom before) t m =
    or_cases (term_eq t u) (is_among tail t) (ap (λ (us : List Term). is_among us t) (sym g) ∙ m) here (λ k. further (split_case q front tail before t k))
  where
    here : term_eq t u ≡ true → HasCase q cases t
    here k =
        let same = term_eq-true t u k in
        record {
          formula = f;
          among = ap (λ (us : List Term). is_among us f) e ∙ has-last front f;
          of_it = ap (λ (v : Term). is_among (cases_of q v) f) same ∙ of_atom;
          atom = ap (is_among (atoms q)) same ∙ is_atom;
        }

    further : HasCase q front t → HasCase q cases t
    further k = record {
      formula = k.formula;
      among = ap (λ (us : List Term). is_among us k.formula) e ∙ has-left front (f ∷ []) k.formula k.among;
      of_it = k.of_it;
      atom = k.atom;
    }
