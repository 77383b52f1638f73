-- What is found fits, and what stops is too wide.
use Rattle.std.proofs.Common.{◌≡◌, ◌⊎◌, inl, inr, ℕ, zero, suc, ◌+◌, arith, Bool, true, false, ◌||◌, List, [], ◌∷◌, ◌++◌, length, ℤ, Option, Some, None, Result, Ok, Err, refl, sym, ap, ◌∙◌, subst, cond, slice_get, is_some, nat_eq}
use Rattle.std.specs.List.{list_any, cons_option, filter_map}
use Rattle.std.specs.Option.{option_map}
use Rattle.std.proofs.lemmas.Bool.{false≢true, eq-eqb}
use Rattle.spv_atoms.proofs.Coefficients.{both_true}
use Rattle.spv_whole.specs.Fraction.{Fraction, whole}
use Rattle.spv_logic.specs.declared.types.Shape.{Shape}
use Rattle.spv_logic.specs.declared.types.Decl.{Decl}
use Rattle.spv_logic.specs.declared.operators.Head.{Head}
use Rattle.spv_logic.specs.Terms.{Term, Terms, term, no_terms, terms, head_eq, sort_eq, term_eq}
use Rattle.spv_logic.specs.Fits.{on_sort}
use Rattle.spv_logic.specs.Sorts.{term_sort, variable_sort}
use Rattle.spv_logic.specs.Substitution.{substitute}
use Rattle.spv_logic.proofs.Equality.{head_eq-true, term_eq-refl}
use Rattle.spv_term.specs.substitution.Images.{head_of}
use Rattle.spv_table.specs.Values.{Outcome, is_same, value}
use Rattle.spv_proof_rules.specs.Rules.{Rule, placed, have_sorts, instance_of, numbered_rule}
use Rattle.spv_rules.specs.matching.Matches.{Instance, Wide, Bindings, Found, Setting, after, behind, each, told_of, value_of, have_one_value, has_number, if_passes, bound, met, numeral, arguments, met_by, applied, matched, matched_all, before, values_of, instance_with, instances_at, setting, instances_of, numbered, all_eq, instance_eq, with_instances, matches}
use Rattle.spv_rules.specs.matching.Laws.{IsAt, StandsIn, IsArgument, FoundInstancesSay, FoundTermsAreArguments, FoundInstancesAreOnce, StopsWhereTooWide}

-- ---- lists whose items are all so

abbrev AllOf : {A : Type 0} → (A → Type 0) → List A → Type 0
AllOf Q [] = Unit {0}
AllOf Q (x ∷ xs) = Q x × AllOf Q xs

AllOf-append : {A : Type 0} (Q : A → Type 0) (xs ys : List A) → AllOf Q xs → AllOf Q ys → AllOf Q (xs ++ ys)
AllOf-append Q [] ys h k = k
AllOf-append Q (x ∷ xs) ys h k = (h.0, AllOf-append Q xs ys h.1 k)

AllOf-at : {A : Type 0} (Q : A → Type 0) (xs : List A) → AllOf Q xs → (i : ℕ) (x : A) → slice_get xs i ≡ Some x → Q x
AllOf-at Q [] h i x e = cc
AllOf-at Q (y ∷ xs) h zero x e = let same : y ≡ x = cc in subst Q same h.0
AllOf-at Q (y ∷ xs) h (suc i) x e = AllOf-at Q xs h.1 i x e

AllOf-map : {A : Type 0} (P Q : A → Type 0) → ((x : A) → P x → Q x) → (xs : List A) → AllOf P xs → AllOf Q xs
AllOf-map P Q f [] h = tt
AllOf-map P Q f (x ∷ xs) h = (f x h.0, AllOf-map P Q f xs h.1)

-- each item is at its place
all_at : {A : Type 0} (xs : List A) → AllOf (IsAt xs) xs
all_at [] = tt
all_at (x ∷ xs) = (record { place = 0; there = refl }, AllOf-map (IsAt xs) (IsAt (x ∷ xs)) (λ y h. record { place = suc h.place; there = h.there }) xs (all_at xs))

-- ---- outcomes

module _ (S : Wide → Type 0) {A : Type 0} (Q : A → Type 0) where
  -- what is found is all so, or what stops is
  abbrev Right : Result (List A) Wide → Type 0
  Right (Ok xs) = AllOf Q xs
  Right (Err w) = S w

  right_behind : (r s : Result (List A) Wide) → Right r → Right s → Right (behind r s)
  right_behind (Err w) s h k = h
  right_behind (Ok xs) (Err w) h k = k
  right_behind (Ok xs) (Ok ys) h k = AllOf-append Q xs ys h k

  right_each : {X : Type 0} (P : X → Type 0) (f : X → Result (List A) Wide) → ((x : X) → P x → Right (f x)) → (xs : List X) → AllOf P xs → Right (each f xs)
  right_each P f g [] h = tt
  right_each P f g (x ∷ xs) h = right_behind (f x) (each f xs) (g x h.0) (right_each P f g xs h.1)

  right_test : (test : Result Bool Wide) (found : Result (List A) Wide) → ((w : Wide) → test ≡ Err w → S w) → Right found → Right (if_passes test found)
  right_test (Err w) found s h = s w refl
  right_test (Ok true) found s h = h
  right_test (Ok false) found s h = tt

-- ---- what stops

-- a term that may be tested: a used one, or an argument of one
abbrev MayStop : List Term → Term → Type 0
MayStop used t = IsAt used t ⊎ IsArgument used t

abbrev Stops : List Term → (Term → Fraction) → Wide → Type 0
Stops used listed w = (value listed w.0 ≡ Err w.1) × MayStop used w.0

module _ (used : List Term) (listed : Term → Fraction) where
  value_stops : (t : Term) → MayStop used t → (w : Wide) → value_of listed t ≡ Err w → Stops used listed w
  value_stops t h w = by_case (value listed t) refl
    where
      by_case : (o : Outcome) → value listed t ≡ o → told_of t o ≡ Err w → Stops used listed w
      by_case (Ok x) e f = cc
      by_case (Err v) e f = let same : (t, v) ≡ w = cc in subst (Stops used listed) same (e, h)

  one_stops : (s t : Term) → MayStop used s → MayStop used t → (w : Wide) → have_one_value listed s t ≡ Err w → Stops used listed w
  one_stops s t h k w e = by_case (two (value_of listed s) (value_of listed t) w e)
    where
      two : (r q : Result Fraction Wide) (w : Wide) → after r (λ x. after q (λ y. Ok (is_same x y))) ≡ Err w → (r ≡ Err w) ⊎ (q ≡ Err w)
      two (Err v) q w e = let same : v ≡ w = cc in inl (ap (λ (u : Wide). Err u) same)
      two (Ok x) (Err v) w e = let same : v ≡ w = cc in inr (ap (λ (u : Wide). Err u) same)
      two (Ok x) (Ok y) w e = cc

      by_case : (value_of listed s ≡ Err w) ⊎ (value_of listed t ≡ Err w) → Stops used listed w
      by_case (inl f) = value_stops s h w f
      by_case (inr f) = value_stops t k w f

  number_stops : (z : ℤ) (t : Term) → MayStop used t → (w : Wide) → has_number listed z t ≡ Err w → Stops used listed w
  number_stops z t h w e = value_stops t h w (one (value_of listed t) w e)
    where
      one : (r : Result Fraction Wide) (w : Wide) → after r (λ x. Ok (is_same x (whole z))) ≡ Err w → r ≡ Err w
      one (Err v) w e = let same : v ≡ w = cc in ap (λ (u : Wide). Err u) same
      one (Ok x) w e = cc

-- ---- patterns

-- a variable with an argument of a used term, of its sort
record Fits (m : Setting) (p : Head × Term) : Type 0 where
  pub sort : on_sort (term_sort m.shapes m.decls p.1) (sort_eq (variable_sort p.0)) ≡ true
  pub argument : IsArgument m.used p.1

module _ (m : Setting) where
  abbrev AllFit : Bindings → Type 0
  AllFit b = AllOf (Fits m) b

  abbrev Good : Found → Type 0
  Good o = Right (Stops m.used m.listed) AllFit o

  bound_fits : (b : Bindings) → AllFit b → (x : Head) (t : Term) → bound b x ≡ Some t → Fits m (x, t)
  bound_fits [] h x t e = cc
  bound_fits (p ∷ b) h x t e = by_case (head_eq p.0 x) refl (bound_fits b h.1 x t) e
    where
      by_case : (c : Bool) → head_eq p.0 x ≡ c → (bound b x ≡ Some t → Fits m (x, t)) → cond c (Some p.1) (bound b x) ≡ Some t → Fits m (x, t)
      by_case true f later g =
          let same_head = head_eq-true p.0 x f in
          let same_term : p.1 ≡ t = cc in
          subst (λ (q : Head × Term). Fits m q) (λ i. (same_head i, same_term i)) h.0
      by_case false f later g = later g

  met_good : (x : Head) (o : Option Term) (t : Term) (b : Bindings) → ((s : Term) → o ≡ Some s → IsArgument m.used s) → IsArgument m.used t → AllFit b → Good (met m x o t b)
  met_good x None t b s h k = by_case (on_sort (term_sort m.shapes m.decls t) (sort_eq (variable_sort x))) refl
    where
      by_case : (c : Bool) → on_sort (term_sort m.shapes m.decls t) (sort_eq (variable_sort x)) ≡ c → Good (Ok (cond c ((b ++ (x, t) ∷ []) ∷ []) []))
      by_case true e = (AllOf-append (Fits m) b ((x, t) ∷ []) k (record { sort = e; argument = h }, tt), tt)
      by_case false e = tt
  met_good x (Some u) t b s h k =
      right_test (Stops m.used m.listed) AllFit (have_one_value m.listed u t) (Ok (b ∷ [])) (one_stops m.used m.listed u t (inr (s u refl)) (inr h)) (k, tt)

  -- the arguments of a used term
  abbrev AllArguments : Terms → Type 0
  AllArguments ts = (t : Term) → StandsIn t ts → IsArgument m.used t

  arguments_of : (u : Term) → IsAt m.used u → AllArguments (arguments u)
  arguments_of u at t h = record { of = u; used_one = at; argument = h }

  met_by_good : (h : Head) (t : Term) (inside : Term → Found) → IsArgument m.used t → ((u : Term) → IsAt m.used u → Good (inside u)) → (u : Term) → IsAt m.used u → Good (met_by m h t inside u)
  met_by_good h t inside arg good u at = by_case (head_eq h (head_of u))
    where
      by_case : (c : Bool) → Good (cond c (if_passes (have_one_value m.listed u t) (inside u)) (Ok []))
      by_case true = right_test (Stops m.used m.listed) AllFit (have_one_value m.listed u t) (inside u) (one_stops m.used m.listed u t (inl at) (inr arg)) (good u at)
      by_case false = tt

  applied_good : (h : Head) (o : Option ℤ) (t : Term) (b : Bindings) (inside : Term → Found) → IsArgument m.used t → AllFit b → ((u : Term) → IsAt m.used u → Good (inside u)) → Good (applied m h o t b inside)
  applied_good h (Some z) t b inside arg k good = right_test (Stops m.used m.listed) AllFit (has_number m.listed z t) (Ok (b ∷ [])) (number_stops m.used m.listed z t (inr arg)) (k, tt)
  applied_good h None t b inside arg k good = right_each (Stops m.used m.listed) AllFit (IsAt m.used) (met_by m h t inside) (met_by_good h t inside arg good) m.used (all_at m.used)

  -- one match after another
  after_good : (r : Found) (go : List Bindings → Found) → Good r → ((found : List Bindings) → AllOf AllFit found → Good (go found)) → Good (after r go)
  after_good (Err w) go h f = h
  after_good (Ok found) go h f = f found h

  mutual
    matched_good : (p t : Term) (b : Bindings) → IsArgument m.used t → AllFit b → Good (matched m p t b)
    matched_good (term h ps) t b arg k =
        one_of (list_any (head_eq h) m.variables) (met m h (bound b h) t b) (applied m h (numeral h) t b (λ u. matched_all m ps (arguments u) (b ∷ [])))
        (met_good h (bound b h) t b (λ s e. (bound_fits b k h s e).argument) arg k)
        (applied_good h (numeral h) t b (λ u. matched_all m ps (arguments u) (b ∷ [])) arg k (λ u at. matched_all_good ps (arguments u) (b ∷ []) (arguments_of u at) (k, tt)))
      where
        one_of : (c : Bool) (x y : Found) → Good x → Good y → Good (cond c x y)
        one_of true x y h k = h
        one_of false x y h k = k

    matched_all_good : (ps ts : Terms) (found : List Bindings) → AllArguments ts → AllOf AllFit found → Good (matched_all m ps ts found)
    matched_all_good no_terms ts found args k = k
    matched_all_good (terms p ps) no_terms found args k = k
    matched_all_good (terms p ps) (terms t ts) found args k =
        after_good (each (matched m p t) found) (matched_all m ps ts) (right_each (Stops m.used m.listed) AllFit AllFit (matched m p t) (λ b h. matched_good p t b (args t (inl refl)) h) found k)
        (λ more h. matched_all_good ps ts more (λ u at. args u (inr at)) h)

  -- ---- instances

  -- the instance of a match
  record Says (number : ℕ) (i : Instance) : Type 0 where
    pub rule : i.rule ≡ number
    pub sorts : have_sorts m.shapes m.decls m.variables i.values ≡ true
    pub arguments : AllOf (IsArgument m.used) i.values

  values_fit : (b : Bindings) → AllFit b → (xs : List Head) (ts : List Term) → values_of b xs ≡ Some ts → (have_sorts m.shapes m.decls xs ts ≡ true) × AllOf (IsArgument m.used) ts
  values_fit b k [] [] e = (refl, tt)
  values_fit b k [] (t ∷ ts) e = cc
  values_fit b k (x ∷ xs) ts e = by_case (bound b x) refl (values_of b xs) refl ts e (values_fit b k xs)
    where
      by_case : (o : Option Term) → bound b x ≡ o → (p : Option (List Term)) → values_of b xs ≡ p → (ts : List Term) → before o p ≡ Some ts
          → ((us : List Term) → values_of b xs ≡ Some us → (have_sorts m.shapes m.decls xs us ≡ true) × AllOf (IsArgument m.used) us)
          → (have_sorts m.shapes m.decls (x ∷ xs) ts ≡ true) × AllOf (IsArgument m.used) ts
      by_case None f p g ts e later = cc
      by_case (Some t) f None g ts e later = cc
      by_case (Some t) f (Some us) g ts e later =
          let same : t ∷ us ≡ ts = cc in
          let here = bound_fits b k x t f in
          let others = later us g in
          subst (λ (vs : List Term). (have_sorts m.shapes m.decls (x ∷ xs) vs ≡ true) × AllOf (IsArgument m.used) vs) same
          (both_true (on_sort (term_sort m.shapes m.decls t) (sort_eq (variable_sort x))) (have_sorts m.shapes m.decls xs us) here.sort others.0, (here.argument, others.1))

  instances_fit : (number : ℕ) (found : List Bindings) → AllOf AllFit found → AllOf (Says number) (filter_map (instance_with number m.variables) found)
  instances_fit number [] k = tt
  instances_fit number (b ∷ found) k = by_case (values_of b m.variables) refl (instances_fit number found k.1)
    where
      by_case : (o : Option (List Term)) → values_of b m.variables ≡ o → AllOf (Says number) (filter_map (instance_with number m.variables) found)
          → AllOf (Says number) (cons_option (option_map (λ ts. record { rule = number; values = ts }) o) (filter_map (instance_with number m.variables) found))
      by_case None e h = h
      by_case (Some ts) e h = let fit = values_fit b k.0 m.variables ts e in (record { rule = refl; sorts = fit.0; arguments = fit.1 }, h)

  instances_at_fit : (number : ℕ) (x u : Term) → IsAt m.used u → Right (Stops m.used m.listed) (Says number) (instances_at m number x u)
  instances_at_fit number (term h ps) u at = by_case (head_eq h (head_of u))
    where
      ended : (r : Found) → Good r → Right (Stops m.used m.listed) (Says number) (after r (λ found. Ok (filter_map (instance_with number m.variables) found)))
      ended (Err w) h = h
      ended (Ok found) h = instances_fit number found h

      by_case : (c : Bool) → Right (Stops m.used m.listed) (Says number) (cond c (after (matched_all m ps (arguments u) ([] ∷ [])) (λ found. Ok (filter_map (instance_with number m.variables) found))) (Ok []))
      by_case true = ended (matched_all m ps (arguments u) ([] ∷ [])) (matched_all_good ps (arguments u) ([] ∷ []) (arguments_of u at) (tt, tt))
      by_case false = tt

-- ---- rules

module _ (shapes : List Shape) (decls : List Decl) (used : List Term) (listed : Term → Fraction) where
  -- an instance of one of these rules, of which the first has this number
  record SaysOf (number : ℕ) (rules : List Rule) (i : Instance) : Type 0 where
    pub place : ℕ
    pub of : Rule
    pub there : slice_get rules place ≡ Some of
    pub rule : i.rule ≡ number + place
    pub sorts : have_sorts shapes decls of.replaced i.values ≡ true
    pub arguments : AllOf (IsArgument used) i.values

  right_map : {A : Type 0} (P Q : A → Type 0) → ((x : A) → P x → Q x) → (r : Result (List A) Wide) → Right (Stops used listed) P r → Right (Stops used listed) Q r
  right_map P Q f (Err w) h = h
  right_map P Q f (Ok xs) h = AllOf-map P Q f xs h

  numbered_fit : (number : ℕ) (rules : List Rule) → Right (Stops used listed) (SaysOf number rules) (numbered shapes decls used listed number rules)
  numbered_fit number [] = tt
  numbered_fit number (r ∷ rules) =
      right_behind (Stops used listed) (SaysOf number (r ∷ rules)) (instances_of shapes decls used listed number r) (numbered shapes decls used listed (number + 1) rules)
      (right_map (Says (setting shapes decls used listed r) number) (SaysOf number (r ∷ rules)) first (instances_of shapes decls used listed number r)
      (right_each (Stops used listed) (Says (setting shapes decls used listed r) number) (IsAt used) (instances_at (setting shapes decls used listed r) number r.trigger) (instances_at_fit (setting shapes decls used listed r) number r.trigger) used (all_at used)))
      (right_map (SaysOf (number + 1) rules) (SaysOf number (r ∷ rules)) later (numbered shapes decls used listed (number + 1) rules) (numbered_fit (number + 1) rules))
    where
      first : (i : Instance) → Says (setting shapes decls used listed r) number i → SaysOf number (r ∷ rules) i
      first i h = record { place = 0; of = r; there = refl; rule = let e : number ≡ number + 0 = omega arith in h.rule ∙ e; sorts = h.sorts; arguments = h.arguments }

      later : (i : Instance) → SaysOf (number + 1) rules i → SaysOf number (r ∷ rules) i
      later i h = record { place = suc h.place; of = h.of; there = h.there; rule = let e : number + 1 + h.place ≡ number + suc h.place = omega arith in h.rule ∙ e; sorts = h.sorts; arguments = h.arguments }

  abbrev next : List Instance → Instance → List Instance
  next done i = cond (list_any (instance_eq i) done) done (done ++ i ∷ [])

  with_instances_fit : (Q : Instance → Type 0) (is done : List Instance) → AllOf Q done → AllOf Q is → AllOf Q (with_instances done is)
  with_instances_fit Q [] done h k = h
  with_instances_fit Q (i ∷ is) done h k = with_instances_fit Q is (next done i) (by_case (list_any (instance_eq i) done)) k.1
    where
      by_case : (c : Bool) → AllOf Q (cond c done (done ++ i ∷ []))
      by_case true = h
      by_case false = AllOf-append Q done (i ∷ []) h (k.0, tt)

  found_fit : (rules : List Rule) → Right (Stops used listed) (SaysOf 1 rules) (matches shapes decls rules used listed)
  found_fit rules = ended (numbered shapes decls used listed 1 rules) (numbered_fit 1 rules)
    where
      ended : (r : Result (List Instance) Wide) → Right (Stops used listed) (SaysOf 1 rules) r → Right (Stops used listed) (SaysOf 1 rules) (after r (λ found. Ok (with_instances [] found)))
      ended (Err w) h = h
      ended (Ok found) h = with_instances_fit (SaysOf 1 rules) found [] tt h

-- ---- none twice

abbrev Once : List Instance → Type 0
Once xs = (k l : ℕ) (i : Instance) → slice_get xs k ≡ Some i → slice_get xs l ≡ Some i → k ≡ l

all_eq-refl : (ts : List Term) → all_eq ts ts ≡ true
all_eq-refl [] = refl
all_eq-refl (t ∷ ts) = both_true (term_eq t t) (all_eq ts ts) (term_eq-refl t) (all_eq-refl ts)

same_number : (n : ℕ) → nat_eq n n ≡ true
same_number n = eq-eqb n n refl

instance_eq-refl : (i : Instance) → instance_eq i i ≡ true
instance_eq-refl i = both_true (nat_eq i.rule i.rule) (all_eq i.values i.values) (same_number i.rule) (all_eq-refl i.values)

there_at : (xs : List Instance) (k : ℕ) (i : Instance) → slice_get xs k ≡ Some i → list_any (instance_eq i) xs ≡ true
there_at [] k i e = cc
there_at (x ∷ xs) zero i e = let same : i ≡ x = cc in ap (λ y. instance_eq i y || list_any (instance_eq i) xs) (sym same) ∙ ap (λ c. c || list_any (instance_eq i) xs) (instance_eq-refl i)
there_at (x ∷ xs) (suc k) i e = by_case (instance_eq i x) (there_at xs k i e)
  where
    by_case : (c : Bool) → list_any (instance_eq i) xs ≡ true → (c || list_any (instance_eq i) xs) ≡ true
    by_case true h = refl
    by_case false h = h

-- in a list with one item more each is one of the others, or the one at the end
before_or_last : (xs : List Instance) (x i : Instance) (k : ℕ) → slice_get (xs ++ x ∷ []) k ≡ Some i → (slice_get xs k ≡ Some i) ⊎ ((k ≡ length xs) × (x ≡ i))
before_or_last [] x i zero e = let same : x ≡ i = cc in inr (refl, same)
before_or_last [] x i (suc k) e = cc
before_or_last (y ∷ xs) x i zero e = inl e
before_or_last (y ∷ xs) x i (suc k) e = by_case (before_or_last xs x i k e)
  where
    by_case : (slice_get xs k ≡ Some i) ⊎ ((k ≡ length xs) × (x ≡ i)) → (slice_get xs k ≡ Some i) ⊎ ((suc k ≡ suc (length xs)) × (x ≡ i))
    by_case (inl h) = inl h
    by_case (inr h) = inr (ap suc h.0, h.1)

once_push : (xs : List Instance) (x : Instance) → Once xs → list_any (instance_eq x) xs ≡ false → Once (xs ++ x ∷ [])
once_push xs x h new k l i e f = by_case (before_or_last xs x i k e) (before_or_last xs x i l f)
  where
    never : (n : ℕ) → slice_get xs n ≡ Some i → x ≡ i → ⊥
    never n at same = false≢true (sym new ∙ there_at xs n x (at ∙ ap (λ (j : Instance). Some j) (sym same)))

    by_case : (slice_get xs k ≡ Some i) ⊎ ((k ≡ length xs) × (x ≡ i)) → (slice_get xs l ≡ Some i) ⊎ ((l ≡ length xs) × (x ≡ i)) → k ≡ l
    by_case (inl a) (inl b) = h k l i a b
    by_case (inl a) (inr b) = absurd (never k a b.1)
    by_case (inr a) (inl b) = absurd (never l b a.1)
    by_case (inr a) (inr b) = a.0 ∙ sym b.0

with_instances_once : (is done : List Instance) → Once done → Once (with_instances done is)
with_instances_once [] done h = h
with_instances_once (i ∷ is) done h = with_instances_once is (cond (list_any (instance_eq i) done) done (done ++ i ∷ [])) (by_case (list_any (instance_eq i) done) refl)
  where
    by_case : (c : Bool) → list_any (instance_eq i) done ≡ c → Once (cond c done (done ++ i ∷ []))
    by_case true e = h
    by_case false e = once_push done i h e

-- ---- the claims

says_something : (shapes : List Shape) (decls : List Decl) (used : List Term) (listed : Term → Fraction) (rules : List Rule) (i : Instance) → SaysOf shapes decls used listed 1 rules i → is_some (instance_of shapes decls (numbered_rule rules i.rule) i.values) ≡ true
says_something shapes decls used listed rules i h =
    let e : 1 + h.place ≡ suc h.place = omega arith in
    ap (λ n. is_some (instance_of shapes decls (numbered_rule rules n) i.values)) (h.rule ∙ e)
    ∙ (ap (λ o. is_some (instance_of shapes decls o i.values)) h.there ∙ ap (λ c. is_some (cond c (Some (substitute (placed h.of.replaced i.values) h.of.formula)) None)) h.sorts)

pub found_instances_say : FoundInstancesSay
found_instances_say shapes decls rules used listed found e k i at =
    says_something shapes decls used listed rules i (AllOf-at (SaysOf shapes decls used listed 1 rules) found (subst (Right (Stops used listed) (SaysOf shapes decls used listed 1 rules)) e (found_fit shapes decls used listed rules)) k i at)

pub found_terms_are_arguments : FoundTermsAreArguments
found_terms_are_arguments shapes decls rules used listed found e k i at j t there =
    let says = AllOf-at (SaysOf shapes decls used listed 1 rules) found (subst (Right (Stops used listed) (SaysOf shapes decls used listed 1 rules)) e (found_fit shapes decls used listed rules)) k i at in
    AllOf-at (IsArgument used) i.values says.arguments j t there

pub stops_where_too_wide : StopsWhereTooWide
stops_where_too_wide shapes decls rules used listed t w e = subst (Right (Stops used listed) (SaysOf shapes decls used listed 1 rules)) e (found_fit shapes decls used listed rules)

pub found_instances_are_once : FoundInstancesAreOnce
found_instances_are_once shapes decls rules used listed found e = ended (numbered shapes decls used listed 1 rules) e
  where
    none : Once []
    none k l i a b = cc

    ended : (r : Result (List Instance) Wide) → after r (λ is. Ok (with_instances [] is)) ≡ Ok found → Once found
    ended (Err w) e = cc
    ended (Ok is) e = let same : with_instances [] is ≡ found = cc in subst Once same (with_instances_once is [] none)
