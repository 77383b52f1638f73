-- Files that are read one behind the other.
use Rattle.std.proofs.Common.{◌≡◌, ◌∙◌, ℕ, zero, suc, ◌+◌, List, [], ◌∷◌, ◌++◌, map, take, drop, Option, Some, None, refl, sym, ap, subst, arith}
use Rattle.std.specs.Prelude.{slice_get}
use Rattle.std.specs.Borrow.{Bor}
use Rattle.spv_io.specs.Faults.{Rose}
use Rattle.spv_io.specs.Texts.{named}
use Rattle.spv_cli.specs.Gathering.{AreFirstOf, AreTextsOf}
use Rattle.spv_cli.specs.Runs.{AreAskedInPart, AreAskedUpTo, named_all}

abbrev names : List (Bor (List ℕ)) → List (List ℕ)
names files = map (λ file. file.now) files

next : (i : ℕ) → suc i ≡ i + 1
next i = grind (arith)

-- one file more
next_names : (files : List (Bor (List ℕ))) (i : ℕ) (file : Bor (List ℕ)) → slice_get files i ≡ Some file → names (take (suc i) files) ≡ names (take i files) ++ file.now ∷ []
next_names [] i file at = cc
next_names (f ∷ files) zero file at = ap (λ (o : Option (Bor (List ℕ))). name_or o ∷ []) at
  where
    name_or : Option (Bor (List ℕ)) → List ℕ
    name_or None = []
    name_or (Some g) = g.now
next_names (f ∷ files) (suc i) file at = ap (λ l. f.now ∷ l) (next_names files i file at)

-- the files are those up to one, and those behind it
parts : (files : List (Bor (List ℕ))) (i : ℕ) (file : Bor (List ℕ)) → slice_get files i ≡ Some file → names files ≡ names (take i files) ++ file.now ∷ names (drop (suc i) files)
parts [] i file at = cc
parts (f ∷ files) zero file at = ap (λ (o : Option (Bor (List ℕ))). name_or o ∷ names files) at
  where
    name_or : Option (Bor (List ℕ)) → List ℕ
    name_or None = []
    name_or (Some g) = g.now
parts (f ∷ files) (suc i) file at = ap (λ l. f.now ∷ l) (parts files i file at)

halves : (files : List (Bor (List ℕ))) (i : ℕ) → names files ≡ names (take i files) ++ names (drop i files)
halves files zero = refl
halves [] (suc i) = refl
halves (f ∷ files) (suc i) = ap (λ l. f.now ∷ l) (halves files i)

named_last : (asked : Option (List (List ℕ))) (files : List (List ℕ)) (file : List ℕ) → named_all asked (files ++ file ∷ []) ≡ named (named_all asked files) file
named_last asked [] file = refl
named_last asked (f ∷ files) file = named_last (named asked f) files file

module _ (asked mid after : Option (List (List ℕ))) (files : List (Bor (List ℕ))) (i : ℕ) (file : Bor (List ℕ)) where
  -- the name of one file more was asked for
  last_asked : mid ≡ named_all asked (names (take i files)) → after ≡ named mid file.now → after ≡ named_all asked (names (take i files) ++ file.now ∷ [])
  last_asked so_far read = read ∙ ap (λ o. named o file.now) so_far ∙ sym (named_last asked (names (take i files)) file.now)

  pub more_asked : slice_get files i ≡ Some file → mid ≡ named_all asked (names (take i files)) → after ≡ named mid file.now → after ≡ named_all asked (names (take (i + 1) files))
  more_asked at so_far read = last_asked so_far read ∙ ap (named_all asked) (sym (next_names files i file at) ∙ ap (λ k. names (take k files)) (next i))

  pub asked_up_to : slice_get files i ≡ Some file → mid ≡ named_all asked (names (take i files)) → after ≡ named mid file.now → AreAskedUpTo asked after (names files) file.now
  asked_up_to at so_far read = record { first = names (take i files); rest = names (drop (suc i) files); are_first = parts files i file at; asked = last_asked so_far read }

pub asked_in_part : (asked after : Option (List (List ℕ))) (files : List (Bor (List ℕ))) (i : ℕ) → after ≡ named_all asked (names (take i files)) → AreAskedInPart asked after (names files)
asked_in_part asked after files i so_far = record { first = names (take i files); rest = names (drop i files); are_first = halves files i; asked = so_far }

-- one text more
last_text : (told : List ℕ → Option (List ℕ)) (files texts : List (List ℕ)) (file bytes : List ℕ) → AreTextsOf told files texts → AreFirstOf told file bytes → AreTextsOf told (files ++ file ∷ []) (texts ++ bytes ∷ [])
last_text told [] [] file bytes are is = (is, tt)
last_text told [] (t ∷ texts) file bytes are is = absurd are
last_text told (f ∷ files) [] file bytes are is = absurd are
last_text told (f ∷ files) (t ∷ texts) file bytes are is = (are.0, last_text told files texts file bytes are.1 is)

pub map_last : {X Y : Type 0} (f : X → Y) (xs : List X) (x : X) → map f (xs ++ x ∷ []) ≡ map f xs ++ f x ∷ []
map_last f [] x = refl
map_last f (y ∷ xs) x = ap (λ l. f y ∷ l) (map_last f xs x)

pub more_texts : (told : List ℕ → Option (List ℕ)) (files : List (Bor (List ℕ))) (i : ℕ) (file : Bor (List ℕ)) (texts now : List (List ℕ)) (bytes : List ℕ) → slice_get files i ≡ Some file
    → now ≡ texts ++ bytes ∷ [] → AreTextsOf told (names (take i files)) texts → AreFirstOf told file.now bytes → AreTextsOf told (names (take (i + 1) files)) now
more_texts told files i file texts now bytes at pushed are is =
    let same : names (take i files) ++ file.now ∷ [] ≡ names (take (i + 1) files) = sym (next_names files i file at) ∙ ap (λ k. names (take k files)) (next i) in
    subst (AreTextsOf told (names (take (i + 1) files))) (sym pushed)
    (subst (λ (l : List (List ℕ)). AreTextsOf told l (texts ++ bytes ∷ [])) same (last_text told (names (take i files)) texts file.now bytes are is))

-- a count that rose since a read rose since the first, where no read before had a fault
pub rose_from : {start mid end : ℕ} → mid ≡ start → Rose mid end → Rose start end
rose_from {start} {mid} {end} same rose = subst (λ n. Rose n end) same rose
