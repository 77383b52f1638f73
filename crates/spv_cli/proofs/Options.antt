-- Options that `clap` found have values of their kind.
use Rattle.std.proofs.Common.{◌≡◌, ◌∙◌, ◌<◌, ℕ, zero, suc, Bool, true, false, List, [], ◌∷◌, length, map, Option, Some, None, IfSome, refl, sym, ap, subst, inl, inr, arith, codes}
use Rattle.std.specs.Prelude.{⊤, option_map, slice_get, unwrap_or}
use Rattle.std.specs.List.{All, slice_index_or}
use Rattle.std.specs.Str.{bytes_eq}
use Rattle.std.specs.Borrow.{Bor}
use Rattle.std.proofs.lemmas.Bool.{cases_lt, false≢true}
use Rattle.std.proofs.lemmas.Slice.Eq.{bytes_eq-Decides}
use Rattle.std.proofs.lemmas.List.Elements.{All-get_or}
use Rattle.clap.specs.Facts.{args_of, groups_of, Entry, EntryPasses, IsParsed, PassesArg, parser_of_value}
use Rattle.clap.specs.Built.{IsAuto, IsParsedFrom, SameRules}
use Rattle.clap.specs.Matches.{matched_of, one_text, found_of, has_subcommand}
use Rattle.clap.specs.Values.{Accepts, read_as, reading_of, IsUnsignedIn}
use Rattle.clap.specs.Walk.{Rule, rule_of}
use Rattle.clap.specs.Simple.{App, app_of}
use Rattle.clap.specs.declared.builder.value_parser.Reading.{Reading}
use Rattle.clap.specs.declared.builder.arg.Arg.{Arg}
use Rattle.clap.specs.declared.builder.command.Command.{Command}
use Rattle.clap.specs.declared.builder.value_parser.ValueParser.{ValueParser}
use Rattle.clap.specs.declared.builder.value_parser.ValueParser.TheVariants as vp
use Rattle.clap.specs.declared.parser.matches.ArgMatches.{ArgMatches}
use Rattle.clap.specs.declared.parser.matches.Found.{Found}
use Rattle.clap.specs.declared.parser.matches.MatchedArg.{MatchedArg}
use Rattle.clap.proofs.CallerLemmas.{entry_by_id}
use Rattle.clap.proofs.SimpleLemmas.{all_simple, plain_fields, simple_groups}
use Rattle.spv_cli.specs.Arguments.{spv, rules}
use Rattle.spv_cli.specs.Words.{AreOptions, IsBoolText}

-- ---- the parser of an argument

-- each rule with this id has this parser
abbrev HasParser : List ℕ → ValueParser → List Rule → Type 0
HasParser id q [] = ⊤
HasParser id q (r ∷ rs) = (bytes_eq r.id id ≡ true → r.parser ≡ Some q) × HasParser id q rs

parser_at : (id : List ℕ) (q : ValueParser) (xs : List Arg) → HasParser id q (map rule_of xs) → (k : ℕ) (d : Arg) → k < length xs
    → bytes_eq (slice_index_or xs k d).id.now id ≡ true → (slice_index_or xs k d).value_parser ≡ Some q
parser_at id q [] has k d lt same = absurd (omega arith)
parser_at id q (x ∷ xs) has zero d lt same = has.0 same
parser_at id q (x ∷ xs) has (suc k) d lt same = parser_at id q xs has.1 k d (omega arith) same

-- so it is with the arguments of a command
abbrev HasParserBuilt : Command → List ℕ → ValueParser → Type 0
HasParserBuilt c id q = (j : ℕ) (x : Arg) → j < length (args_of c) → slice_index_or (args_of c) j x ≡ x → bytes_eq x.id.now id ≡ true → x.value_parser ≡ Some q

built_parser : (old : Command) (m : ArgMatches) (p : IsParsedFrom old m) (id : List ℕ) (q : ValueParser) → HasParser id q (map rule_of (args_of old))
    → (id ≡ codes "help" → ⊥) → (id ≡ codes "version" → ⊥) → HasParserBuilt p.built id q
built_parser old m p id q has no_help no_version j x high at same = elim (cases_lt j (length (args_of old))) [
  | inl under ↦
      let s = subst (λ w. SameRules (slice_index_or (args_of old) j x) w) at (p.from.kept j x under).1 in
      let old_same : bytes_eq (slice_index_or (args_of old) j x).id.now id ≡ true = rw (← s.id) same in
      s.parser q (parser_at id q (args_of old) has j x under old_same)
  | inr over ↦
      let x_id : x.id.now ≡ id = (bytes_eq-Decides x.id.now id).0 same in
      let flag = subst IsAuto at (p.from.extra j x over high) in
      absurd (elim flag [ inl h ↦ no_help (sym x_id ∙ h) | inr h ↦ no_version (sym x_id ∙ h) ])
]

-- ---- the value of an entry

first_passes : (P : Bor (List ℕ) → Type 0) (how : Reading) (vs : List (Bor (List ℕ))) (t : List ℕ) → All P vs
    → option_map (λ s. read_as how s.now) (slice_get vs 0) ≡ Some t → (v : Bor (List ℕ)) × (read_as how v.now ≡ t) × P v
first_passes P how [] t h e = cc
first_passes P how (v ∷ vs) t h e = (v, ap (λ (o : Option (List ℕ)). unwrap_or o t) e, All-get_or P (v ∷ vs) 0 v (omega arith) h)

-- a text that was read from a value that this parser takes
abbrev IsValueOf : ValueParser → List ℕ → Type 0
IsValueOf q t = (u : List ℕ) × (ignore_case : Bool) × (read_as (reading_of q) u ≡ t) × Accepts ignore_case q u

entry_value : (c : Command) (id : List ℕ) (q : ValueParser) (x : MatchedArg) (e : Entry) → groups_of c ≡ [] → (id ≡ [] → ⊥) → HasParserBuilt c id q
    → e.1 ≡ x → e.0.now ≡ id → EntryPasses c e → (t : List ℕ) → option_map (λ s. read_as x.reading s.now) (slice_get x.vals.items 0) ≡ Some t → IsValueOf q t
entry_value c id q x e no_groups named by_id same_x key pass t read =
    let no_group : e.1.is_group ≡ true → ⊥ = λ g. elim (pass.3 g) [
      | inl empty ↦ named (sym key ∙ empty)
      | inr lots ↦
          let bad : 0 < 0 = rw no_groups at lots in
          absurd (omega arith)
    ] in
    let read_here : option_map (λ s. read_as e.1.reading s.now) (slice_get e.1.vals.items 0) ≡ Some t = rw same_x read in
    elim pass.0 [
      | inl g ↦ absurd (no_group g)
      | inr vals ↦ elim pass.4 [
        | inl g ↦ absurd (no_group g)
        | inr reads ↦
            let first = first_passes (λ v. PassesArg c e.0.now v.now) e.1.reading e.1.vals.items t vals read_here in
            let a = first.2 in
            let given : a.1.value_parser ≡ Some q = by_id a.0 a.1 a.2 a.3 (subst (λ (w : List ℕ). bytes_eq a.1.id.now w ≡ true) key a.4.0) in
            let read_by : reads.1.value_parser ≡ Some q = by_id reads.0 reads.1 reads.2 reads.3 (subst (λ (w : List ℕ). bytes_eq reads.1.id.now w ≡ true) key reads.4.0) in
            let how : reading_of q ≡ e.1.reading = sym (ap (λ o. reading_of (parser_of_value o)) read_by) ∙ reads.4.1 in
            let taken : Accepts a.1.ignore_case q first.0.now = subst (λ (o : Option ValueParser). Accepts a.1.ignore_case (parser_of_value o) first.0.now) given a.4.1 in
            (first.0.now, a.1.ignore_case, ap (λ (r : Reading). read_as r first.0.now) how ∙ first.1, taken)
      ]
    ]

found_value : (c : Command) (f : Found) (id : List ℕ) (q : ValueParser) → All (EntryPasses c) f.entries.items → groups_of c ≡ [] → (id ≡ [] → ⊥) → HasParserBuilt c id q
    → (t : List ℕ) → one_text f id ≡ Some t → IsValueOf q t
found_value c f id q values no_groups named by_id t = go (matched_of f id) refl
  where
    go : (o : Option MatchedArg) → matched_of f id ≡ o → one_text f id ≡ Some t → IsValueOf q t
    go None e read =
        let bad : None ≡ Some t = rw e at read in
        cc
    go (Some x) e read =
        let got = entry_by_id (EntryPasses c) f.entries.items id x values e in
        entry_value c id q x got.0 no_groups named by_id got.1 ((bytes_eq-Decides got.0.0.now id).0 got.2) got.3 t (rw e at read)

-- ---- the options of the command

if_some : {X : Type 0} (o : Option X) (P : X → Type 0) → ((x : X) → o ≡ Some x → P x) → IfSome o P
if_some None P h = tt
if_some (Some x) P h = h x refl

number_of : (low high : ℕ) (t : List ℕ) → IsValueOf (vp.Unsigned low high) t → IsUnsignedIn low high t
number_of low high t is = subst (IsUnsignedIn low high) is.2 is.3

bool_of : (t : List ℕ) → IsValueOf vp.Bool t → IsBoolText t
bool_of t is = subst IsBoolText is.2 is.3

pub are_options : (c : Command) (m : ArgMatches) → app_of c ≡ spv → IsParsedFrom c m → AreOptions (found_of m)
are_options c m is p =
    let fields = plain_fields c (ap (λ (a : App). a.top.is_plain) is) in
    let no_names = simple_groups c (ap (λ (a : App). all_simple a.top.rules) is) in
    let no_groups : groups_of p.built ≡ [] = (p.from.same_groups no_names).1 ∙ fields.groups in
    let parsed : IsParsed p.built (found_of m) (has_subcommand m) = p.parsed (p.from.globals ∙ fields.globals) in
    let same : map rule_of (args_of c) ≡ rules = ap (λ (a : App). a.top.rules) is in
    let value : (id : List ℕ) (q : ValueParser) → HasParser id q rules → (id ≡ [] → ⊥) → (id ≡ codes "help" → ⊥) → (id ≡ codes "version" → ⊥) → (t : List ℕ) → one_text (found_of m) id ≡ Some t → IsValueOf q t =
    λ id q has named no_help no_version. found_value p.built (found_of m) id q parsed.values no_groups named (built_parser c m p id q (subst (HasParser id q) (sym same) has) no_help no_version) in
    record {
      splits = if_some _ _ (λ t e. number_of 0 1000000 t (value (codes "splits") (vp.Unsigned 0 1000000) (other, (other, (here, (other, (other, (other, tt)))))) (λ e. cc) (λ e. cc) (λ e. cc) t e));
      instances = if_some _ _ (λ t e. number_of 0 20000 t (value (codes "instances") (vp.Unsigned 0 20000) (other, (other, (other, (here, (other, (other, tt)))))) (λ e. cc) (λ e. cc) (λ e. cc) t e));
      pivots = if_some _ _ (λ t e. number_of 0 1000000 t (value (codes "pivots") (vp.Unsigned 0 1000000) (other, (other, (other, (other, (here, (other, tt)))))) (λ e. cc) (λ e. cc) (λ e. cc) t e));
      proofs = if_some _ _ (λ t e. bool_of t (value (codes "proofs") vp.Bool (other, (other, (other, (other, (other, (here, tt)))))) (λ e. cc) (λ e. cc) (λ e. cc) t e));
    }
  where
    other : {q : Option ValueParser} {o : Option ValueParser} → false ≡ true → o ≡ q
    other e = absurd (false≢true e)

    here : {q : Option ValueParser} → true ≡ true → q ≡ q
    here e = refl
