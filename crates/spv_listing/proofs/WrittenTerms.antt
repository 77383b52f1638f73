-- Terms as they are printed, and as they are written in a listing.
use Rattle.std.proofs.Common.{◌≡◌, ℕ, zero, suc, Option, Some, None, List, ◌∷◌, ◌++◌, if◌then◌else◌, codes, slice_index_or, refl, sym, ap, ◌∙◌, append_assoc, append-nil}
use Rattle.spv_logic.specs.declared.names.names.Symbol.{Symbol}
use Rattle.spv_logic.specs.declared.types.TypeId.{TypeId}
use Rattle.spv_logic.specs.declared.operators.Head.{Head}
use Rattle.spv_logic.specs.declared.operators.Head.TheVariants.{Var, ClassVar, Start, Num, App, Add, Sub, Mul, Div, Mod, Eq, Lt, Le, Not, And, Or, Implies, Select, Store, Field, Put, Cell, SetCell, Extend, PointerTo, Car, Cdr, Cons, Atom, Nil, True, False}
use Rattle.spv_logic.specs.Terms.{Term, Terms, term, no_terms, terms}
use Rattle.spv_listing_values.specs.Written.{Applied, Writtens, written, name_bytes, argument_bytes, written_bytes}
use Rattle.spv_rechecking.specs.written_terms.Printing.{head_of, written_of, all_written}
use Rattle.spv_rechecking.specs.written_terms.Printing as written_so
use Rattle.spv_listing.specs.printed.Printed.{name_in, title_in, mark, title_text, head_text, stands_alone, term_text, arguments_text}

mark_same : (n : ℕ) → written_so.mark n ≡ mark n
mark_same zero = refl
mark_same (suc n) = refl

title_same : (names : List (List ℕ)) (o : Option Symbol) → written_so.title_text names o ≡ title_text names o
title_same names None = refl
title_same names (Some x) = refl

type_same : (names : List (List ℕ)) (titles : List (Option Symbol)) (t : TypeId) → written_so.title_at names titles t ≡ title_in names titles t
type_same names titles t = title_same names (slice_index_or titles t.0 None)

-- a word that is applied, with its name behind it, in brackets with arguments
bracketed : (word text arguments : List ℕ) (name : Option (List ℕ)) (ws : Writtens) → word ++ name_bytes name ≡ text → argument_bytes ws ≡ arguments ++ codes ")"
    → written_bytes (written (Applied word name) ws) ≡ codes "(" ++ text ++ arguments ++ codes ")"
bracketed word text arguments name ws same behind =
    ap (λ (l : List ℕ). 40 ∷ l)
    (sym (append_assoc word (name_bytes name) (argument_bytes ws))
    ∙ (ap (λ (l : List ℕ). l ++ argument_bytes ws) same ∙ (ap (λ (l : List ℕ). text ++ l) behind ∙ sym (append_assoc text arguments (codes ")")))))

module _ (names : List (List ℕ)) (titles : List (Option Symbol)) where
  -- a head over arguments
  head_written : (h : Head) (arguments : List ℕ) (ws : Writtens) → argument_bytes ws ≡ arguments ++ codes ")"
      → written_bytes (written (head_of names titles h) ws) ≡ (if stands_alone h then head_text names titles h else codes "(" ++ head_text names titles h ++ arguments ++ codes ")")
  head_written (Var x s n) arguments ws behind = ap (λ (l : List ℕ). name_in names x ++ l) (mark_same n)
  head_written (ClassVar t n) arguments ws behind =
      ap (λ (l : List ℕ). 35 ∷ (l ++ written_so.mark n)) (type_same names titles t) ∙ ap (λ (l : List ℕ). 35 ∷ (title_in names titles t ++ l)) (mark_same n)
  head_written (Start x s) arguments ws behind = refl
  head_written (Num z) arguments ws behind = refl
  head_written True arguments ws behind = refl
  head_written False arguments ws behind = refl
  head_written (App f) arguments ws behind = bracketed (name_in names f) (name_in names f) arguments None ws (append-nil (name_in names f)) behind
  head_written (Field f) arguments ws behind = bracketed (codes "FIELD") (codes "FIELD " ++ name_in names f) arguments (Some (name_in names f)) ws refl behind
  head_written (Put f) arguments ws behind = bracketed (codes "PUT") (codes "PUT " ++ name_in names f) arguments (Some (name_in names f)) ws refl behind
  head_written (Nil t) arguments ws behind =
      bracketed (codes "NIL") (codes "NIL " ++ title_in names titles t) arguments (Some (written_so.title_at names titles t)) ws
      (ap (λ (l : List ℕ). codes "NIL " ++ l) (type_same names titles t)) behind
  head_written Add arguments ws behind = bracketed (written_so.operator_word Add) (head_text names titles Add) arguments None ws refl behind
  head_written Sub arguments ws behind = bracketed (written_so.operator_word Sub) (head_text names titles Sub) arguments None ws refl behind
  head_written Mul arguments ws behind = bracketed (written_so.operator_word Mul) (head_text names titles Mul) arguments None ws refl behind
  head_written Div arguments ws behind = bracketed (written_so.operator_word Div) (head_text names titles Div) arguments None ws refl behind
  head_written Mod arguments ws behind = bracketed (written_so.operator_word Mod) (head_text names titles Mod) arguments None ws refl behind
  head_written Eq arguments ws behind = bracketed (written_so.operator_word Eq) (head_text names titles Eq) arguments None ws refl behind
  head_written Lt arguments ws behind = bracketed (written_so.operator_word Lt) (head_text names titles Lt) arguments None ws refl behind
  head_written Le arguments ws behind = bracketed (written_so.operator_word Le) (head_text names titles Le) arguments None ws refl behind
  head_written Not arguments ws behind = bracketed (written_so.operator_word Not) (head_text names titles Not) arguments None ws refl behind
  head_written And arguments ws behind = bracketed (written_so.operator_word And) (head_text names titles And) arguments None ws refl behind
  head_written Or arguments ws behind = bracketed (written_so.operator_word Or) (head_text names titles Or) arguments None ws refl behind
  head_written Implies arguments ws behind = bracketed (written_so.operator_word Implies) (head_text names titles Implies) arguments None ws refl behind
  head_written Select arguments ws behind = bracketed (written_so.operator_word Select) (head_text names titles Select) arguments None ws refl behind
  head_written Store arguments ws behind = bracketed (written_so.operator_word Store) (head_text names titles Store) arguments None ws refl behind
  head_written Cell arguments ws behind = bracketed (written_so.operator_word Cell) (head_text names titles Cell) arguments None ws refl behind
  head_written SetCell arguments ws behind = bracketed (written_so.operator_word SetCell) (head_text names titles SetCell) arguments None ws refl behind
  head_written Extend arguments ws behind = bracketed (written_so.operator_word Extend) (head_text names titles Extend) arguments None ws refl behind
  head_written PointerTo arguments ws behind = bracketed (written_so.operator_word PointerTo) (head_text names titles PointerTo) arguments None ws refl behind
  head_written Car arguments ws behind = bracketed (written_so.operator_word Car) (head_text names titles Car) arguments None ws refl behind
  head_written Cdr arguments ws behind = bracketed (written_so.operator_word Cdr) (head_text names titles Cdr) arguments None ws refl behind
  head_written Cons arguments ws behind = bracketed (written_so.operator_word Cons) (head_text names titles Cons) arguments None ws refl behind
  head_written Atom arguments ws behind = bracketed (written_so.operator_word Atom) (head_text names titles Atom) arguments None ws refl behind

  mutual
    -- a term is written as it is printed
    pub term_written : (t : Term) → written_bytes (written_of names titles t) ≡ term_text names titles t
    term_written (term h ts) = head_written h (arguments_text names titles ts) (all_written names titles ts) (arguments_written ts)

    arguments_written : (ts : Terms) → argument_bytes (all_written names titles ts) ≡ arguments_text names titles ts ++ codes ")"
    arguments_written no_terms = refl
    arguments_written (terms t ts) =
        ap (λ (l : List ℕ). 32 ∷ l)
        (ap (λ (l : List ℕ). l ++ argument_bytes (all_written names titles ts)) (term_written t)
        ∙ (ap (λ (l : List ℕ). term_text names titles t ++ l) (arguments_written ts) ∙ sym (append_assoc (term_text names titles t) (arguments_text names titles ts) (codes ")"))))
