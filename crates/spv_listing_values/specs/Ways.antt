-- Written terms as trees of numbers and back. No contract speaks of it: it tells the models that hold them apart.
use Rattle.std.specs.Prelude.{ℕ, zero, suc, ◌≡◌, refl, List, [], Option}
use base.Stored.{Gv, gnil, gnum, gcons}
use Rattle.spv_logic.specs.list.Ways.{Way, way_ℕ, way_list, way_option}
use Rattle.spv_listing_values.specs.Written.{Head, Alone, Applied, Written, Writtens, written, no_written, writtens}

abbrev way_text : Way (List ℕ)
way_text = way_list way_ℕ

abbrev way_name : Way (Option (List ℕ))
way_name = way_option way_text

abbrev head_to : Head → Gv
head_to (Alone text) = gcons (gnum 0) (way_text.to text)
head_to (Applied text name) = gcons (gnum 1) (gcons (way_text.to text) (way_name.to name))

abbrev head_back : Gv → Head
head_back (gcons (gnum zero) a) = Alone (way_text.back a)
head_back (gcons (gnum (suc zero)) (gcons a b)) = Applied (way_text.back a) (way_name.back b)
head_back _ = Alone []

pub head_same : (h : Head) → head_back (head_to h) ≡ h
head_same (Alone text) = λ i. Alone (way_text.same text i)
head_same (Applied text name) = λ i. Applied (way_text.same text i) (way_name.same name i)

abbrev mutual
  written_to : Written → Gv
  written_to (written h ts) = gcons (head_to h) (writtens_to ts)

  writtens_to : Writtens → Gv
  writtens_to no_written = gnil
  writtens_to (writtens t ts) = gcons (written_to t) (writtens_to ts)

abbrev mutual
  written_back : Gv → Written
  written_back (gcons a b) = written (head_back a) (writtens_back b)
  written_back _ = written (Alone []) no_written

  writtens_back : Gv → Writtens
  writtens_back (gcons a b) = writtens (written_back a) (writtens_back b)
  writtens_back _ = no_written

mutual
  pub written_same : (t : Written) → written_back (written_to t) ≡ t
  written_same (written h ts) = λ i. written (head_same h i) (writtens_same ts i)

  writtens_same : (ts : Writtens) → writtens_back (writtens_to ts) ≡ ts
  writtens_same no_written = refl
  writtens_same (writtens t ts) = λ i. writtens (written_same t i) (writtens_same ts i)

abbrev pub way_written : Way Written
way_written = record { to = written_to; back = written_back; same = written_same }
