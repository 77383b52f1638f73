-- What makes names with selectors seen as plain data: numbers that tell them apart. No contract speaks of it.
use Rattle.std.specs.Prelude.{zero, suc, pos, ◌≡◌}
use base.Stored.{Gv, gnum, gcons, num}
use Rattle.spv_logic.specs.list.Ways.{Way, head, tail, way_ℤ, way_list}
use Rattle.spv_program.specs.typed.Model.Codes.{way_type, way_symbol}
use Rattle.spv_program.specs.typed.Model.ExpressionCodes.{way_expression, way_call}
use Rattle.spv_typing.specs.ExpressionWalk.{Base, AtName, AtResult, OfNumber, OfCall, Link, ByIndex, ByField, ByCell, Reached}

abbrev base_to : Base → Gv
base_to (AtName line x) = gcons (gnum 0) (gcons (gnum line) (way_symbol.to x))
base_to (AtResult line x) = gcons (gnum 1) (gcons (gnum line) (way_symbol.to x))
base_to (OfNumber z) = gcons (gnum 2) (way_ℤ.to z)
base_to (OfCall c) = gcons (gnum 3) (way_call.to c)

abbrev base_back : Gv → Base
base_back (gcons (gnum zero) (gcons a b)) = AtName (num a) (way_symbol.back b)
base_back (gcons (gnum (suc zero)) (gcons a b)) = AtResult (num a) (way_symbol.back b)
base_back (gcons (gnum (suc (suc zero))) a) = OfNumber (way_ℤ.back a)
base_back (gcons (gnum (suc (suc (suc zero)))) a) = OfCall (way_call.back a)
base_back _ = OfNumber (pos 0)

pub base_same : (b : Base) → base_back (base_to b) ≡ b
base_same (AtName line x) = λ i. AtName line (way_symbol.same x i)
base_same (AtResult line x) = λ i. AtResult line (way_symbol.same x i)
base_same (OfNumber z) = λ i. OfNumber (way_ℤ.same z i)
base_same (OfCall c) = λ i. OfCall (way_call.same c i)

abbrev way_base : Way Base
way_base = record { to = base_to; back = base_back; same = base_same }

abbrev link_to : Link → Gv
link_to (ByIndex t e) = gcons (gnum 0) (gcons (way_type.to t) (way_expression.to e))
link_to (ByField t f) = gcons (gnum 1) (gcons (way_type.to t) (way_symbol.to f))
link_to (ByCell line t) = gcons (gnum 2) (gcons (gnum line) (way_type.to t))

abbrev link_back : Gv → Link
link_back (gcons (gnum zero) (gcons a b)) = ByIndex (way_type.back a) (way_expression.back b)
link_back (gcons (gnum (suc zero)) (gcons a b)) = ByField (way_type.back a) (way_symbol.back b)
link_back (gcons (gnum (suc (suc zero))) (gcons a b)) = ByCell (num a) (way_type.back b)
link_back _ = ByCell 0 (record { 0 = 0 })

pub link_same : (l : Link) → link_back (link_to l) ≡ l
link_same (ByIndex t e) = λ i. ByIndex (way_type.same t i) (way_expression.same e i)
link_same (ByField t f) = λ i. ByField (way_type.same t i) (way_symbol.same f i)
link_same (ByCell line t) = λ i. ByCell line (way_type.same t i)

abbrev way_link : Way Link
way_link = record { to = link_to; back = link_back; same = link_same }

abbrev pub way_reached : Way Reached
way_reached = record {
  to = λ r. gcons (way_base.to r.base) (gcons ((way_list way_link).to r.links) (way_type.to r.type));
  back = λ g. record {
    base = way_base.back (head g);
    links = (way_list way_link).back (head (tail g));
    type = way_type.back (tail (tail g));
  };
  same = λ r i. record {
    base = way_base.same r.base i;
    links = (way_list way_link).same r.links i;
    type = way_type.same r.type i;
  };
}
