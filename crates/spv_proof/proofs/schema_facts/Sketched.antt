-- The pieces of facts make these facts.
use Rattle.std.proofs.Common.{refl}
use Rattle.spv_term.specs.Arena.{Arena, tree}
use Rattle.spv_proof.specs.declared.schema_facts.facts.SchemaFact.{SchemaFact}
use Rattle.spv_proof.specs.declared.schema_facts.facts.SchemaFact.TheVariants.{SamePlace, OtherPlace, MembersStay, MembersExtended, NilIsNoMember, PartIs, SamePart, NoAtom, PairOfParts, Dividend, RemainderAbove, RemainderBelow, QuotientIs, RemainderIs}
use Rattle.spv_rules.specs.making.Pieces.{IsSketch}
use Rattle.spv_proof.specs.schema_facts.Facts.{said, FactIn}
use Rattle.spv_proof.specs.schema_facts.Sketches.{sketch}

pub sketched : (a : Arena) (f : SchemaFact) → FactIn a f → IsSketch a (sketch f) (said (tree a) f)
sketched a (SamePlace read c) h = record {
  one = refl;
  enough = refl;
  stand = (h.1.place, (h.1.other, ((refl, refl), (h.1.whole, (h.1.other, (h.0, (h.1.value, ((refl, refl), ((refl, refl), tt)))))))));
}
sketched a (OtherPlace read c) h = record {
  one = refl;
  enough = refl;
  stand = (h.1.place, (h.1.other, ((refl, refl), ((refl, refl), (h.1.whole, (h.1.other, (h.0, (h.1.base, (h.1.other, (h.0, ((refl, refl), ((refl, refl), tt))))))))))));
}
sketched a (MembersStay c) h = record {
  one = refl;
  enough = refl;
  stand = (h.other, (h.whole, ((refl, refl), (h.other, (h.base, ((refl, refl), ((refl, refl), tt)))))));
}
sketched a (MembersExtended class c) h = record {
  one = refl;
  enough = refl;
  stand = (
    h.1.place,
    (
      h.0,
      (
        (refl, refl),
        ((refl, refl), (h.1.other, (h.1.whole, ((refl, refl), (h.1.place, (h.1.other, ((refl, refl), (h.1.other, (h.1.base, ((refl, refl), ((refl, refl), ((refl, refl), ((refl, refl), tt))))))))))))),
      ),
    ),
  );
}
sketched a (NilIsNoMember class c) h = record { one = refl; enough = refl; stand = (h.0, (h.1, ((refl, refl), ((refl, refl), tt)))) }
sketched a (PartIs part whole value) h = record { one = refl; enough = refl; stand = (h.1, (h.0, (h.2, ((refl, refl), tt)))) }
sketched a (SamePart part whole base) h = record { one = refl; enough = refl; stand = (h.1, (h.0, (h.2, (h.0, ((refl, refl), tt))))) }
sketched a (NoAtom pair) h = record { one = refl; enough = refl; stand = (h, ((refl, refl), ((refl, refl), tt))) }
sketched a (PairOfParts x) h = record {
  one = refl;
  enough = refl;
  stand = (h, ((refl, refl), ((refl, refl), (h, ((refl, refl), (h, ((refl, refl), ((refl, refl), (h, ((refl, refl), ((refl, refl), tt)))))))))));
}
sketched a (Dividend d) h = record {
  one = refl;
  enough = refl;
  stand = (h.0, (h.1, (h.0, (h.1, ((refl, refl), ((refl, refl), (h.0, (h.1, ((refl, refl), ((refl, refl), ((refl, refl), tt)))))))))));
}
sketched a (RemainderAbove d) h = record {
  one = refl;
  enough = refl;
  stand = ((refl, refl), (h.1, ((refl, refl), ((refl, refl), (h.1, (h.2, ((refl, refl), ((refl, refl), (h.1, (h.2, ((refl, refl), (h.0, ((refl, refl), ((refl, refl), ((refl, refl), tt)))))))))))))));
}
sketched a (RemainderBelow d) h = record {
  one = refl;
  enough = refl;
  stand = (h.1, ((refl, refl), ((refl, refl), (h.0, (h.1, (h.2, ((refl, refl), ((refl, refl), (h.1, (h.2, ((refl, refl), ((refl, refl), ((refl, refl), ((refl, refl), ((refl, refl), tt)))))))))))))));
}
sketched a (QuotientIs d) h = record { one = refl; enough = refl; stand = (h.1, (h.2, ((refl, refl), (h.0, ((refl, refl), tt))))) }
sketched a (RemainderIs d) h = record { one = refl; enough = refl; stand = (h.1, (h.2, ((refl, refl), (h.0, ((refl, refl), tt))))) }
