use Rattle.spv_dictionary.proofs.Making.{made_as}
use Rattle.spv_dictionary.proofs.dictionary.Dictionary.exchange.Goals as goal

pub invariant_of-self : goal.invariant_of-self
invariant_of-self c =
    (made_as _ c.args.self.now _ c.args.row c.args.slot c.exchange.ensures.mixed.0 c.self.view_is c.self.invariant c.requires.ready c.requires.row c.requires.slot c.requires.nonzero
    (record {
      spots = c.relabel.ensures.spots;
      basic = c.relabel.ensures.basic;
      outside = c.relabel.ensures.outside;
      mixed = c.exchange.ensures.mixed.1;
      cells = c.exchange.ensures.mixed.2;
      solved = c.exchange.ensures.out;
    })).dictionary

pub returns : goal.returns
returns c =
    (made_as _ c.args.self.now _ c.args.row c.args.slot c.exchange.ensures.mixed.0 c.self.view_is c.self.invariant c.requires.ready c.requires.row c.requires.slot c.requires.nonzero
    (record {
      spots = c.relabel.ensures.spots;
      basic = c.relabel.ensures.basic;
      outside = c.relabel.ensures.outside;
      mixed = c.exchange.ensures.mixed.1;
      cells = c.exchange.ensures.mixed.2;
      solved = c.exchange.ensures.out;
    })).exchanged
