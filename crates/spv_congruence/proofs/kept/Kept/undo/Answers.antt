use Rattle.std.proofs.Common.{◌+◌, ◌≤◌, ℕ, drop, sym, subst, arith}
use Rattle.spv_union_find.specs.signatures.Signatures.{cells_of}
use Rattle.spv_congruence.specs.Graph.{IsUpTo, weight_of}
use Rattle.spv_congruence.specs.Keep.{graph, EntersRest}
use Rattle.spv_congruence.proofs.Tells.{rewound_fits, rewound_graph, rewound_room, undoes}
use Rattle.spv_congruence.proofs.kept.Kept.undo.Goals as goal

pub enter_rest-requires-clause-fits : goal.enter_rest-requires-clause-fits
enter_rest-requires-clause-fits c = rewound_fits c.args.self.now c.rewound-from.new.self c.args.count c.rewound-from.ensures.back c.requires.fits c.requires.graph (let e = c.count.ensures in let f = c.if-count.false in omega (arith, e, f))

pub enter_rest-requires-clause-graph : goal.enter_rest-requires-clause-graph
enter_rest-requires-clause-graph c = subst (IsUpTo (graph c.rewound-from.new.self)) (sym c.rewound-from.ensures.terms)
    (rewound_graph c.args.self.now c.rewound-from.new.self c.args.count c.rewound-from.ensures.back c.requires.fits c.requires.graph (let e = c.count.ensures in let f = c.if-count.false in omega (arith, e, f)))

pub enter_rest-requires-clause-room : goal.enter_rest-requires-clause-room
enter_rest-requires-clause-room c = subst (λ (n : ℕ). cells_of c.rewound-from.new.self.table.rows + weight_of c.rewound-from.new.self.nodes (drop n c.rewound-from.new.self.added) ≤ c.rewound-from.new.self.table.room) (sym c.rewound-from.ensures.terms)
    (rewound_room c.args.self.now c.rewound-from.new.self c.args.count c.rewound-from.ensures.back c.requires.fits c.requires.graph (let e = c.count.ensures in let f = c.if-count.false in omega (arith, e, f)) c.law_room.ensures)

pub returns-clause-back : goal.returns-clause-back
returns-clause-back c less = undoes c.args.self.now c.rewound-from.new.self c.args.count c.rewound-from.ensures.back c.requires.fits c.requires.graph less c.enter_rest.new.self
    (subst (EntersRest c.rewound-from.new.self c.enter_rest.new.self) c.rewound-from.ensures.terms c.enter_rest.ensures.rest)
