-- The search goes back from the sink to its end, since the source has a label of its own; what it reached is what reaches the sink.
use native.Mathlib.Omega.{arith}
use Rattle.holders.proofs.FindLaws.{sink-asked, sink-aside, sink-queued, sink-labelled}
use Rattle.holders.proofs.label_sink.Goals as goal

pub search_back-n-requires : goal.search_back-n-requires
search_back-n-requires g c =
    let A = c.requires in
    record {
      asked = sink-asked A;
      groups_nonzero = sink-aside A;
    }

pub relabel-requires : goal.relabel-requires
relabel-requires g c =
    record {
      queued = sink-queued c.requires c.search_back-n.ensures;
      x_lt_cell_bound = omega arith;
    }

pub returns : goal.returns
returns g c =
    sink-labelled c.requires c.search_back-n.ensures
    c.relabel.ensures
