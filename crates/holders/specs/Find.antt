-- From tables to codes: a largest choice of earned rows, what is reached from the source, and what reaches the sink.
--   Ended sh ch sheet t    no path leads to the sink, and the nodes that are reached from the source have a pred
--   Onward sh ch sheet t ch' t'        paths were turned, under the same limits, and the next round may begin
--   Augmented sh ch sheet t ch' t'     paths were turned until there is none
--   Name sh t t' v, NamedNode sh t t' v    node v has the label of the nodes that are reached from the source, where it has a pred;
--                          no other label changed
--   Named sh t t' m        the same of all nodes below m
--   Based sh ch sheet t    the state with every row free and no prices, and its lists
--   SourceSide r S spare label     the nodes that are reached from the source have their label, and the others 0; the sink is none
--                          of them
--   Sides r S spare label  each node has one of the three labels: those that are reached from the source and those that reach the
--                          sink have theirs
--   SourceLabelled sh ch sheet t   the labels in t are those of `SourceSide`
--   BothLabelled sh ch sheet t t'  the labels in t' are those of `Sides`, and only label and queue changed
--   Found sh t ch ch'      the bytes are the codes of the rows of the tables t, for every kind by which the rows that weigh the toll
--                          are the earned ones
use Rattle.std.specs.Prelude.{◌≡◌, ◌⊎◌, ◌≢◌, List, ℕ, ◌+◌, ◌≤◌, ◌<◌, length}
use Rattle.theory.specs.Residual.{Residual, Arc}
use Rattle.exchange.specs.Codes.{earned, Codes}
use Rattle.exchange.specs.Plain.{Forward, Backward}
use Rattle.scratch.specs.declared.Shape.{Shape}
use Rattle.scratch.specs.Map.{Keeps, OnlySearch, OnlyLabels, label_of, pred_of, spare_of, weight_of, price_of, kept_of}
use Rattle.scratch.specs.View.{net_of, residual_of}
use Rattle.residual.specs.Items.{Lists}
use Rattle.prices.specs.State.{Working, limit_of, State}
use Rattle.walks.specs.Walk.{Stuck}
use Rattle.solver.specs.Toll.{Running}
use Rattle.labels.specs.Label.{from_source, to_sink}

--------------------------------------------------------------------------------
-- A largest choice

pub record Ended (sh : Shape) (ch sheet t : List ℕ) : Type 0 where
  pub state : State sh ch sheet t
  pub all : sh.free ≡ 0
  pub stuck : Stuck sh ch sheet t
  pub lists : Lists sh sheet t

pub record Onward (sh : Shape) (ch sheet t ch' t' : List ℕ) : Type 0 where
  pub running : Running sh ch' sheet t'
  pub keeps : Keeps sh Working t t'
  pub limits : (v : ℕ) → v < sh.groups → limit_of sh ch' t' v ≡ limit_of sh ch t v

pub record Augmented (sh : Shape) (ch sheet t ch' t' : List ℕ) : Type 0 where
  pub ended : Ended sh ch' sheet t'
  pub keeps : Keeps sh Working t t'
  pub limits : (v : ℕ) → v < sh.groups → limit_of sh ch' t' v ≡ limit_of sh ch t v

pub record Based (sh : Shape) (ch sheet t : List ℕ) : Type 0 where
  pub state : State sh ch sheet t
  pub lists : Lists sh sheet t
  pub all : sh.free ≡ 0
  pub fresh : sh.fresh ≡ 0
  pub prices : (v : ℕ) → price_of sh sheet v ≡ 0

--------------------------------------------------------------------------------
-- Labels

abbrev pub Name : Shape → List ℕ → List ℕ → ℕ → Type 0
Name sh t t' v =
    ((0 < pred_of sh t v) × (label_of sh t' v ≡ from_source)) ⊎ ((pred_of sh t v ≡ 0) × (label_of sh t' v ≡ label_of sh t v))

pub record NamedNode (sh : Shape) (t t' : List ℕ) (v : ℕ) : Type 0 where
  pub only : OnlyLabels sh t t'
  pub name : Name sh t t' v
  pub else : (w : ℕ) → w ≢ v → label_of sh t' w ≡ label_of sh t w

pub record Named (sh : Shape) (t t' : List ℕ) (m : ℕ) : Type 0 where
  pub only : OnlyLabels sh t t'
  pub name : (v : ℕ) → v < m → Name sh t t' v
  pub else : (w : ℕ) → m ≤ w → label_of sh t' w ≡ label_of sh t w

pub record SourceSide (r : Residual) (S spare label : ℕ → ℕ) : Type 0 where
  pub named : (v : ℕ) → v < r.net.groups + 2 → (label v ≡ 0) ⊎ ((label v ≡ from_source) × Forward r S spare v)
  pub source : label r.net.groups ≡ from_source
  pub sink : label (r.net.groups + 1) ≡ 0
  pub ahead : (e u v : ℕ) → Arc r S spare e u v 0 → label u ≡ from_source → label v ≡ from_source

pub record Sides (r : Residual) (S spare label : ℕ → ℕ) : Type 0 where
  pub named :
      (v : ℕ) → v < r.net.groups + 2 →
      (label v ≡ 0) ⊎ (((label v ≡ from_source) × Forward r S spare v) ⊎ ((label v ≡ to_sink) × Backward r S spare v))
  pub source : label r.net.groups ≡ from_source
  pub sink : label (r.net.groups + 1) ≡ to_sink
  pub ahead : (e u v : ℕ) → Arc r S spare e u v 0 → label u ≡ from_source → label v ≡ from_source
  pub behind : (e u v : ℕ) → Arc r S spare e u v 0 → label v ≡ to_sink → label u ≡ to_sink

pub record SourceLabelled (sh : Shape) (ch sheet t : List ℕ) : Type 0 where
  pub based : Based sh ch sheet t
  pub front : SourceSide (residual_of sh sheet t) (kept_of ch) (spare_of sh t) (label_of sh t)

pub record BothLabelled (sh : Shape) (ch sheet t t' : List ℕ) : Type 0 where
  pub only : OnlySearch sh t t'
  pub based : Based sh ch sheet t'
  pub sides : Sides (residual_of sh sheet t') (kept_of ch) (spare_of sh t') (label_of sh t')

--------------------------------------------------------------------------------
-- Codes

pub record Found (sh : Shape) (t ch ch' : List ℕ) : Type 0 where
  pub long : length ch' ≡ length ch
  pub codes :
      (kind : ℕ → ℕ) → ((c : ℕ) → c < sh.rows → earned kind c ≡ 1 → weight_of sh t c ≡ sh.toll) →
      ((c : ℕ) → c < sh.rows → earned kind c ≡ 0 → weight_of sh t c < sh.toll) →
      Codes (net_of sh t) (spare_of sh t) kind (kept_of ch')
