-- The codes are decided by the lists of rows that fit each side, and so by what the networks and the limits are at the groups and the rows.
--   common-cong plus-cong minus-cong   families with the same independent sets
--   resized d e            the network e with as many rows as d
--   codes-lists            networks with as many rows, in which the same lists fit each side
--   codes-alike            networks that agree
use mathlib.Core.Path.{◌≡◌, refl, ap, subst}
use Prim.Native.Nat.{ℕ, ◌*◌, ◌<◌}
use native.Mathlib.Omega.{arith}
use Rattle.theory.specs.Incidence.{load}
use Rattle.theory.specs.Network.{Network, on_side, Independent}
use Rattle.theory.specs.Formed.{Alike}
use Rattle.theory.proofs.SumLaws.{sum-cong}
use Rattle.theory.proofs.AlikeLaws.{on-side-alike}
use Rattle.exchange.specs.Exchange as graph
use Rattle.exchange.specs.Exchange.{Common, Arrow, Leads}
use Rattle.exchange.specs.Exchange.Arrow.{first, second}
use Rattle.exchange.specs.Exchange.Leads.{here, then}
use Rattle.exchange.specs.Codes.{earned, Largest, Plus, Minus, Coded, Codes}
use Rattle.exchange.specs.Codes.Coded.{ordinary, shop-held, card-held, rest}

module _
    (N : ℕ) (One Two One' Two' : (ℕ → ℕ) → Type 0) (A : ℕ → ℕ) (one : (X : ℕ → ℕ) → One X → One' X)
    (two : (X : ℕ → ℕ) → Two X → Two' X)
  where
    pub common-cong : {I : ℕ → ℕ} → Common N One Two A I → Common N One' Two' A I
    common-cong {I} k = record { bits = k.bits; within = k.within; one = one I k.one; two = two I k.two }

    arrow-cong : {I : ℕ → ℕ} {u v : ℕ} → Arrow N One Two A I u v → Arrow N One' Two' A I u v
    arrow-cong (first y x i o h) = first y x i o (one _ h)
    arrow-cong (second x y o i h) = second x y o i (two _ h)

    leads-cong : {I : ℕ → ℕ} {u v : ℕ} → Leads N One Two A I u v → Leads N One' Two' A I u v
    leads-cong (here u) = here u
    leads-cong (then u v w l a) = then u v w (leads-cong l) (arrow-cong a)

    pub plus-cong : {I : ℕ → ℕ} {c : ℕ} → graph.Plus N One Two A I c → graph.Plus N One' Two' A I c
    plus-cong p = record {
      from = p.from;
      enters = record { out = p.enters.out; ind = one _ p.enters.ind };
      leads = leads-cong p.leads;
    }

    pub minus-cong : {I : ℕ → ℕ} {c : ℕ} → graph.Minus N One Two A I c → graph.Minus N One' Two' A I c
    minus-cong p = record {
      to = p.to;
      enters = record { out = p.enters.out; ind = two _ p.enters.ind };
      leads = leads-cong p.leads;
    }

--------------------------------------------------------------------------------
-- The same lists of rows fit

abbrev pub resized : Network → Network → Network
resized d e =
    record { cards = e.cards; groups = e.groups; rows = d.rows; parent = e.parent; card = e.card; shop = e.shop }

module _
    (d e : Network) (limit other kind : ℕ → ℕ)
    (there : (side : ℕ) (X : ℕ → ℕ) → Independent d limit side X → Independent (resized d e) other side X)
    (back : (side : ℕ) (X : ℕ → ℕ) → Independent (resized d e) other side X → Independent d limit side X)
  where
    abbrev One : (ℕ → ℕ) → Type 0
    One = Independent d limit 0

    abbrev Two : (ℕ → ℕ) → Type 0
    Two = Independent d limit 1

    abbrev One' : (ℕ → ℕ) → Type 0
    One' = Independent (resized d e) other 0

    abbrev Two' : (ℕ → ℕ) → Type 0
    Two' = Independent (resized d e) other 1

    largest-back : {I : ℕ → ℕ} → Largest (resized d e) other kind I → Largest d limit kind I
    largest-back k = record {
      common = common-cong d.rows One' Two' One Two (earned kind) (back 0) (back 1) k.common;
      most = λ J h. k.most J (common-cong d.rows One Two One' Two' (earned kind) (there 0) (there 1) h);
    }

    plus-there : {I : ℕ → ℕ} {c : ℕ} → Plus d limit kind I c → Plus (resized d e) other kind I c
    plus-there = plus-cong d.rows One Two One' Two' (earned kind) (there 0) (there 1)

    plus-back : {I : ℕ → ℕ} {c : ℕ} → Plus (resized d e) other kind I c → Plus d limit kind I c
    plus-back = plus-cong d.rows One' Two' One Two (earned kind) (back 0) (back 1)

    minus-there : {I : ℕ → ℕ} {c : ℕ} → Minus d limit kind I c → Minus (resized d e) other kind I c
    minus-there = minus-cong d.rows One Two One' Two' (earned kind) (there 0) (there 1)

    minus-back : {I : ℕ → ℕ} {c : ℕ} → Minus (resized d e) other kind I c → Minus d limit kind I c
    minus-back = minus-cong d.rows One' Two' One Two (earned kind) (back 0) (back 1)

    coded-there : {I : ℕ → ℕ} {c n : ℕ} → Coded d limit kind I c n → Coded (resized d e) other kind I c n
    coded-there (ordinary h) = ordinary h
    coded-there (shop-held p) = shop-held (plus-there p)
    coded-there (card-held p) = card-held (minus-there p)
    coded-there (rest h x y) = rest h (λ p. x (plus-back p)) (λ p. y (minus-back p))

    pub codes-lists : (k : ℕ → ℕ) → Codes d limit kind k → Codes (resized d e) other kind k
    codes-lists k C = λ I best c l. coded-there (C I (largest-back best) c l)

--------------------------------------------------------------------------------
-- The same groups and rows

module _
    (d e : Network) (alike : Alike d e) (limit other kind : ℕ → ℕ) (limits : (v : ℕ) → v < d.groups → limit v ≡ other v)
  where
    same : Alike d (resized d e)
    same = record {
      cards = alike.cards;
      groups = alike.groups;
      rows = refl;
      parent = alike.parent;
      card = alike.card;
      shop = alike.shop;
    }

    sizes : resized d e ≡ e
    sizes =
        ap {B = Network}
        (λ n. record { cards = e.cards; groups = e.groups; rows = n; parent = e.parent; card = e.card; shop = e.shop })
        alike.rows

    same_load : (side : ℕ) (X : ℕ → ℕ) (v : ℕ) → load d.rows (on_side d side) X v ≡ load d.rows (on_side (resized d e) side) X v
    unfolding load
    same_load side X v = sum-cong d.rows (λ c l. ap (λ t. X c * t) (on-side-alike d (resized d e) same side c v l))

    there : (side : ℕ) (X : ℕ → ℕ) → Independent d limit side X → Independent (resized d e) other side X
    there side X i = (
      i.0,
      λ v l.
          let h : v < d.groups = omega (arith, alike.groups) in
          omega (arith, i.1 v h, same_load side X v, limits v h),
    )

    back : (side : ℕ) (X : ℕ → ℕ) → Independent (resized d e) other side X → Independent d limit side X
    back side X i = (i.0, λ v h. omega (arith, i.1 v (omega (arith, alike.groups)), same_load side X v, limits v h))

    pub codes-alike : (k : ℕ → ℕ) → Codes d limit kind k → Codes e other kind k
    codes-alike k C = subst (λ (x : Network). Codes x other kind k) sizes (codes-lists d e limit other kind there back k C)
