-- Laws of the walk from the target back to the start, in the buffers.
--   priced-flip spare-residual flipped-ready    what a flip keeps
--   stands-reach path-reach    in the queue of a search the walk back can begin at every node that was reached
--   At sh ch₀ sheet t₀ start target ch t u i    the walk has come back to u by i arcs
--   at_first at-turning at_next at-end   it begins at the target, turns the arc into u, goes on, and ends at the start
--   at_more               where it has not come to the start, fewer arcs are turned than there are nodes
use mathlib.Core.Path.{◌≡◌, refl, sym, ap, subst, ◌∙◌}
use mathlib.Core.Logic.{◌≢◌, ⊎_elim}
use mathlib.Core.Bool.{false}
use mathlib.Core.List.{List}
use Prim.Native.Nat.{ℕ, ◌+◌, ◌-◌, ◌≤◌, ◌<◌}
use native.Mathlib.Decide.{dec_lt}
use native.Mathlib.Omega.{arith}
use lib.ListN.{length}
use Rattle.theory.specs.Network.{Network}
use Rattle.theory.specs.Formed.{Formed}
use Rattle.theory.specs.Residual.{Residual, Arc}
use Rattle.theory.specs.Level.{count}
use Rattle.theory.specs.Turn.{Flipped}
use Rattle.theory.specs.Walk.{place, Came, Come, Stands, Walks}
use Rattle.theory.proofs.ForestLaws.{chain-small}
use Rattle.theory.proofs.NetworkLaws.{formed-down}
use Rattle.theory.proofs.CutLaws.{tail-node}
use Rattle.theory.proofs.TurnLaws.{flip-selection, flip-out, flip-kept}
use Rattle.theory.proofs.WalkLaws.{place-first, stands-queue, walks-first, walks-come, walks_next}
use Rattle.scratch.specs.declared.Shape.{Shape}
use Rattle.scratch.specs.Map.{max_spare, arc_in, pred_of, spare_of, kept_of, labels, OnlySpare}
use Rattle.scratch.specs.View.{net_of, residual_of}
use Rattle.residual.specs.State.{Priced, Ready}
use Rattle.paths.specs.Flip.{Turning, Moved, Turned, OldFrom, Path, Walked}
use Rattle.scratch.proofs.MapLaws.{keeps-none, keeps_then, room-keeps, residual-same}
use Rattle.look.specs.Reach.{Reach}
use Rattle.look.proofs.ReachLaws.{reached-most}

pub priced-flip :
    {r : Residual} {S spare S' spare' : ℕ → ℕ} {u v : ℕ} → Priced r S → Flipped r S spare S' spare' u v → Priced r S'
priced-flip {r} P F = record {
  small = P.small;
  small_toll = P.small_toll;
  rises = P.rises;
  bits = flip-selection r F P.bits;
  out = flip-out r F P.out;
  kept = flip-kept r F P.kept;
}

pub spare-residual : {sh : Shape} {t t' : List ℕ} (sheet : List ℕ) → OnlySpare sh t t' → residual_of sh sheet t' ≡ residual_of sh sheet t
spare-residual sheet A = residual-same sheet (λ k l p. omega arith) A

pub flipped-ready :
    {sh : Shape} {ch sheet t ch' t' : List ℕ} {u v : ℕ} → Ready sh ch sheet t → OnlySpare sh t t' → length ch' ≡ length ch →
    Flipped (residual_of sh sheet t) (kept_of ch) (spare_of sh t) (kept_of ch') (spare_of sh t') u v → Ready sh ch' sheet t'
flipped-ready {sh} {sheet} {ch' = ch'} R A long F = record {
  buffers = record {
    room = room-keeps A.long R.buffers.room;
    sheets = R.buffers.sheets;
    choices = omega (arith, R.buffers.choices);
  };
  formed = subst (λ (x : Residual). Formed x.net) (sym (spare-residual sheet A)) R.formed;
  priced = subst (λ (x : Residual). Priced x (kept_of ch')) (sym (spare-residual sheet A)) (priced-flip R.priced F);
}

-- the places are those of the queue
module _ {r : Residual} {S spare pred queue : ℕ → ℕ} {n : ℕ} (R : Reach false r S spare pred queue n n) where
  abbrev nodes : ℕ
  nodes = r.net.groups + 2

  most : n ≤ nodes
  most = omega (arith, R.size, reached-most pred nodes)

  came : (i : ℕ) → i < n → 0 < i → Came r S spare pred queue i
  came i l z = let C = R.come i l z in record { j = C.j; before = C.before; by = C.by; is = C.is; arc = C.arc }

  pub stands-reach : (u : ℕ) → u < nodes → 0 < pred u → Stands r S spare pred (place queue nodes) (queue 0) u
  stands-reach u node seen =
      let at = R.spot u node seen in
      stands-queue r queue nodes n most came u
      (omega (arith, at.1, place-first nodes queue u at.0 (omega (arith, at.1, most)) at.2))

  few : (u : ℕ) → u < nodes → 0 < pred u → place queue nodes u ≤ nodes
  few u node seen =
      let at = R.spot u node seen in
      omega (arith, at.1, most, place-first nodes queue u at.0 (omega (arith, at.1, most)) at.2)

pub path-reach :
    {sh : Shape} {ch sheet t : List ℕ} {queue : ℕ → ℕ} {start target n : ℕ} → Ready sh ch sheet t →
    Reach false (residual_of sh sheet t) (kept_of ch) (spare_of sh t) (pred_of sh t) queue n n → queue 0 ≡ start → target < sh.groups + 2 →
    0 < pred_of sh t target → ((x : ℕ) → x < sh.groups → spare_of sh t x + count (net_of sh t) (kept_of ch) x ≤ max_spare) →
    Path sh ch sheet t start target
path-reach {sh} {queue = queue} R X begin node found low = record {
  ready = R;
  place = place queue (sh.groups + 2);
  few = few X _ node found;
  stands = rw (sym begin) (stands-reach X _ node found);
  begin = rw begin at (X.seen 0 X.some);
  node = node;
  low = low;
}

-- the loop's invariant: i arcs are turned
pub record At (sh : Shape) (ch₀ sheet t₀ : List ℕ) (start target : ℕ) (ch t : List ℕ) (u i : ℕ) : Type 0 where
  pub path : Path sh ch₀ sheet t₀ start target
  pub node : u < sh.groups + 2
  pub only : OnlySpare sh t₀ t
  pub long : length ch ≡ length ch₀
  pub left : path.place u + i ≤ sh.groups + 2
  pub walk :
      Walks (residual_of sh sheet t₀) (kept_of ch₀) (spare_of sh t₀) (pred_of sh t₀) path.place start target
      (kept_of ch) (spare_of sh t) u
  pub old : OldFrom (residual_of sh sheet t₀) (kept_of ch₀) (spare_of sh t₀) (kept_of ch) (spare_of sh t) start

pub at_first :
    {sh : Shape} {ch₀ sheet t₀ : List ℕ} {start target : ℕ} → Path sh ch₀ sheet t₀ start target →
    At sh ch₀ sheet t₀ start target ch₀ t₀ target 0
at_first {sh} {sheet = sheet} {t₀} P = record {
  path = P;
  node = P.node;
  only = keeps-none;
  long = refl;
  left = omega (arith, P.few);
  walk = walks-first (residual_of sh sheet t₀) P.stands;
  old = λ e v A. A;
}

module _
    {sh : Shape} {ch₀ sheet t₀ : List ℕ} {start target : ℕ} {ch t : List ℕ} {u i : ℕ}
    (I : At sh ch₀ sheet t₀ start target ch t u i)
  where
    module _ (z : u ≢ start) where
      -- how u was reached
      come : Come (residual_of sh sheet t₀) (kept_of ch) (spare_of sh t) (pred_of sh t₀) I.path.place u
      come = walks-come (residual_of sh sheet t₀) I.walk z

      come-is : pred_of sh t u ≡ come.by + 1
      come-is = ap (λ (f : ℕ → ℕ). arc_in sh.fresh (f u)) (I.only.rest labels (λ p. omega arith)) ∙ come.is

      come-arc : Arc (residual_of sh sheet t) (kept_of ch) (spare_of sh t) come.by come.from u 0
      come-arc =
          subst (λ (x : Residual). Arc x (kept_of ch) (spare_of sh t) come.by come.from u 0)
          (sym (spare-residual sheet I.only)) come.arc

      pub at-turning : Turning sh ch sheet t u
      at-turning = record {
        ready = flipped-ready I.path.ready I.only I.long I.walk.flip;
        node = I.node;
        good = record { u = come.from; by = come.by; is = come-is; arc = come-arc };
        low = λ x l.
            let d : Network = net_of sh t₀ in
            let small : (w : ℕ) → _ = λ w.
            chain-small d.groups d.parent (formed-down d I.path.ready.formed) w x in
            elim (dec_lt x sh.cards) [
              | yes h ↦ omega (arith, I.walk.flip.card x h, I.path.low x l, small u)
              | no h ↦ omega (arith, I.walk.flip.shop x (omega arith) l, I.path.low x l, small target)
            ];
      }

      pub at_next :
          {ch' t' : List ℕ} {x : ℕ} → Turned sh ch sheet t ch' t' u x → At sh ch₀ sheet t₀ start target ch' t' x (i + 1)
      at_next {ch'} {t'} {x} T =
          let e : pred_of sh t u - 1 ≡ come.by = omega (arith, come-is) in
          let M : Moved (residual_of sh sheet t₀) (kept_of ch) (spare_of sh t) (kept_of ch') (spare_of sh t') come.from u x =
          subst (λ (y : Residual). Moved y (kept_of ch) (spare_of sh t) (kept_of ch') (spare_of sh t') come.from u x)
          (spare-residual sheet I.only)
          (T.move come.from (rw e come-arc)) in
          rw M.is (record {
            path = I.path;
            node =
                tail-node (residual_of sh sheet t₀) (kept_of ch) (spare_of sh t) I.path.ready.formed come.by come.from u 0
                come.arc;
            only = keeps_then I.only T.only;
            long = T.long ∙ I.long;
            left = omega (arith, I.left, come.before);
            walk = walks_next (residual_of sh sheet t₀) I.walk I.path.begin come M.flip M.others M.back;
            old = λ e v A. ⊎_elim (I.old e v) (λ w. absurd (z (sym w.0))) (M.back e start v A);
          })

    pub at-end : u ≡ start → Walked sh ch₀ sheet t₀ ch t start target
    at-end e = record { only = I.only; long = I.long; flip = rw e at I.walk.flip; inside = I.walk.inside; old = I.old }

    -- no node but the start has place 0
    pub at_more : u ≢ start → i < sh.groups + 2
    at_more z = omega (arith, I.left, (come z).before)
