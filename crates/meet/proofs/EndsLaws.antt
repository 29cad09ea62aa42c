-- Laws of a search from both ends, over functions. A node is reached from one end at most, since the labels of the two directions differ;
-- so both ends together have no more nodes than there are, and their parts of the queue do not overlap.
--   seen-fresh seen_apart    a fresh node is reached from neither end, and no node from both
--   spot-one spot-apart puts-spot    the places of the queue
--   both-few                 both ends together have no more nodes than there are
--   both-swap                both ends, the other one first
--   spread_none spread-then spread-took seen-stale    what becomes of the labels, and of a node that is reached
--   free-stale               a node that is neither fresh nor the other end's stays so
--   took-free took-both took-keep took-rest    one node more from one end
use mathlib.Core.Path.{◌≡◌, refl, sym, ap, subst, ◌∙◌, fun_ext}
use mathlib.Core.Logic.{◌≢◌, inl, inr, ⊎_elim}
use mathlib.Core.Bool.{Bool, true, false, not}
use Prim.Native.Nat.{ℕ, ◌+◌, ◌≤◌, ◌<◌}
use native.Mathlib.Decide.{dec_lt}
use native.Mathlib.Omega.{arith}
use Rattle.theory.specs.Sum.{is}
use Rattle.theory.specs.Residual.{Residual}
use Rattle.theory.specs.Turn.{Puts}
use Rattle.theory.proofs.SumLaws.{sum-le, sum_one, sum-add, is-no, is-small}
use Rattle.theory.proofs.TurnLaws.{puts-at}
use Rattle.scratch.specs.Map.{span, arc_in}
use Rattle.scratch.proofs.MapLaws.{arc-in-far}
use Rattle.look.specs.Reach.{reached, Reach}
use Rattle.look.proofs.LabelLaws.{arc-in-low, arc-in-some, arc-in-more, pred-puts}
use Rattle.look.proofs.ReachLaws.{reach-later, reach-queue, reach-more}
use Rattle.meet.specs.Ends.{base, seen_in, spot, stands_in, Spread, Both, Took, Free}

--------------------------------------------------------------------------------
-- Labels

module _ (f : ℕ) (label : ℕ → ℕ) (v : ℕ) where
  pub seen-fresh : (back : Bool) → label v ≡ f → seen_in back f label v ≡ 0
  seen-fresh true e = arc-in-low (f + span) (label v) (omega arith)
  seen-fresh false e = arc-in-low f (label v) (omega arith)

  pub seen_apart : (back : Bool) → 0 < seen_in back f label v → seen_in (not back) f label v ≡ 0
  seen_apart true some = arc-in-far f (label v) (omega (arith, (arc-in-some (f + span) (label v) some).0))
  seen_apart false some = arc-in-low (f + span) (label v) (omega (arith, (arc-in-some f (label v) some).1))

module _ (back : Bool) (f : ℕ) where
  pub spread_none : (label : ℕ → ℕ) → Spread back f label label
  spread_none label v = inl refl

  pub spread-then : (p q r : ℕ → ℕ) → Spread back f p q → Spread back f q r → Spread back f p r
  spread-then p q r A B v =
      ⊎_elim
      (λ e. ⊎_elim (λ d. inl (e ∙ d)) (λ d. inr (d.0, omega (arith, ap (arc_in (base back f)) e, d.1))) (A v))
      (λ w. ⊎_elim (λ d. inr (sym d ∙ w.0, w.1)) (λ d. inr (d.0, w.1)) (A v))
      (B v)

  pub seen-stale : (label label' : ℕ → ℕ) → Spread back f label label' → (v : ℕ) → 0 < seen_in back f label v → 0 < seen_in back f label' v
  seen-stale label label' A v some =
      ⊎_elim (λ e. omega (arith, ap (arc_in (base back f)) e)) (λ w. w.1) (A v)

-- in whichever direction the labels were given
pub free-stale :
    (back way : Bool) (r : Residual) (S spare : ℕ → ℕ) (f : ℕ) (label label' : ℕ → ℕ) → Spread way f label label' → (v : ℕ) →
    Free back r S spare f label v → Free back r S spare f label' v
free-stale back way r S spare f label label' A v F =
    ⊎_elim
    (λ (e : label' v ≡ label v). (λ z. F.0 (sym e ∙ z), ap (arc_in (base (not back) f)) e ∙ F.1))
    (λ w. absurd (F.0 w.0))
    (A v)

--------------------------------------------------------------------------------
-- The queue

pub spot-one : (g : ℕ) (back : Bool) (i n : ℕ) → n < g + 2 → spot g back i ≡ spot g back n → i ≡ n
spot-one g true i n l e = omega arith
spot-one g false i n l e = e

pub spot-apart : (g : ℕ) (back : Bool) (i n m : ℕ) → i < m → n + m ≤ g + 2 → spot g (not back) i ≢ spot g back n
spot-apart g true i n m l few e = omega arith
spot-apart g false i n m l few e = omega arith

pub puts-spot :
    (g : ℕ) (back : Bool) {queue queue' : ℕ → ℕ} {n v : ℕ} → n < g + 2 → Puts queue queue' (spot g back n) v →
    Puts (stands_in back g queue) (stands_in back g queue') n v
puts-spot g back {n = n} l P = record { here = P.here; else = λ i d. P.else (spot g back i) (λ e. d (spot-one g back i n l e)) }

--------------------------------------------------------------------------------
-- Both ends

reach-pred :
    {back : Bool} {r : Residual} {S spare pred pred' queue : ℕ → ℕ} {h n : ℕ} → ((v : ℕ) → pred' v ≡ pred v) →
    Reach back r S spare pred queue h n → Reach back r S spare pred' queue h n
reach-pred {back} {r} {S} {spare} {queue = queue} {h} {n} same R =
    subst (λ (p : ℕ → ℕ). Reach back r S spare p queue h n) (sym (fun_ext same)) R

pub reached-apart :
    (pred pred' : ℕ → ℕ) (n : ℕ) → ((v : ℕ) → 0 < pred v → pred' v ≡ 0) → reached pred n + reached pred' n ≤ n
unfolding reached
reached-apart pred pred' n apart =
    omega (
      arith,
      sum-add n (λ v. is (dec_lt 0 (pred v))) (λ v. is (dec_lt 0 (pred' v))),
      sum-le n {f = λ v. is (dec_lt 0 (pred v)) + is (dec_lt 0 (pred' v))} {g = λ v. 1} (λ v l. one v),
      sum_one n,
    )
  where
    one : (v : ℕ) → is (dec_lt 0 (pred v)) + is (dec_lt 0 (pred' v)) ≤ 1
    one v =
        elim (dec_lt 0 (pred v)) [
          | yes some ↦ omega (arith, is-no (dec_lt 0 (pred' v)) (λ h. omega (arith, apart v some)), is-small (dec_lt 0 (pred v)))
          | no none ↦ omega (arith, is-no (dec_lt 0 (pred v)) none, is-small (dec_lt 0 (pred' v)))
        ]

module _ {back : Bool} {r : Residual} {S spare : ℕ → ℕ} {f : ℕ} {label queue : ℕ → ℕ} {n m : ℕ} where
  pub both-few : Both back r S spare f label queue n m → n + m ≤ r.net.groups + 2
  both-few B =
      omega (
        arith,
        B.mine.size,
        B.other.size,
        reached-apart (seen_in back f label) (seen_in (not back) f label) (r.net.groups + 2) (λ v. seen_apart f label v back),
      )

pub both-swap :
    (back : Bool) {r : Residual} {S spare : ℕ → ℕ} {f : ℕ} {label queue : ℕ → ℕ} {n m : ℕ} →
    Both back r S spare f label queue n m → Both (not back) r S spare f label queue m n
both-swap true B = record { mine = B.other; other = B.mine }
both-swap false B = record { mine = B.other; other = B.mine }

-- by a step from a node of a direction
module _
    {back : Bool} {r : Residual} {S spare : ℕ → ℕ} {f : ℕ} {label queue label' queue' : ℕ → ℕ} {n u e : ℕ}
    (T : Took back r S spare f label queue label' queue' n u e)
  where
    lit : 0 < seen_in back f label' T.v
    lit = omega (arith, ap (arc_in (base back f)) T.label_puts.here, arc-in-more (base back f) e T.small)

    pub spread-took : Spread back f label label'
    spread-took x =
        ⊎_elim
        (λ w. inr (ap label w.0 ∙ T.new, rw w.0 lit))
        (λ w. inl w.1)
        (puts-at T.label_puts x)

    pub took-free : (x : ℕ) → x ≡ T.v → Free back r S spare f label' x
    took-free x e = (
      λ z. omega (arith, seen-fresh f label' x back z, ap (seen_in back f label') e, lit),
      seen_apart f label' x back (rw e lit),
    )

    others : (x : ℕ) → seen_in (not back) f label' x ≡ seen_in (not back) f label x
    others x =
        ⊎_elim
        (λ w.
        seen_apart f label' x back (rw w.0 lit)
        ∙ sym (seen-fresh f label x (not back) (ap label w.0 ∙ T.new)))
        (λ w. ap (arc_in (base (not back) f)) w.1)
        (puts-at T.label_puts x)

    module _ {m : ℕ} (B : Both back r S spare f label queue n m) where
      low : n < r.net.groups + 2
      low = omega (arith, both-few B, B.other.some)

      pub took-both : u < r.net.groups + 2 → 0 < seen_in back f label u → Both back r S spare f label' queue' (n + 1) m
      took-both node seen = record {
        mine =
            let at = B.mine.spot u node seen in
            reach-later back r S spare (omega arith)
            (reach-more back r S spare B.mine at.1 at.1 at.2 T.node T.arc (seen-fresh f label T.v back T.new)
            (pred-puts (base back f) label label' T.v e T.small T.label_puts)
            (puts-spot r.net.groups back low T.queue_puts));
        other =
            reach-queue (not back) r S spare (reach-pred others B.other)
            (λ i c. T.queue_puts.else (spot r.net.groups (not back) i) (spot-apart r.net.groups back i n m c (both-few B)));
      }

      pub took-keep : (i : ℕ) → i < n → stands_in back r.net.groups queue' i ≡ stands_in back r.net.groups queue i
      took-keep i c = (puts-spot r.net.groups back low T.queue_puts).else i (λ e. omega arith)

      pub took-rest :
          (i : ℕ) → i < m → stands_in (not back) r.net.groups queue' i ≡ stands_in (not back) r.net.groups queue i
      took-rest i c = T.queue_puts.else (spot r.net.groups (not back) i) (spot-apart r.net.groups back i n m c (both-few B))
