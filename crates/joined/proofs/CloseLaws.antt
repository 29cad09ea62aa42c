-- Laws of closing the joined day: the joined file stands behind every step, and is never written.
--   tabled-same            tables that hold a day hold each day that agrees with it
--   joins-sound joins-kinds    the joined file is sound, and its claims are of the first terms
--   join-same              its day is the joined day
--   join-given             its tables have room in a scratch of the needed length, and may be written
--   join-wrote             once those of the joined day are, they are the joined file's
use mathlib.Core.Path.{◌≡◌, sym, ap, ap₂, subst, ◌∙◌}
use mathlib.Core.List.{List}
use Prim.Native.Nat.{ℕ, ◌+◌, ◌^◌, ◌<◌}
use native.Mathlib.Omega.{arith}
use lib.ListN.{length}
use Rattle.theory.specs.Network.{Instance}
use Rattle.theory.specs.Capped.{capped}
use Rattle.theory.specs.Priority as priority
use Rattle.claimfile.specs.declared.Layout.{Layout}
use Rattle.claimfile.specs.File.{first_terms, days}
use Rattle.claimfile.specs.Day.{groups_of, network_of, instance_of}
use Rattle.claimfile.specs.Sound.{Sound, Kinds}
use Rattle.scratch.specs.declared.Shape.{Shape}
use Rattle.scratch.specs.Map.{max_spare}
use Rattle.tables.specs.Tables.{shape_of, Shaped, Tabled, Wrote}
use Rattle.closing.specs.Settle.{scratch_for}
use Rattle.closing.proofs.SettleLaws.{in-first, tables-given}
use Rattle.counters.specs.Joined.{joined_net, joined}
use Rattle.members.specs.Members.{member_of, layouts_of}
use Rattle.joinfile.specs.Files.{DaysAgree}
use Rattle.joinfile.proofs.FileLaws.{joined-sound, joined-kinds}
use Rattle.joinfile.proofs.DayLaws.{joined-groups, joined_same}
use Rattle.jointables.specs.Filled.{days_of, JoinGiven, JoinWrote}
use Rattle.joined.specs.Call.{together}
use Rattle.joined.specs.Close.{Joins}

weight-same :
    (i j : Instance) → DaysAgree i j → (c : ℕ) → c < i.net.rows →
    priority.weight_of j.net.rows j.kind c ≡ priority.weight_of i.net.rows i.kind c
unfolding priority.weight_of
weight-same i j S c h = ap₂ (λ n k. (n + 1) ^ k) (sym S.net.rows) (sym (S.kinds c h))

pub tabled-same : (i j : Instance) (sh : Shape) (t : List ℕ) → DaysAgree i j → Tabled j sh t → Tabled i sh t
tabled-same i j sh t S T = record {
  parents = λ v h. T.parents v (omega (arith, S.net.groups)) ∙ sym (S.net.parent v h);
  limits = λ v h. T.limits v (omega (arith, S.net.groups)) ∙ ap (capped max_spare) (sym (S.limits v h));
  cards = λ c h. T.cards c (omega (arith, S.net.rows)) ∙ sym (S.net.card c h);
  shops = λ c h. T.shops c (omega (arith, S.net.rows)) ∙ sym (S.net.shop c h);
  weights = λ c h. T.weights c (omega (arith, S.net.rows)) ∙ weight-same i j S c h;
}

module _ (day : ℕ) (b ls : List ℕ) (oven : ℕ) (l : Layout) (J : Joins day b ls oven l) where
  pub joins-sound : Sound (together day b ls oven) l
  joins-sound =
      subst (Sound (together day b ls oven)) (sym J.layout)
      (joined-sound (length ls) (member_of b ls) (layouts_of day b ls) oven day J.read.all J.small)

  pub joins-kinds : Kinds first_terms (together day b ls oven) l
  joins-kinds =
      subst (Kinds first_terms (together day b ls oven)) (sym J.layout)
      (joined-kinds (length ls) (member_of b ls) (layouts_of day b ls) oven day J.read.all J.small)

  pub join-same : day < days → DaysAgree (instance_of (together day b ls oven) l) (joined (length ls) (days_of day b ls) oven)
  join-same week =
      subst (λ (x : Layout). DaysAgree (instance_of (together day b ls oven) x) (joined (length ls) (days_of day b ls) oven))
      (sym J.layout)
      (joined_same (length ls) (member_of b ls) (layouts_of day b ls) oven day J.read.all J.small week)

  shaped : (sh : Shape) → sh ≡ shape_of l → Shaped (joined_net (length ls) (days_of day b ls)) sh
  shaped sh e = record {
    cards = ap (λ (x : Shape). x.cards) e ∙ ap (λ (x : Layout). x.cards) J.layout;
    groups =
        ap (λ (x : Shape). x.groups) e
        ∙ ap groups_of J.layout
        ∙ joined-groups (length ls) (member_of b ls) (layouts_of day b ls) oven day J.read.all J.small;
    rows = ap (λ (x : Shape). x.rows) e ∙ ap (λ (x : Layout). x.rows) J.layout;
  }

  pub join-given :
      0 < l.rows → (t : List ℕ) → length t ≡ scratch_for (network_of (together day b ls oven) l) → (sh : Shape) → sh ≡ shape_of l →
      JoinGiven day b ls sh t
  join-given some t cells sh e = record {
    read = J.read;
    shape = shaped sh e;
    room = (tables-given first_terms (together day b ls oven) l (l.rows + 1) (in-first _ _ joins-kinds) joins-sound some t cells sh e).room;
  }

  pub join-wrote :
      day < days → (sh : Shape) (t t' : List ℕ) → JoinWrote day b ls oven sh t t' → Wrote (together day b ls oven) l sh t t'
  join-wrote week sh t t' W = record { long = W.long; tabled = tabled-same _ _ sh t' (join-same week) W.tabled }
