-- Document 02, E9: "Old-layout files, new or stored, .. act as ones with the same limit on seven days." For every accepted file s in a form f, of
-- either layout, its week file is `as_week s l` (claimwriter/specs/Week.antt), taken in the form `week_form f`: each limit of an old-layout file is
-- written seven times. Both hold the same day (`week-day`) and the same claims, and every answer is decided by these. Of fits and rank and of
-- spare places it is `ranked-week` (limits/proofs/WeekLaws.antt) and `spare-week` (spare/proofs/WeekLaws.antt).
--   settled-across, codes-across   two days that need the same lengths, and that are one where the week has the day, are promised the same
--   old-days                       an old-layout file holds the same day on every day of the week
--   settles-week                   what settle answers and leaves for the one is what it promises for the other
--   slip-week                      the slip call answers and leaves the same
--   codes-week                     what the call for the codes answers and leaves for the one is what it promises for the other
--   accept-week                    the same is told of a closing of the one and of the other
use mathlib.Core.Path.{◌≡◌, refl, sym, ap, ap₂, ◌∙◌, subst, fun_ext}
use mathlib.Core.Bool.{Bool, false, ◌&&◌}
use mathlib.Core.Logic.{◌↔◌}
use mathlib.Core.List.{List, [], ◌++◌}
use Prim.Native.Nat.{ℕ, zero, suc, ◌≤◌, ◌<◌}
use native.Mathlib.Decide.{dec_lt}
use native.Mathlib.Omega.{arith}
use lib.Dec.{ltb, leb, eqb}
use lib.ListN.{length, get_or}
use borrow.Author.Tests.{le-leb}
use Rattle.theory.specs.Sum.{pick}
use Rattle.theory.specs.Network.{Instance}
use Rattle.claimfile.specs.declared.Form.{Form}
use Rattle.claimfile.specs.declared.Layout.{Layout}
use Rattle.claimfile.specs.declared.Claim.{Claim}
use Rattle.claimfile.specs.File.{days}
use Rattle.reader.specs.Reading.{reading, Reading}
use Rattle.claimfile.specs.Day.{claim_of, network_of, instance_of, on_day, limit_of, written_of, parent_of, card_node, shop_node}
use Rattle.claimwriter.specs.Week.{week_form, as_week, week_layout}
use Rattle.reader.proofs.AcceptedLaws.{one-layout}
use Rattle.claimwriter.proofs.WeekLaws.{week-accepted, week-claim, week-day}
use Rattle.refusal.specs.declared.Reason.TheVariants.{Short, Day, Value}
use Rattle.refusal.specs.Writing.{turned, written, written_numbers}
use Rattle.selection.specs.Selection.{bits, is_kept, count, kept_rows}
use Rattle.closing.specs.Settle.{needed, Lacks, lacks, told_on, SettlesOn, Settles}
use Rattle.closing.specs.Settle as closing-settle
use Rattle.closing.proofs.AnswerLaws.{settles-accepted}
use Rattle.accept.specs.Accept.{judged, verdict_by, verdict}
use Rattle.codes.specs.Write.{Enough, Leaves, answer_for, Writes}
use Rattle.slip.specs.Slip.{first_line, row_line, kept_line, kept_lines, slip}
use Rattle.slip.specs.Write as slip-write
use Rattle.std.specs.Prelude.{Ok, Err, Result}
use Rattle.refusal.specs.declared.Reason.{Reason}
use Rattle.closing.specs.declared.Totals.{Totals}

--------------------------------------------------------------------------------
-- Two days that need the same lengths, and that are one where the week has the day

-- on a day that the week does not have, no limit is looked at
dayless-told :
    (i j : Instance) (d : ℕ) (ch sheet u : List ℕ) → days ≤ d → lacks i.net ch sheet u ≡ lacks j.net ch sheet u →
    told_on i d ch sheet u ≡ told_on j d ch sheet u
unfolding told_on
dayless-told i j d ch sheet u over e = rw (le-leb _ _ over, e)

settled-across :
    (i j : Instance) (d : ℕ) (ch sheet u ch' sheet' u' : List ℕ) (r : Result Totals Reason) →
    (Lacks j.net ch sheet u → Lacks i.net ch sheet u) →
    (closing-settle.Enough j.net ch sheet u → closing-settle.Enough i.net ch sheet u) →
    lacks i.net ch sheet u ≡ lacks j.net ch sheet u → (d < days → i ≡ j) → SettlesOn i d ch sheet u ch' sheet' u' r →
    SettlesOn j d ch sheet u ch' sheet' u' r
settled-across i j d ch sheet u ch' sheet' u' r short enough test same S =
    elim (dec_lt d days) [
      | yes known ↦ subst (λ (x : Instance). SettlesOn x d ch sheet u ch' sheet' u' r) (same known) S
      | no h ↦
          record {
            short = λ x. S.short (short x);
            dayless = λ x over. S.dayless (enough x) over;
            closed = λ x known. absurd (h known);
            told = S.told ∙ dayless-told i j d ch sheet u (omega arith) test;
          }
    ]

codes-across :
    (x y : Form) (v w : List ℕ) (a b : Layout) (codes u codes' u' : List ℕ) (r : Result ℕ Reason) → reading x v ≡ Ok a →
    reading y w ≡ Ok b → answer_for (reading x v) v codes u ≡ answer_for (reading y w) w codes u →
    (Enough (network_of w b) codes u → Enough (network_of v a) codes u) → a.day ≡ b.day →
    (a.day < days → instance_of v a ≡ instance_of w b) → Writes x v codes u codes' u' r → Writes y w codes u codes' u' r
codes-across x y v w a b codes u codes' u' r here there answers enough day same W =
    record {
      answer = W.answer ∙ answers;
      told = W.told ∙ ap written_numbers answers;
      refused = W.refused;
      written = λ k p lent known.
          let one : b ≡ k = one-layout (reading y w) b k there p in
          let known-here = subst (λ n. n < days) (sym (day ∙ ap (λ (z : Layout). z.day) one)) known in
          subst (λ (z : Layout). Leaves (instance_of w z) codes u codes' u') one
          (subst (λ (z : Instance). Leaves z codes u codes' u') (same known-here)
          (W.written a here (enough (subst (λ (z : Layout). Enough (network_of w z) codes u) (sym one) lent)) known-here));
    }

--------------------------------------------------------------------------------
-- The days of an old-layout file

-- the layout l with another form of the groups and another day
abbrev placed : Layout → Bool → ℕ → Layout
placed l week d = record {
  week = week;
  day = d;
  cards = l.cards;
  shops = l.shops;
  rows = l.rows;
  card_at = l.card_at;
  shop_at = l.shop_at;
  row_at = l.row_at;
}

-- it has one limit for all days, so that what it holds is the same on each
pub old-days :
    (s : List ℕ) (l : Layout) (d e : ℕ) → l.week ≡ false → instance_of s (on_day l d) ≡ instance_of s (on_day l e)
unfolding limit_of written_of parent_of card_node shop_node
old-days s l d e old = subst (λ (b : Bool). instance_of s (placed l b d) ≡ instance_of s (placed l b e)) (sym old) refl

module _
    (f : Form) (s : List ℕ) (l : Layout) (is : reading f s ≡ Ok l) (bytes : (i : ℕ) → get_or s i 0 < 256)
  where
    abbrev g : Form
    g = week_form f

    abbrev t : List ℕ
    t = as_week s l

    abbrev m : Layout
    m = week_layout l

    there : reading g t ≡ Ok m
    there = week-accepted f s l is bytes

    same-claims : claim_of s l ≡ claim_of t m
    same-claims = fun_ext (week-claim f s l is bytes)

    -- on a day that the week has
    same-day : l.day < days → instance_of s l ≡ instance_of t m
    same-day known = week-day f s l is bytes l.day known

    ----------------------------------------------------------------------------
    -- Settle

    pub settles-week :
        (ch sheet u ch' sheet' u' : List ℕ) (r : Result Totals Reason) →
        Settles f s ch sheet u ch' sheet' u' r ↔ Settles (week_form f) (as_week s l) ch sheet u ch' sheet' u' r
    settles-week ch sheet u ch' sheet' u' r = (
      λ S.
          settles-accepted g t ch sheet u ch' sheet' u' r m there
          (settled-across (instance_of s l) (instance_of t m) l.day ch sheet u ch' sheet' u' r (λ x. x)
          (λ e. record { choices = e.choices; sheets = e.sheets; cells = e.cells }) refl same-day (S.settled l is)),
      λ S.
          settles-accepted f s ch sheet u ch' sheet' u' r l is
          (settled-across (instance_of t m) (instance_of s l) l.day ch sheet u ch' sheet' u' r (λ x. x)
          (λ e. record { choices = e.choices; sheets = e.sheets; cells = e.cells }) refl (λ known. sym (same-day known))
          (S.settled m there)),
    )

    ----------------------------------------------------------------------------
    -- The slip

    lines_same : (n : ℕ) (sel : List ℕ) → kept_lines s l n sel ≡ kept_lines t m n sel
    unfolding kept_lines kept_line
    lines_same zero sel = refl
    lines_same (suc c) sel =
        ap₂ ◌++◌ (lines_same c sel)
        (ap (λ (x : Claim). pick (is_kept sel c) (row_line c x.card x.shop (eqb x.kind 1)) []) (week-claim f s l is bytes c))

    slip-same : (sel : List ℕ) → slip s l sel ≡ slip t m sel
    unfolding slip
    slip-same sel =
        ap₂ ◌++◌
        (ap (λ (x : ℕ → Claim). first_line l.rows (count l.rows (λ c. is_kept sel c && eqb (x c).kind 1)) (kept_rows l.rows sel))
        same-claims)
        (lines_same l.rows sel)

    pub slip-week : (sel out : List ℕ) → slip-write.outcome f s sel out ≡ slip-write.outcome (week_form f) (as_week s l) sel out
    unfolding slip-write.outcome slip-write.outcome_on
    slip-week sel out =
        ap (slip-write.outcome_by s sel out) is
        ∙ ap
        (λ text.
        pick (slip-write.lacks l sel out) (turned Short out)
        (pick (leb days l.day) (turned Day out) (pick (bits l.rows sel) (written text out) (turned Value out))))
        (slip-same sel)
        ∙ ap (slip-write.outcome_by t sel out) (sym there)

    ----------------------------------------------------------------------------
    -- The codes

    pub codes-week :
        (codes u codes' u' : List ℕ) (r : Result ℕ Reason) →
        Writes f s codes u codes' u' r ↔ Writes (week_form f) (as_week s l) codes u codes' u' r
    codes-week codes u codes' u' r = (
      codes-across f g s t l m codes u codes' u' r is there answers (λ e. record { bytes = e.bytes; cells = e.cells }) refl same-day,
      codes-across g f t s m l codes u codes' u' r there is (sym answers) (λ e. record { bytes = e.bytes; cells = e.cells }) refl
          (λ known. sym (same-day known)),
    )
      where
        answers : answer_for (reading f s) s codes u ≡ answer_for (reading g t) t codes u
        answers = ap (λ (x : Reading). answer_for x s codes u) is ∙ ap (λ (x : Reading). answer_for x t codes u) (sym there)

    ----------------------------------------------------------------------------
    -- Accept

    pub accept-week : (ch sheet : List ℕ) → verdict f s ch sheet ≡ verdict (week_form f) (as_week s l) ch sheet
    unfolding verdict
    accept-week ch sheet =
        ap (λ (x : Reading). verdict_by s x ch sheet) is
        ∙ elim (dec_lt l.day days) [
          | yes known ↦
              ap
              (λ (i : Instance).
              pick (ltb (length ch) l.rows) (Err Short)
              (pick (ltb (length sheet) (needed (network_of s l))) (Err Short)
              (pick (leb days l.day) (Err Day) (pick (bits l.rows ch) (judged i ch sheet) (Err Value)))))
              (same-day known)
          | no h ↦
              let over : days ≤ l.day = omega arith in
              rw (le-leb _ _ over)
        ]
        ∙ ap (λ (x : Reading). verdict_by t x ch sheet) (sym there)
