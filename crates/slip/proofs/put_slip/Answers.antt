-- `put_slip` meets its contract: the first line and the kept rows' lines, which are two appends and so one. An accepted file has few
-- rows, so the place after each of them is a 64-bit number.
use mathlib.Core.Path.{ap₂}
use native.Mathlib.Omega.{arith}
use Rattle.text.proofs.BufferLaws.{then}
use Rattle.slip.specs.Slip.{first_line, kept_lines, slip}
use Rattle.slip.proofs.SlipLaws.{first-length, lines-length}
use Rattle.slip.proofs.put_slip.Goals as goal

pub put_first-after_first-requires : goal.put_first-after_first-requires
put_first-after_first-requires c =
    let a = c.args in
    omega (
      arith,
      first-length a.file.now a.layout c.requires.covers.sound a.selection.now a.counts.matched a.counts.kept
          c.requires.counted.matched c.requires.counted.kept,
    )

pub put_rows-requires : goal.put_rows-requires
put_rows-requires c =
    let a = c.args in
    record {
      covers = c.requires.covers;
      room = omega (
        arith,
        c.put_first-after_first.ensures.end,
        first-length a.file.now a.layout c.requires.covers.sound a.selection.now a.counts.matched a.counts.kept
            c.requires.counted.matched c.requires.counted.kept,
        lines-length a.file.now a.layout c.requires.covers.sound a.selection.now a.layout.rows (omega arith),
        c.requires.counted.kept,
        c.requires.counted.few,
        c.requires.covers.sound.rows_most,
      );
    }

pub returns : goal.returns
unfolding slip
returns c =
    let a = c.args in
    let line = ap₂ (first_line a.layout.rows) c.requires.counted.matched c.requires.counted.kept in
    then {b = kept_lines a.file.now a.layout a.layout.rows a.selection.now}
    (rw line at c.put_first-after_first.ensures) c.put_rows.ensures
