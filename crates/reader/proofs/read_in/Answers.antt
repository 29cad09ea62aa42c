use mathlib.Core.Path.{sym, ◌∙◌}
use native.Mathlib.Omega.{arith}
use Rattle.reader.proofs.FileLaws.{claims-fault, trailing, accepted}
use Rattle.reader.proofs.ReadLaws.{read-start, read_next, read-fault, read-cards, read-shops}
use Rattle.reader.proofs.read_in.Goals as goal

pub loop-side-init : goal.loop-side-init
loop-side-init c = read-start c.args.form c.args.file.now

-- a group section with a fault
pub returns-in_default : goal.returns-in_default
returns-in_default c =
    let a = c.args in
    let l = c.loop-side in
    sym
    (read-fault a.form a.file.now l.side l.sections l.at l.invariant (omega arith) a.kinds _
    (sym c.read_groups-groups.ensures ∙ c.unwrap_err.ensures))

pub loop-side-preserved : goal.loop-side-preserved
loop-side-preserved c =
    let a = c.args in
    let l = c.loop-side in
    read_next a.form a.file.now l.side l.sections l.at l.invariant (omega arith) _ (sym c.read_groups-groups.ensures ∙ c.in-Ok.is)

-- both group sections were read
pub returns-in_default-rows : goal.returns-in_default-rows
returns-in_default-rows c =
    let a = c.args in
    let l = c.loop-side in
    sym
    (claims-fault a.kinds a.form a.file.now _ _ _ (read-cards a.form a.file.now l.side l.sections l.at l.invariant (omega arith)) _ _ _
    (read-shops a.form a.file.now l.side l.sections l.at l.invariant (omega arith)) _
    (sym c.read_claims-rows.ensures ∙ c.unwrap_err-in_default-rows.ensures))

pub returns-then-claims-file : goal.returns-then-claims-file
returns-then-claims-file c =
    let a = c.args in
    let l = c.loop-side in
    sym
    (trailing a.kinds a.form a.file.now _ _ _ (read-cards a.form a.file.now l.side l.sections l.at l.invariant (omega arith)) _ _ _
    (read-shops a.form a.file.now l.side l.sections l.at l.invariant (omega arith)) _ _ _
    (sym c.read_claims-rows.ensures ∙ c.in-Ok-rows.is) (omega arith))

pub returns : goal.returns
returns c =
    let a = c.args in
    let l = c.loop-side in
    sym
    (accepted a.kinds a.form a.file.now _ _ _ (read-cards a.form a.file.now l.side l.sections l.at l.invariant (omega arith)) _ _ _
    (read-shops a.form a.file.now l.side l.sections l.at l.invariant (omega arith)) _ _ _
    (sym c.read_claims-rows.ensures ∙ c.in-Ok-rows.is) (omega arith))
