-- `layout_in` meets its contract: each count stands where those before it say, and the layout of an accepted file is the one for its counts.
use mathlib.Core.Path.{ap, ◌∙◌}
use native.Mathlib.Omega.{arith}
use Rattle.claimfile.specs.File.{new_week}
use Rattle.claimfile.specs.Day.{on_day}
use Rattle.claimfile.specs.declared.Layout.{Layout}
use Rattle.reader.proofs.AcceptedLaws.{accepted-sound}
use Rattle.claimwriter.proofs.CountsLaws.{counts-within, cards-read, shops-read, rows-read, layout-read}
use Rattle.claimwriter.proofs.layout_in.Goals as goal

pub u16_at-cards-requires : goal.u16_at-cards-requires
u16_at-cards-requires c =
    let day = c.args.day in
    let s = c.args.file.now in
    omega (arith, counts-within day s _ c.requires)

pub u16_at-shops-requires : goal.u16_at-shops-requires
u16_at-shops-requires c =
    let day = c.args.day in
    let s = c.args.file.now in
    let cards = cards-read day s _ c.requires _ c.u16_at-cards.ensures.0 in
    omega (arith, cards, counts-within day s _ c.requires)

pub u16_at-rows-requires : goal.u16_at-rows-requires
u16_at-rows-requires c =
    let day = c.args.day in
    let s = c.args.file.now in
    let cards = cards-read day s _ c.requires _ c.u16_at-cards.ensures.0 in
    let shops = shops-read day s _ c.requires _ _ cards c.u16_at-shops.ensures.0 in
    omega (arith, cards, shops, counts-within day s _ c.requires)

pub layout_for-requires : goal.layout_for-requires
layout_for-requires c =
    let day = c.args.day in
    let s = c.args.file.now in
    let cards = cards-read day s _ c.requires _ c.u16_at-cards.ensures.0 in
    let shops = shops-read day s _ c.requires _ _ cards c.u16_at-shops.ensures.0 in
    let rows = rows-read day s _ c.requires _ _ _ cards shops c.u16_at-rows.ensures.0 in
    let sound = accepted-sound (new_week day) s _ c.requires in
    (omega (arith, cards, sound.cards_most), omega (arith, shops, sound.shops_most), omega (arith, rows, sound.rows_most))

pub returns : goal.returns
returns c =
    let day = c.args.day in
    let s = c.args.file.now in
    let cards = cards-read day s _ c.requires _ c.u16_at-cards.ensures.0 in
    let shops = shops-read day s _ c.requires _ _ cards c.u16_at-shops.ensures.0 in
    let rows = rows-read day s _ c.requires _ _ _ cards shops c.u16_at-rows.ensures.0 in
    c.on_day.ensures
    ∙ ap (λ (x : Layout). on_day x day) c.layout_for.ensures.0
    ∙ layout-read day s _ c.requires _ _ _ cards shops rows
