use Rattle.std.proofs.Common.{List, Vec, Global, ◌≡◌, ◌<◌, ◌≤◌, ◌*◌, ◌+◌, ◌/◌, ◌%◌, length, slice_get, arith, sym, ap, ◌∙◌}
use Rattle.std.proofs.lemmas.Option.{slice_get_past}
use Rattle.std.proofs.Math.Nat.{div-add-mod, mod-lt}
use Rattle.ioc_journal.specs.declared.entry.JournalEntry.{JournalEntry}
use Rattle.ioc_journal.specs.Places.{PlacesOf}
use Rattle.ioc_journal.specs.Pieces.{items_in}
use Rattle.ioc_journal.proofs.Pieces.{length_items, at_full, at_current}
use Rattle.ioc_journal.proofs.entries.Entries.at.Goals as goal

pub returns-then-piece-len : goal.returns-then-piece-len
returns-then-piece-len g c =
    let place = c.args.place in
    let full = c.self.inside.full.items in
    let current = c.self.inside.current.items in
    let len = c.self.inside.full.ok.0 in
    let is = c.len.ensures in
    let lt = c.if-piece-len.true in
    let within : place / 256 < length full = omega (arith, len, is, lt) in
    let low : place % 256 < 256 = mod-lt place (omega arith) in
    let parts : 256 * (place / 256) + place % 256 ≡ place = div-add-mod place 256 in
    let there = at_full full current c.self.invariant.0.whole (place / 256) (place % 256) c.index.result.now within low in
    c.item_at.ensures
    ∙ (ap (λ (l : List JournalEntry). slice_get l (place % 256)) (c.deref.ensures.value ∙ ap (λ (v : Vec JournalEntry Global). v.items) c.index.ensures)
    ∙ (sym there ∙ (ap (slice_get (items_in full current)) parts ∙ ap (λ (p : PlacesOf JournalEntry). slice_get p.filled place) c.self.view_is)))

pub returns-then-piece-len-2 : goal.returns-then-piece-len-2
returns-then-piece-len-2 g c =
    let place = c.args.place in
    let full = c.self.inside.full.items in
    let current = c.self.inside.current.items in
    let len = c.self.inside.full.ok.0 in
    let is = c.len-2.ensures in
    let eq = c.if-piece-len-2.true in
    let parts : 256 * (place / 256) + place % 256 ≡ place = div-add-mod place 256 in
    let last : 256 * length full + place % 256 ≡ place = omega (arith, len, is, eq, parts) in
    c.item_at-then-piece-len-2.ensures
    ∙ (ap (λ (l : List JournalEntry). slice_get l (place % 256)) c.deref-then-piece-len-2.ensures.value
    ∙ (sym (at_current full current c.self.invariant.0.whole (place % 256)) ∙ (ap (slice_get (items_in full current)) last ∙ ap (λ (p : PlacesOf JournalEntry). slice_get p.filled place) c.self.view_is)))

pub returns : goal.returns
returns g c =
    let place = c.args.place in
    let i = c.self.invariant in
    let many = length_items c.self.inside.full.items c.self.inside.current.items i.0.whole in
    let few = i.0.part.0 in
    let len = c.self.inside.full.ok.0 in
    let is = c.len-2.ensures in
    let is' = c.len.ensures in
    let parts = div-add-mod place 256 in
    let low = c.if-piece-len.false in
    let other = c.if-piece-len-2.false in
    let past : length (items_in c.self.inside.full.items c.self.inside.current.items) ≤ place = omega (arith, many, few, len, is, is', parts, low, other) in
    sym (ap (λ (p : PlacesOf JournalEntry). slice_get p.filled place) (sym c.self.view_is) ∙ slice_get_past (items_in c.self.inside.full.items c.self.inside.current.items) place past)
