use Rattle.std.proofs.Common.{◌≡◌, ℕ, Some, refl, sym, ap, ◌∙◌}
use Rattle.std.specs.Prelude.{slice_get}
use Rattle.ioc_links.specs.Grammar.{link_of}
use Rattle.ioc_fields.specs.Table.{kind_of}
use Rattle.ioc_engine.specs.Relinking.{link_kind_in}
use Rattle.ioc_engine.proofs.Texts.{refused_text, kind_there}
use Rattle.ioc_engine.proofs.lookup.Lookup.link.Goals as goal

pub returns-clause-refused : goal.returns-clause-refused
returns-clause-refused c =
    let type = c.in-Some.record_type in
    let kind = c.in-Some-link_kind_in.kind in
    let here : slice_get c.args.self.now.types.items c.args.channel.number ≡ Some type = ap (λ (n : ℕ). slice_get c.args.self.now.types.items n) (sym c.record.ensures) ∙ sym c.record_type.ensures ∙ c.in-Some.is in
    let is : link_kind_in (kind_of type c.args.channel.field) ≡ Some kind = ap link_kind_in (sym c.kind_of.ensures) ∙ sym c.link_kind_in.ensures ∙ c.in-Some-link_kind_in.is in
    let at = kind_there c.args.self.now.types.items c.args.channel type kind here is in
    rw c.parse.ensures (refused_text c.args.self.now.types.items c.args.channel c.args.text.now kind at (link_of kind c.args.text.now) refl)
