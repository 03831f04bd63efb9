use Rattle.std.proofs.lemmas.Result.{err_from_is_err_and}
use Rattle.std.proofs.Common.{ℕ, ◌≡◌, length, ap, ◌∙◌, subst, inr}
use Rattle.ioc_dbcommon.specs.declared.link_field.LinkField.{LinkField}
use Rattle.ioc_dbcommon.specs.declared.link_field.Lead.{Lead}
use Rattle.ioc_dbfile.specs.Finished.{leads_to}
use Rattle.ioc_dbfile.specs.OwnDevices.{owner_for}
use Rattle.rec_types.specs.Record.{record_rules}
use Rattle.ioc_engine_core.specs.Linked.{LinkWasRefused}
use Rattle.ioc_engine.specs.declared.lookup.Lookup.{Lookup}
use Rattle.ioc_engine.specs.Relinking.{field_of_link, IsTextOf, IsBadText}
use Rattle.ioc_engine.proofs.LinkRefusals.{link-there, refused-text, refused-link}
use Rattle.ioc_engine.proofs.engine.Engine.set_link.Goals as goal

pub returns-in_err-reply-clause-refused : goal.returns-in_err-reply-clause-refused
returns-in_err-reply-clause-refused g c =
    let p = err_from_is_err_and c.from_residual-in_err-reply.result c.from_residual-in_err-reply.ensures.1 in
    let look = c.args.self.now.lookup in
    let link = c.in_ok-link.link in
    let lead : c.lead-lead.result ≡ leads_to look.names look.types.items (owner_for look.owners c.args.channel.number) c.args.channel.number link =
    c.lead-lead.ensures
    ∙ (ap (λ (l : Lookup). leads_to l.names l.types.items (owner_for l.owners c.record-number.result) c.record-number.result link) c.get-lookup.ensures.table
    ∙ ap (λ (n : ℕ). leads_to look.names look.types.items (owner_for look.owners n) n link) c.record-number.ensures) in
    let kept : c.in-Ok.kept ≡ field_of_link look.names look.types.items (owner_for look.owners c.args.channel.number) c.args.channel.number link =
    c.in-Ok.ensures ∙ ap (λ (l : Lead). record { link = link; lead = l }) lead in
    let refused = c.in_err-reply.ensures.refused in
    rw (p.1, p.2) (inr (inr (inr (
      link,
      subst (λ (l : Lookup). IsTextOf l.types.items c.args.channel c.args.text.now link) c.get-lookup.ensures.table c.in_ok-link.ensures.link,
      subst (λ (l : LinkField). LinkWasRefused g.row.D.Denot record_rules g.B.JournalName.base c.args.self.now.core.count c.args.channel.number c.args.channel.field l c.in_err-reply.field-0.0) kept
          (subst (λ (n : ℕ). LinkWasRefused g.row.D.Denot record_rules g.B.JournalName.base c.args.self.now.core.count n c.args.channel.field c.in-Ok.kept c.in_err-reply.field-0.0) c.record-number.ensures refused),
    ))))

pub returns-in_err-link-clause-refused_by_type : goal.returns-in_err-link-clause-refused_by_type
returns-in_err-link-clause-refused_by_type g c =
    let p = err_from_is_err_and c.from_residual.result c.from_residual.ensures.1 in
    let types = c.args.self.now.lookup.types.items in
    rw (p.1, p.2) (refused-text g.B.JournalName.base c.args.channel (length types) types c.get-lookup.ensures.types c.args.text.now _ (subst (λ (l : Lookup). IsBadText l.types.items c.args.channel c.args.text.now c.in_err-link.field-0.0) c.get-lookup.ensures.table c.in_err-link.ensures.refused))

pub returns-in_err-reply-clause-refused_by_type : goal.returns-in_err-reply-clause-refused_by_type
returns-in_err-reply-clause-refused_by_type g c =
    let p = err_from_is_err_and c.from_residual-in_err-reply.result c.from_residual-in_err-reply.ensures.1 in
    rw (p.1, p.2) (refused-link g.B.JournalName.base c.args.channel c.types_stay.ensures.held c.record-number.result c.record-number.ensures c.args.self.now.core.count c.in-Ok.kept _ c.in_err-reply.ensures.refused)

pub returns-clause-is_link : goal.returns-clause-is_link
returns-clause-is_link g c =
    let types = c.args.self.now.lookup.types.items in
    let text = subst (λ (l : Lookup). IsTextOf l.types.items c.args.channel c.args.text.now c.in_ok-link.link) c.get-lookup.ensures.table c.in_ok-link.ensures.link in
    link-there g.B.JournalName.base c.args.channel (length types) types c.get-lookup.ensures.types text.kind text.field
