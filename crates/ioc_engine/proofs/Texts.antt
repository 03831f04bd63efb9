-- Texts that spell no link.
use Rattle.std.proofs.Common.{◌≡◌, ℕ, List, Option, Some, None, refl, inr}
use Rattle.std.specs.Prelude.{ok_or, IfErr, slice_get}
use Rattle.ioc_values.specs.declared.error.IocError.TheVariants.{BadLink}
use Rattle.ioc_links.specs.declared.link.Link.{Link}
use Rattle.ioc_links.specs.declared.link.LinkKind.{LinkKind}
use Rattle.ioc_links.specs.Grammar.{link_of}
use Rattle.ioc_fields.specs.declared.record_type.RecordType.{RecordType}
use Rattle.ioc_engine.specs.declared.channel.Channel.{Channel}
use Rattle.ioc_fields.specs.Table.{kind_of}
use Rattle.ioc_engine.specs.Relinking.{link_kind_in, kind_at, IsBadText}

pub refused_text : (types : List RecordType) (c : Channel) (text : List ℕ) (kind : LinkKind) → kind_at types c ≡ Some kind → (o : Option Link) → link_of kind text ≡ o → IfErr (ok_or o BadLink) (IsBadText types c text)
refused_text types c text kind at None none = inr (inr (refl, kind, at, none))
refused_text types c text kind at (Some link) some = tt

pub kind_there : (types : List RecordType) (c : Channel) (type : RecordType) (kind : LinkKind) → slice_get types c.number ≡ Some type → link_kind_in (kind_of type c.field) ≡ Some kind → kind_at types c ≡ Some kind
kind_there types c type kind here is = rw here is
