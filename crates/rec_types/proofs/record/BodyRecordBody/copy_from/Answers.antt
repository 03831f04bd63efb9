use Rattle.std.proofs.Common.{◌≡◌, sym, ap, ◌∙◌}
use Rattle.rec_types.specs.declared.record.Body.{Body}
use Rattle.rec_types.specs.Record.{link}
use Rattle.rec_types.proofs.record.BodyRecordBody.copy_from.Goals as goal

-- Bodies with the same links have them also where their types are known.
same_links : {one other x y : Body} → one ≡ x → other ≡ y → link one ≡ link other → link x ≡ link y
same_links is_one is_other same = sym (ap link is_one) ∙ same ∙ ap link is_other

pub copy_from-requires-clause-same_links : goal.copy_from-requires-clause-same_links
copy_from-requires-clause-same_links c = same_links c.in-Longin.is c.in-Longin-other.is c.requires.same_links

pub copy_from-requires-in-Longout-other-clause-same_links : goal.copy_from-requires-in-Longout-other-clause-same_links
copy_from-requires-in-Longout-other-clause-same_links c = same_links c.in-Longout.is c.in-Longout-other.is c.requires.same_links

pub copy_from-requires-in-Int64in-other-clause-same_links : goal.copy_from-requires-in-Int64in-other-clause-same_links
copy_from-requires-in-Int64in-other-clause-same_links c = same_links c.in-Int64in.is c.in-Int64in-other.is c.requires.same_links

pub copy_from-requires-in-Int64out-other-clause-same_links : goal.copy_from-requires-in-Int64out-other-clause-same_links
copy_from-requires-in-Int64out-other-clause-same_links c = same_links c.in-Int64out.is c.in-Int64out-other.is c.requires.same_links

pub copy_from-requires-in-Bi-other-clause-same_links : goal.copy_from-requires-in-Bi-other-clause-same_links
copy_from-requires-in-Bi-other-clause-same_links c = same_links c.in-Bi.is c.in-Bi-other.is c.requires.same_links

pub copy_from-requires-in-Bo-other-clause-same_links : goal.copy_from-requires-in-Bo-other-clause-same_links
copy_from-requires-in-Bo-other-clause-same_links c = same_links c.in-Bo.is c.in-Bo-other.is c.requires.same_links

pub copy_from-requires-in-Mbbi-other-clause-same_links : goal.copy_from-requires-in-Mbbi-other-clause-same_links
copy_from-requires-in-Mbbi-other-clause-same_links c = same_links c.in-Mbbi.is c.in-Mbbi-other.is c.requires.same_links

pub copy_from-requires-in-Mbbo-other-clause-same_links : goal.copy_from-requires-in-Mbbo-other-clause-same_links
copy_from-requires-in-Mbbo-other-clause-same_links c = same_links c.in-Mbbo.is c.in-Mbbo-other.is c.requires.same_links

pub copy_from-requires-in-Stringin-other-clause-same_links : goal.copy_from-requires-in-Stringin-other-clause-same_links
copy_from-requires-in-Stringin-other-clause-same_links c = same_links c.in-Stringin.is c.in-Stringin-other.is c.requires.same_links

pub copy_from-requires-in-Stringout-other-clause-same_links : goal.copy_from-requires-in-Stringout-other-clause-same_links
copy_from-requires-in-Stringout-other-clause-same_links c = same_links c.in-Stringout.is c.in-Stringout-other.is c.requires.same_links

pub copy_from-requires-in-Fanout-other-clause-same_links : goal.copy_from-requires-in-Fanout-other-clause-same_links
copy_from-requires-in-Fanout-other-clause-same_links c = same_links c.in-Fanout.is c.in-Fanout-other.is c.requires.same_links

pub copy_from-requires-in-Event-other-clause-same_links : goal.copy_from-requires-in-Event-other-clause-same_links
copy_from-requires-in-Event-other-clause-same_links c = same_links c.in-Event.is c.in-Event-other.is c.requires.same_links

pub copy_from-requires-in-Ai-other-clause-same_links : goal.copy_from-requires-in-Ai-other-clause-same_links
copy_from-requires-in-Ai-other-clause-same_links c = same_links c.in-Ai.is c.in-Ai-other.is c.requires.same_links

pub copy_from-requires-in-Ao-other-clause-same_links : goal.copy_from-requires-in-Ao-other-clause-same_links
copy_from-requires-in-Ao-other-clause-same_links c = same_links c.in-Ao.is c.in-Ao-other.is c.requires.same_links

pub copy_from-requires-in-Calc-other-clause-same_links : goal.copy_from-requires-in-Calc-other-clause-same_links
copy_from-requires-in-Calc-other-clause-same_links c = same_links c.in-Calc.is c.in-Calc-other.is c.requires.same_links

pub copy_from-requires-in-Calcout-other-clause-same_links : goal.copy_from-requires-in-Calcout-other-clause-same_links
copy_from-requires-in-Calcout-other-clause-same_links c = same_links c.in-Calcout.is c.in-Calcout-other.is c.requires.same_links

pub copy_from-requires-in-Sel-other-clause-same_links : goal.copy_from-requires-in-Sel-other-clause-same_links
copy_from-requires-in-Sel-other-clause-same_links c = same_links c.in-Sel.is c.in-Sel-other.is c.requires.same_links
