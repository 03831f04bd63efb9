use Rattle.ioc_record.specs.SameLinks.{same_disable, same_forward, same_own}
use Rattle.ioc_record.proofs.record.RecordRecordKind.copy_from.Goals as goal

pub match_common-requires-clause-disable_link : goal.match_common-requires-clause-disable_link
match_common-requires-clause-disable_link g c = same_disable _ _ _ _ _ _ c.requires.same_links

pub match_common-requires-clause-forward_link : goal.match_common-requires-clause-forward_link
match_common-requires-clause-forward_link g c = same_forward _ _ _ _ _ _ c.requires.same_links

pub copy_from-requires-clause-same_links : goal.copy_from-requires-clause-same_links
copy_from-requires-clause-same_links g c = same_own _ _ _ _ _ _ c.requires.same_links
