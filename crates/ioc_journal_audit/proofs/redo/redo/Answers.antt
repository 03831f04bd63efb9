use Rattle.std.proofs.lemmas.Result.{IfOk-weaker}
use Rattle.ioc_journal_audit.proofs.Redone.{unchanged}
use Rattle.ioc_journal_audit.proofs.redo.redo.Goals as goal

pub returns-in-Get-clause-redoes : goal.returns-in-Get-clause-redoes
returns-in-Get-clause-redoes g c = rw c.in-Get.is (c.redo_get.ensures c.args.frames.now c.requires.empty)

pub returns-in-IsLive-clause-redoes : goal.returns-in-IsLive-clause-redoes
returns-in-IsLive-clause-redoes g c = rw c.in-IsLive.is (c.redo_is_live.ensures c.args.frames.now c.requires.empty)

pub returns-in-Link-clause-redoes : goal.returns-in-Link-clause-redoes
returns-in-Link-clause-redoes g c = rw c.in-Link.is (IfOk-weaker c.redo_link.result _ _ (λ redone h. h c.args.frames.now c.requires.empty) c.redo_link.ensures.redoes)

pub returns-in-Post-clause-redoes : goal.returns-in-Post-clause-redoes
returns-in-Post-clause-redoes g c = unchanged g.K.RecordKind.rules c.args.map.now c.args.frames.now c.requires.empty c.args.made.now c.in-Post.is
