use Rattle.std.proofs.Common.{[]}
use Rattle.std.proofs.lemmas.Result.{on_ok_weaker, IfErr-weaker}
use Rattle.ioc_main.specs.Coming.{still}
use Rattle.ioc_main.proofs.Feeding.{last_fails, rest_empty, rest_answered}
use Rattle.ioc_main.proofs.lines.answer_rest.Goals as goal

pub returns-in-empty-clause-ok : goal.returns-in-empty-clause-ok
returns-in-empty-clause-ok g c =
    λ _. rest_empty c.args.said.now.replies (g.S.Session.transcript c.args.session.now) (g.W.Write.contents c.args.out.now) c.args.line.now c.as_slice.result.now c.as_slice.ensures.value c.in-empty.len_below (g.met.S.Session.no_lines c.args.session.now)

pub returns-in-len1-up-clause-ok : goal.returns-in-len1-up-clause-ok
returns-in-len1-up-clause-ok g c =
    λ told. on_ok_weaker c.say.result (λ p. rest_answered c.args.said.now.replies (g.S.Session.transcript c.args.session.now) (g.S.Session.transcript c.say.new.session) _ _ c.args.line.now c.as_slice.result.now c.as_slice-in-len1-up.result.now c.say.new.said.replies c.as_slice.ensures.value c.in-len1-up.len_at_least c.as_slice-in-len1-up.ensures.value (g.met.S.Session.no_lines c.say.new.session) (p [])) (c.say.ensures.ok told)

pub returns-in-len1-up-clause-err : goal.returns-in-len1-up-clause-err
returns-in-len1-up-clause-err g c =
    λ told. IfErr-weaker c.say.result _ _ (λ fault p. last_fails (still c.args.said.now.replies (g.S.Session.transcript c.args.session.now)) fault _ _ c.args.line.now c.as_slice.result.now c.as_slice-in-len1-up.result.now c.as_slice.ensures.value c.in-len1-up.len_at_least c.as_slice-in-len1-up.ensures.value (p [])) (c.say.ensures.err told)
